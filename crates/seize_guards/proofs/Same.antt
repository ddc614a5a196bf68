-- A pass that took a number, or gave one back, is the pass still that it was, and has seen no less.
use Rattle.std.proofs.Common.{ℕ, Bool, true, false, List, inl, inr}
use base.Growing.{prefix_trans}
use mathlib.Core.List.{IsPrefix}
use Rattle.seize_book.proofs.Facts.{same_twice}
use Rattle.seize_book.specs.Passes.{IsSamePass}
use Rattle.seize_book.specs.declared.book.pass.Pass.{Pass}
use Rattle.seize_parts.specs.Makes.{EndsUse, GivesNumber, TakesNumber}

pub same_taken : {IsPut : Pass → ℕ → List ℕ → Type 0} {s : ℕ} {pass pass' : Pass} → TakesNumber IsPut s pass pass' → IsSamePass pass pass'
same_taken (inl one) = one.same
same_taken (inr whole) = whole.made.same

pub same_given : (IsPut : Pass → ℕ → List ℕ → Type 0) (s : ℕ) (pass pass' : Pass) → GivesNumber IsPut s pass pass' → IsSamePass pass pass' × IsPrefix pass.seen pass'.seen
same_given IsPut s _ _ (GivesNumber.gives pass pass' one) = (one.same, one.grows)
same_given IsPut s _ _ (GivesNumber.gathers pass mid pass' call rest) =
    let more = same_given IsPut s mid pass' rest in (same_twice pass mid pass' call.made.same more.0, prefix_trans pass.seen mid.seen pass'.seen call.made.grows more.1)

pub same_ended : (IsPut : Pass → ℕ → List ℕ → Type 0) (s : ℕ) (pass pass' : Pass) (gave : Bool) → EndsUse IsPut s pass pass' gave → IsSamePass pass pass' × IsPrefix pass.seen pass'.seen
same_ended IsPut s pass pass' true ends = same_given IsPut s pass pass' ends
same_ended IsPut s pass pass' false ends = (ends.0.same, ends.0.grows)
