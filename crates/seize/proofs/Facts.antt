-- What other crates may build on, with `Contents` for values that hold blocks. All else in `proofs` is no interface, and may change. Assumes
-- `Logic`.
use Rattle.std.proofs.Common.{◌≡◌, ◌⊎◌, ℕ, Bool, true, false, Option, Some, inl, inr, refl, sym, ◌∙◌, subst}
use base.Growing.{prefix_trans}
use base.Stored.{Coded}
use mathlib.Core.List.{IsPrefix}
use Rattle.seize_machine.specs.Machine.History.{Reclaimed, Retired, end_of}
use Rattle.seize_machine.specs.Machine.Laws.{IsBatched, IsRested, is_quiet}
use Rattle.seize_machine.proofs.Facts.{some_is}
use Rattle.seize_machine.specs.Machine.State.{are_distinct, linked_values}
use Rattle.seize_book.specs.Book.{IsLegalList, moments}
use Rattle.seize_book.specs.Tokens.{Name, start}
use Rattle.seize_book.specs.declared.book.pass.Pass.{Pass}
use Rattle.seize_book.specs.declared.book.seen.Seen.{Seen}
use Rattle.seize_words.specs.Chunks.{IsLentAs}
use Rattle.seize_words.proofs.Facts.{told_later, told_once}
use Rattle.seize_words.specs.declared.words.Words.{Words}
use Rattle.seize_parts.specs.Blocks.{HasContent}
use Rattle.seize_guards.specs.Links.{Shows, shared_value}
use Rattle.seize.specs.Collectors.{its_book, seen_by}
use Rattle.seize_parts.specs.Laws.{LawsHold, WaitsBelow, moments_seen, opening_of}
use Rattle.seize_parts.specs.Makes.{IsOfKind}
use Rattle.seize.specs.Reclaims.{Learns, ReclaimsAll, moments_kept, moments_of}
use Rattle.seize.specs.declared.collector.Collector.{Collector}
use Rattle.seize_guards.specs.declared.block.shared.Shared.{Shared}
-- what was found stays found; and what one call makes and then another
pub use Rattle.seize_guards.proofs.Found.{found_still}
pub use Rattle.seize_parts.proofs.Made.{makes_then, then_none}
-- a name says one content: `coded` is `T.row.coded`
pub use Rattle.seize_guards.proofs.Allowing.{content_once}
-- a pass that took a number, or gave one back
pub use Rattle.seize_guards.proofs.Same.{same_ended, same_taken}
-- what the rule of links carries on, and what a name says
pub use Rattle.seize_parts.proofs.Ruled.{follows_between, held_after, held_at_last, held_between, held_from, held_through, held_throughout, holds_said, kept_within, says_once, since_seen}
-- from a read or a won exchange to what the link holds later, by the rule; and a block in hand is what its name says
pub use Rattle.seize_guards.proofs.Onwards.{earlier_since, end_onwards, lost_there, named_says, read_onwards, read_there, read_till_read, still_since, won_onwards, won_there}
-- what calls made with a pass stands among the moments of which the laws speak, and in each list that goes on
pub use Rattle.seize_parts.proofs.Stands.{made_since, read_found, reclaimed_still, retired_still}
-- and a value whose retirement returned is retired there
pub use Rattle.seize.proofs.Retired.{call_still, retired_by}

-- The kind of a value stays so as a pass sees more, and it has one.
pub kind_still : (v kind : ℕ) (pass pass' : Pass) → IsPrefix pass.seen pass'.seen → IsOfKind v kind pass → IsOfKind v kind pass'
kind_still v kind pass pass' grows told = told_later pass.seen pass'.seen v kind grows told

pub kind_once : (v k l : ℕ) (pass : Pass) → are_distinct (linked_values pass.name.links) ≡ true → IsLegalList (start pass.name) pass.seen → IsOfKind v k pass → IsOfKind v l pass → k ≡ l
kind_once v k l pass distinct legal one two = told_once pass.name pass.seen v k l distinct legal one two

-- What was found in a link is the content of what the link held.
pub found_content : {T : Type 0} (collector : Words T) (coded : Coded T) (held : Option ℕ) (shared : Shared T) (v : ℕ) (x : T)
    → Shows collector coded.code held (Some shared) → held ≡ Some v → HasContent coded.code v x → shared_value shared ≡ x
found_content collector coded held shared v x shows is has =
    content_once coded v (shared_value shared) x
    (subst (λ (w : ℕ). IsLentAs w (coded.code (shared_value shared))) (some_is shows.1.1.0 v (sym shows.1.1.1 ∙ (shows.0 ∙ is))) shows.1.1.2) has

-- At rest a retired value is reclaimed, or waits below the bound of the greatest batch size.
pub rests_below : (most : ℕ) (pass : Pass) → LawsHold most pass → is_quiet (end_of (opening_of pass) (moments_seen pass)) ≡ true → (v q : ℕ) → Retired (moments_seen pass) v q
    → ((c : ℕ) × Reclaimed (moments_seen pass) v c) ⊎ WaitsBelow most (end_of (opening_of pass) (moments_seen pass)) v
rests_below most pass laws rest v q retired = go (laws.0.quiet rest v q retired)
  where
    go : ((c : ℕ) × Reclaimed (moments_seen pass) v c) ⊎ IsBatched (end_of (opening_of pass) (moments_seen pass)) v (moments_seen pass) ⊎ IsRested (end_of (opening_of pass) (moments_seen pass)) v (moments_seen pass)
        → ((c : ℕ) × Reclaimed (moments_seen pass) v c) ⊎ WaitsBelow most (end_of (opening_of pass) (moments_seen pass)) v
    go (inl gone) = inl gone
    go (inr (inl batched)) = inr (inl (batched.0, batched.1, batched.2 most laws.1))
    go (inr (inr rested)) = inr (inr (rested.0, rested.1 most laws.1))

-- What was retired as a pass had seen is retired in what was kept of it later.
pub kept_retired : (known : Seen) (pass : Pass) (v q : ℕ) → known.name ≡ pass.name → IsPrefix pass.seen known.seen → Retired (moments_seen pass) v q → Retired (moments_kept known) v q
kept_retired known pass v q name grows retired =
    retired_still (start known.name) pass.seen known.seen v q grows (subst (λ (n : Name). Retired (moments (start n) pass.seen) v q) (sym name) retired)

-- What was retired in what the collector learned is reclaimed when it has reclaimed all.
pub reclaimed_then : {T R : Type 0} (known : Seen) (c c' c'' : Collector T R) (v q : ℕ) → known.name ≡ its_book c → Learns c c' known → ReclaimsAll c' c'' true → Retired (moments_kept known) v q → (k : ℕ) × Reclaimed (moments_of c'') v k
reclaimed_then known c c' c'' v q name learns all retired =
    all.reclaimed refl v q
    (retired_still (start (its_book c'')) known.seen (seen_by c'') v q (prefix_trans known.seen all.at_call (seen_by c'') (prefix_trans known.seen (seen_by c') all.at_call learns.knows all.goes_on.grows) all.grows.grows)
    (subst (λ (n : Name). Retired (moments (start n) known.seen) v q) (name ∙ sym learns.same.0 ∙ sym all.same.0) retired))
