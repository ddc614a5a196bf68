-- A look that goes after a step on a link adds nothing.
use Rattle.std.proofs.Common.{◌≡◌, ◌≢◌, ℕ, true, Option, Some, None, is_some, refl, sym, subst, arith}
use Rattle.seize_machine.specs.Machine.State.{State, are_distinct, linked_values}
use Rattle.seize_book.specs.Blocks.{link_word}
use Rattle.seize_book.specs.Book.{IsLegalList, after}
use Rattle.seize_book.specs.Entry.{Entry}
use Rattle.seize_book.specs.Homes.{IsSound}
use Rattle.seize_book.specs.Passes.{IsSamePass, LooksOn}
use Rattle.seize_book.specs.Loans.{AllCarryOne}
use Rattle.seize_book.specs.Tokens.{AddsEntry, Name, start}
use Rattle.seize_book.specs.declared.book.pass.Pass.{Pass}
use base.Growing.{prefix_refl}

-- a pass that looks at once after a step sees nothing more
pub looks_here : (pass pass' : Pass) (e : Entry) → IsSamePass pass pass' → AddsEntry pass.name pass.id pass.seen pass'.seen e → LooksOn pass' pass'
looks_here pass pass' e same noted = record {
  same = (refl, refl, refl);
  none_made = refl;
  grows = prefix_refl pass'.seen;
  alone = λ s. refl;
  legal = subst (λ (n : Name). IsLegalList (start n) pass'.seen) (sym same.0) noted.legal;
  sound = subst (λ (n : Name). IsSound (after (start n) pass'.seen)) (sym same.0) noted.sound;
  lent = subst (λ (n : Name). AllCarryOne (after (start n) pass'.seen).named) (sym same.0) (subst (λ (z : State). AllCarryOne z.named) (sym noted.leads) noted.lent);
  distinct = subst (λ (n : Name). are_distinct (linked_values n.links) ≡ true) (sym same.0) noted.distinct;
}

-- what a link holds, by its word

pub holds_none : (o : Option ℕ) → link_word o ≡ 0 → o ≡ None
holds_none None is = refl
holds_none (Some w) is = absurd (omega (arith, is))

pub holds_some : (o : Option ℕ) → link_word o ≢ 0 → is_some o ≡ true
holds_some None some = absurd (some refl)
holds_some (Some w) some = refl
