-- What a look at the list with a slot says as users see it (`Slot::current`): no event was made, and the slot is active if it was.
use Rattle.std.proofs.Common.{◌≡◌, ℕ, true, [], sym, subst, ◌∙◌}
use Rattle.seize_machine.specs.Machine.State.{head_at, is_active}
use Rattle.seize_book.specs.Book.{after}
use Rattle.seize_book.specs.Slots.{LooksWithSlotKey}
use Rattle.seize_book.specs.Tokens.{Name, start}
use Rattle.seize_book.specs.declared.book.pass.Pass.{Pass}
use Rattle.seize_words.specs.declared.words.Words.{Words}
use Rattle.seize_calls.specs.Slots.{IsActive, IsOfWords, IsPassOf, SlotLooks, its_number}
use Rattle.seize_calls.specs.declared.slot.Slot.{Slot}
use Rattle.seize_parts.specs.Makes.{IsActiveIn, MakesNone}
use Rattle.seize_parts.proofs.Made.{makes_ready, none_looked}

module _ {T : Type 0} (slot : Slot T) (pass : Pass) (slot' : Slot T) (pass' : Pass) where
  -- no event is made
  pub slot_looks : SlotLooks slot pass slot' pass' → MakesNone pass pass'
  slot_looks looks = makes_ready slot pass slot' pass' (λ p. LooksWithSlotKey slot.holder.key p slot'.holder.key pass') [] (λ ready does. none_looked ready pass' does.on) looks.0

  -- and a slot that is active, as its key knew, is so in what the pass has seen then
  pub looks_active : (words : Words T) → IsOfWords words slot → IsPassOf words pass → SlotLooks slot pass slot' pass' → IsActive slot → IsActiveIn pass' (its_number slot)
  looks_active words of for looks active =
      let does = looks.0.does in let book = slot.together.book ∙ of.book ∙ for.0 ∙ sym looks.0.prepares.same.0 ∙ sym does.on.same.0 in
      subst (λ (t : Name × ℕ). is_active (head_at (after (start t.0) pass'.seen) t.1) ≡ true) (λ j. (book j, slot.together.numbered j)) (does.active ∙ active)
