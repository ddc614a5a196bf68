-- What the list shows, slot by slot, of a state that hands hold.
--     slot_all, head_all      a slot and its head, where no retired batch is forgotten
--     slot_shown              a slot, whose batches have the numbers that the list gives them
--     active_shown            it is active where it has a guard
--     owned_shown             an owned one has one guard at most
--     many_shown              there are as many
use Rattle.std.proofs.Common.{◌≡◌, ℕ, ◌≤◌, true, List, length, get_or, Option, refl, ◌∙◌, ap, subst}
use Rattle.std.proofs.lemmas.List.{length-map}
use base.Stored.{Gv}
use Rattle.seize_machine.specs.Machine.State as machine
use Rattle.seize_machine.specs.Machine.State.{Head, Inactive, head_at, is_active}
use Rattle.seize_model.specs.Waiting.State as waiting
use Rattle.seize_model.specs.Waiting.Calls.{is_owned}
use Rattle.seize_model.specs.Agreement.Shows.{ShowsSlot, head_of}
use Rattle.seize_model.proofs.Simulation.Beginnings.{head_active}
use Rattle.seize_book.specs.Book.{after}
use Rattle.seize_book.specs.Entry.{Entry}
use Rattle.seize_book.specs.Tokens.{Name, start}
use Rattle.seize_alone.specs.Holding.{Holds, HoldsAll, found, some_slot, some_state, with_gone_below, with_order_from}
use Rattle.seize_alone.proofs.Below.{slot_below}
use Rattle.seize_alone.proofs.Mapped.{get_map, slot_same}

module _ {T : Type 0} {code : T → Gv} {st : waiting.ModelState T ℕ} {names : List (ℕ × T)} {kinds : List (ℕ × ℕ)} {n : Name} {seen : List Entry} where
  pub slot_all : HoldsAll code st names kinds n seen → (s : ℕ) → ShowsSlot (Option T) (Option ℕ) (found names) (some_slot (waiting.model_slot st s)) (machine.slot_at (after (start n) seen) s)
  slot_all holds s = subst (λ (x : waiting.ModelSlot (Option T) (Option ℕ)). ShowsSlot (Option T) (Option ℕ) (found names) x (machine.slot_at (after (start n) seen) s)) (slot_same st s) (holds.shows.slot s)

  pub head_all : HoldsAll code st names kinds n seen → (s : ℕ) → head_at (after (start n) seen) s ≡ head_of (some_slot (waiting.model_slot st s))
  head_all holds s =
      ap (λ (l : List Head). get_or l s Inactive) holds.shows.heads
      ∙ get_map head_of (some_state st).slots s waiting.unmade_slot Inactive refl
      ∙ ap (λ (x : waiting.ModelSlot (Option T) (Option ℕ)). head_of x) (slot_same st s)

module _ {T : Type 0} {code : T → Gv} {st : waiting.ModelState T ℕ} {names : List (ℕ × T)} {kinds : List (ℕ × ℕ)} {n : Name} {seen : List Entry} (holds : Holds code st names kinds n seen) where
  pub slot_shown : (s : ℕ) → ShowsSlot (Option T) (Option ℕ) (found names) (some_slot (with_order_from holds.gone (waiting.model_slot st s))) (machine.slot_at (after (start n) seen) s)
  slot_shown s =
      subst (λ (x : waiting.ModelSlot T ℕ). ShowsSlot (Option T) (Option ℕ) (found names) (some_slot x) (machine.slot_at (after (start n) seen) s)) (slot_below holds.gone st s) (slot_all holds.all s)

  pub active_shown : (s : ℕ) → is_active (head_at (after (start n) seen) s) ≡ waiting.has_guard (waiting.model_slot st s)
  active_shown s =
      ap is_active (head_all holds.all s) ∙ head_active (some_slot (waiting.model_slot (with_gone_below holds.gone st) s))
      ∙ ap (λ (x : waiting.ModelSlot T ℕ). waiting.has_guard x) (slot_below holds.gone st s)

  pub owned_shown : (s : ℕ) → is_owned (waiting.model_slot st s).kind ≡ true → (waiting.model_slot st s).guards ≤ 1
  owned_shown s = (slot_shown s).owned

  pub many_shown : length (after (start n) seen).slots ≡ length st.slots
  many_shown = holds.all.shows.slots ∙ length-map (with_gone_below holds.gone st).slots some_slot ∙ length-map st.slots (with_order_from holds.gone)
