-- What a part of a call adds to the list, and what stays over it. Where its pass is alone only the call adds to the list, and of its slot's
-- own entries it adds all, as the slot's key knows.
--     AllBy p log           all these entries were made with pass p
--     AddsAlone pass pass'  where the pass is alone, all that it has seen beyond what it had seen was made with it
--     AllMadeBy p acts      all these entries, which have their answers beside them, were made with pass p
--     AddsOwn key pass key'     all that came to the slot's own entries between what the two keys know was made with the pass
--     Onward key pass key' pass'     it is the same slot and pass; whether it is in use and active, and its last activation, are as they
--                           were; the pass has seen what it had seen; and what was added is as AddsAlone and AddsOwn say
use Rattle.std.specs.Prelude.{◌≡◌, ℕ, List, [], ◌∷◌, ◌++◌}
use mathlib.Core.List.{IsPrefix}
use Rattle.seize_machine.specs.declared.machine.event.Answer.{Answer}
use Rattle.seize_book.specs.Entry.{Entry, maker}
use Rattle.seize_book.specs.Passes.{IsSamePass}
use Rattle.seize_book.specs.Slots.{active_of, acts_of, life_of, slot_number, slot_of}
use Rattle.seize_book.specs.Tokens.{IsSole}
use Rattle.seize_book.specs.declared.book.pass.Pass.{Pass}
use Rattle.seize_book.specs.declared.book.slot_key.SlotKey.{SlotKey}
use Rattle.seize_words.specs.Named.{slot_book}

abbrev pub AllBy : ℕ → List Entry → Type 0
AllBy p [] = Unit {0}
AllBy p (e ∷ log) = (maker e ≡ p) × AllBy p log

abbrev pub AddsAlone : Pass → Pass → Type 0
AddsAlone pass pass' = IsSole pass.id → (added : List Entry) × (pass'.seen ≡ pass.seen ++ added) × AllBy pass.id added

abbrev pub AllMadeBy : ℕ → List (Entry × Answer) → Type 0
AllMadeBy p [] = Unit {0}
AllMadeBy p (act ∷ acts) = (maker act.0 ≡ p) × AllMadeBy p acts

abbrev pub AddsOwn : SlotKey → Pass → SlotKey → Type 0
AddsOwn key pass key' = (more : List (Entry × Answer)) × (acts_of key' ≡ acts_of key ++ more) × AllMadeBy pass.id more

pub record Onward (key : SlotKey) (pass : Pass) (key' : SlotKey) (pass' : Pass) : Type 0 where
  pub same : IsSamePass pass pass'
  pub its : (slot_book key' ≡ slot_book key) × (slot_number key' ≡ slot_number key)
  pub used : (slot_of key').used ≡ (slot_of key).used
  pub active : active_of key' ≡ active_of key
  pub life : life_of key' ≡ life_of key
  pub grows : IsPrefix pass.seen pass'.seen
  pub alone : AddsAlone pass pass'
  pub own : AddsOwn key pass key'
