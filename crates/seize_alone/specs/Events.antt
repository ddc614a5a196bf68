-- Single events of a slot, made where its pass is alone, and what the hands hold then. `code` is the code of values.
--     MakesAlone pass pass' event answer     the pass is alone, and this event was made with it, at its size, and nothing since; the answer
--                         was this
--     IsHeldAs code o value     what a link holds by number and what it holds by value are one: with the number the code is lent
--     EntersHeld          an entry of a slot in use without a guard: the first guard
--     GivesHeld           the number of a slot without a guard goes back: another slot is in use, or nothing is left
--     TakesHeld           a number is taken for a slot of this kind, where less is left than a full batch: it is the least one that is not
--                         in use
--     GuardsHeld          no event: an active registered slot has some other number of guards
--     SwapsHeld           a link is exchanged: so is what it held, and it holds the new value
use Rattle.std.specs.Prelude.{◌≡◌, ◌⊎◌, ◌==◌, ◌≤◌, ℕ, true, false, List, [], Option, Some, None, slice_set}
use base.Stored.{Gv}
use Rattle.seize_table.specs.Place.{all_numbers}
use Rattle.seize_machine.specs.Machine.Event.{Enter, Event, ExchangeLink, Give, Take}
use Rattle.seize_machine.specs.declared.machine.event.Answer.{Answer}
use Rattle.seize_machine.specs.declared.machine.event.Answer.TheVariants.{Link}
use Rattle.seize_machine.specs.declared.machine.event.Exchange.TheVariants.{Swap}
use Rattle.seize_model.specs.declared.kind.Kind.{Kind}
use Rattle.seize_model.specs.declared.kind.Kind.TheVariants.{Registered}
use Rattle.seize_model.specs.Waiting.State.{ModelState, has_guard, model_slot}
use Rattle.seize_model.specs.Waiting.Attempt.{is_full}
use Rattle.seize_model.specs.Waiting.Calls.{is_free, least_unused, model_link, others_in_use, rest_and_batch, set_guards}
use Rattle.seize_model.specs.Waiting.Calls.{with_number_free, with_number_in_use}
use Rattle.seize_book.specs.Entry.{Deed, Made}
use Rattle.seize_book.specs.Passes.{IsSamePass}
use Rattle.seize_book.specs.Tokens.{AddsEntry, IsSole}
use Rattle.seize_book.specs.declared.book.pass.Pass.{Pass}
use Rattle.seize_words.specs.Chunks.{IsLentAs}
use Rattle.seize_alone.specs.Holding.{Holds}

pub record MakesAlone (pass pass' : Pass) (event : Event) (answer : Answer) : Type 0 where
  pub sole : IsSole pass.id
  pub same : IsSamePass pass pass'
  pub deed : Deed
  pub is : deed.event ≡ event
  pub sized : deed.size ≡ pass.size
  pub noted : AddsEntry pass.name pass.id pass.seen pass'.seen (Made deed)
  pub answers : noted.answer ≡ answer

abbrev pub IsHeldAs : {T : Type 0} → (T → Gv) → Option ℕ → Option T → Type 0
IsHeldAs code None None = Unit {0}
IsHeldAs code (Some v) (Some x) = IsLentAs v (code x)
IsHeldAs code _ _ = ⊥

abbrev pub EntersHeld : {T : Type 0} → (T → Gv) → Type 0
EntersHeld {T} code =
    (st : ModelState T ℕ) (names : List (ℕ × T)) (kinds : List (ℕ × ℕ)) (s : ℕ) (answer : Answer) (pass pass' : Pass)
    → MakesAlone pass pass' (Enter s) answer → Holds code st names kinds pass.name pass.seen → is_free (model_slot st s).kind ≡ false
    → has_guard (model_slot st s) ≡ false → Holds code (set_guards st s 1) names kinds pass'.name pass'.seen

abbrev pub GivesHeld : {T : Type 0} → (T → Gv) → Type 0
GivesHeld {T} code =
    (st : ModelState T ℕ) (names : List (ℕ × T)) (kinds : List (ℕ × ℕ)) (s : ℕ) (answer : Answer) (pass pass' : Pass)
    → MakesAlone pass pass' (Give s) answer → Holds code st names kinds pass.name pass.seen → is_free (model_slot st s).kind ≡ false
    → has_guard (model_slot st s) ≡ false
    → Holds code (with_number_free st s) names kinds pass'.name pass'.seen
    × ((others_in_use st s ≡ true) ⊎ (rest_and_batch st s ≡ []))

abbrev pub TakesHeld : {T : Type 0} → (T → Gv) → Type 0
TakesHeld {T} code =
    (st : ModelState T ℕ) (names : List (ℕ × T)) (kinds : List (ℕ × ℕ)) (n : ℕ) (kind : Kind) (answer : Answer) (pass pass' : Pass)
    → MakesAlone pass pass' (Take n) answer → Holds code st names kinds pass.name pass.seen → is_free kind ≡ false
    → st.size ≡ pass.size → is_full st.size st.rest ≡ false
    → (n ≡ least_unused st.slots) × ((n == all_numbers) ≡ false)
    × Holds code (with_number_in_use st n kind) names kinds pass'.name pass'.seen

abbrev pub GuardsHeld : {T : Type 0} → (T → Gv) → Type 0
GuardsHeld {T} code =
    (st : ModelState T ℕ) (names : List (ℕ × T)) (kinds : List (ℕ × ℕ)) (s guards : ℕ) (pass : Pass)
    → Holds code st names kinds pass.name pass.seen → (model_slot st s).kind ≡ Registered → has_guard (model_slot st s) ≡ true → 1 ≤ guards
    → Holds code (set_guards st s guards) names kinds pass.name pass.seen

abbrev pub SwapsHeld : {T : Type 0} → (T → Gv) → Type 0
SwapsHeld {T} code =
    (st : ModelState T ℕ) (names : List (ℕ × T)) (kinds : List (ℕ × ℕ)) (s l : ℕ) (number o : Option ℕ) (new : Option T) (pass pass' : Pass)
    → MakesAlone pass pass' (ExchangeLink s l (Swap number)) (Link o) → Holds code st names kinds pass.name pass.seen
    → IsHeldAs code number new
    → ((names' : List (ℕ × T)) × Holds code (record st { links = slice_set st.links l new }) names' kinds pass'.name pass'.seen)
    × IsHeldAs code o (model_link st l)
