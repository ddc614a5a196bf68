-- Where hands begin that hold a book which threads shared. `code` is the code of values.
--     IsUsedAs now s u    slot s is used so, as a kind and a number of guards say, and has no call under way: its number is in use unless
--                         the kind is `Free`, and it is active where it has guards. A free slot has none, an owned one has one at most
--     Begun code size n seen uses     a state of this size, with as many links as the book, that the hands hold by names and kinds: its
--                         slots are used so. A legal list of events leads to it
--     BeginsHeld          a book of which each slot is used so shows such a state, whichever kinds and numbers of guards these are, where
--                         its list says what is kept of all values that it retires or puts. What is in batches or was left stays so,
--                         and retired batches wait for the slots that list them
use Rattle.std.specs.Prelude.{◌≡◌, ◌≤◌, ◌==◌, ℕ, not, true, List, length, None}
use base.Stored.{Gv}
use Rattle.seize_table.specs.Place.{all_numbers}
use Rattle.seize_machine.specs.Machine.State as machine
use Rattle.seize_machine.specs.Machine.State.{are_distinct, has, head_at, is_active, linked_values}
use Rattle.seize_model.specs.declared.kind.Kind.{Kind}
use Rattle.seize_model.specs.Waiting.Calls.{is_free, is_owned}
use Rattle.seize_model.specs.Waiting.State.{ModelState, model_slot}
use Rattle.seize_book.specs.Book.{IsLegalList, after}
use Rattle.seize_book.specs.Entry.{Entry}
use Rattle.seize_book.specs.Saying.{AllSay}
use Rattle.seize_book.specs.Tokens.{Name, start}
use Rattle.seize_words.specs.Chunks.{IsLentAs}
use Rattle.seize_alone.specs.Holding.{Holds}

pub record IsUsedAs (now : machine.State) (s : ℕ) (u : Kind × ℕ) : Type 0 where
  pub used : (machine.slot_at now s).used ≡ not (is_free u.0)
  pub idle : (machine.slot_at now s).call ≡ None
  pub active : is_active (head_at now s) ≡ not (u.1 == 0)
  pub free : is_free u.0 ≡ true → u.1 ≡ 0
  pub owned : is_owned u.0 ≡ true → u.1 ≤ 1

pub record Begun {T : Type 0} (code : T → Gv) (size : ℕ) (n : Name) (seen : List Entry) (uses : ℕ → Kind × ℕ) : Type 0 where
  pub state : ModelState T ℕ
  pub names : List (ℕ × T)
  pub kinds : List (ℕ × ℕ)
  pub holds : Holds code state names kinds n seen
  pub sized : state.size ≡ size
  pub links : length state.links ≡ length n.links
  pub slots : (s : ℕ) → ((model_slot state s).kind ≡ (uses s).0) × ((model_slot state s).guards ≡ (uses s).1)

abbrev pub BeginsHeld : {T : Type 0} → (T → Gv) → Type 0
BeginsHeld {T} code =
    (n : Name) (seen : List Entry) (size : ℕ) (uses : ℕ → Kind × ℕ) → IsLegalList (start n) seen
    → are_distinct (linked_values n.links) ≡ true → AllSay seen
    → let now = after (start n) seen in length now.slots ≤ all_numbers → ((s : ℕ) → IsUsedAs now s (uses s))
    → ((v : ℕ) → has v now.named ≡ true → (x : T) × IsLentAs v (code x)) → Begun code size n seen uses
