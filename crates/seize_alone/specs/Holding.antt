-- What one caller's hands hold: a state of waiting sets that the list shows, where numbers stand for values by two lists, of names and of
-- kinds. A reclaimer is a number there, the kind of its values.
--     found pairs n          what the number is paired with, if it is among these
--     some_state st          the state with `Some` of each value and of each kind, since not each number stands for one
--     AreLent code names     with each of these numbers the code of its value is lent, so that the number says which value it is
--     AreOfKinds log kinds   the list says of each of these numbers that it is of this kind
--     with_gone_below n st   the state with so many retired batches more, which are older and gone
--     HoldsAll code st names kinds n seen     what was seen of the list of book n leads to a machine that shows the state with each of its
--                            retired batches, by these names and kinds
--     Holds code st names kinds n seen     so it is with some number of retired batches more, which are older and gone: the machine keeps
--                            these for ever, and the hands may have forgotten them
--     HoldsThen code o had pass     so it is with the state of this outcome and what the pass has seen, by some names and kinds; and what
--                            was had are its values gone
use Rattle.std.specs.Prelude.{◌+◌, ◌==◌, ℕ, if◌then◌else◌, List, [], ◌∷◌, ◌++◌, map, replicate, Option, Some, None, option_map}
use base.Stored.{Gv}
use Rattle.seize_model.specs.Waiting.State.{ModelSlot, ModelState}
use Rattle.seize_model.specs.Waiting.Attempt.{StateAndGone}
use Rattle.seize_model.specs.Agreement.Shows.{ShowsReclaimers, ShowsState}
use Rattle.seize_book.specs.Book.{after}
use Rattle.seize_book.specs.Entry.{Entry}
use Rattle.seize_book.specs.Kept.{IsTold}
use Rattle.seize_book.specs.Tokens.{Name, start}
use Rattle.seize_book.specs.declared.book.pass.Pass.{Pass}
use Rattle.seize_calls.specs.Handing.{Had}
use Rattle.seize_words.specs.Chunks.{IsLentAs}
use Rattle.seize_alone.specs.Gone.{HadAre}

abbrev pub found : {A : Type 0} → List (ℕ × A) → ℕ → Option A
found [] n = None
found (p ∷ ps) n = if p.0 == n then Some p.1 else found ps n

abbrev pub some_value : {T R : Type 0} → T × R → Option T × Option R
some_value v = (Some v.0, Some v.1)

abbrev pub some_slot : {T R : Type 0} → ModelSlot T R → ModelSlot (Option T) (Option R)
some_slot slot = record { kind = slot.kind; guards = slot.guards; batch = map some_value slot.batch; order = slot.order }

abbrev pub some_state : {T R : Type 0} → ModelState T R → ModelState (Option T) (Option R)
some_state {T} {R} st = record {
  size = st.size;
  slots = map some_slot st.slots;
  retired = map (λ (vs : List (T × R)). map some_value vs) st.retired;
  links = map (λ (o : Option T). option_map Some o) st.links;
  rest = map some_value st.rest;
}

abbrev pub AreLent : {T : Type 0} → (T → Gv) → List (ℕ × T) → Type 0
AreLent code [] = Unit {0}
AreLent code (p ∷ ps) = IsLentAs p.0 (code p.1) × AreLent code ps

abbrev pub AreOfKinds : List Entry → List (ℕ × ℕ) → Type 0
AreOfKinds log [] = Unit {0}
AreOfKinds log (p ∷ ps) = IsTold log p.0 p.1 × AreOfKinds log ps

abbrev pub with_order_from : {T R : Type 0} → ℕ → ModelSlot T R → ModelSlot T R
with_order_from n slot = record slot { order = map (λ b. n + b) slot.order }

abbrev pub with_gone_below : {T R : Type 0} → ℕ → ModelState T R → ModelState T R
with_gone_below n st = record st {
  slots = map (with_order_from n) st.slots;
  retired = replicate n [] ++ st.retired;
}

pub record HoldsAll {T : Type 0} (code : T → Gv) (st : ModelState T ℕ) (names : List (ℕ × T)) (kinds : List (ℕ × ℕ)) (n : Name)
    (seen : List Entry) : Type 0 where
  pub shows : ShowsState (Option T) (Option ℕ) (found names) (some_state st) (after (start n) seen)
  pub reclaimers : ShowsReclaimers (Option T) (Option ℕ) (found names) (found kinds) (some_state st) (after (start n) seen)
  pub lent : AreLent code names
  pub told : AreOfKinds seen kinds

pub record Holds {T : Type 0} (code : T → Gv) (st : ModelState T ℕ) (names : List (ℕ × T)) (kinds : List (ℕ × ℕ)) (n : Name)
    (seen : List Entry) : Type 0 where
  pub gone : ℕ
  pub all : HoldsAll code (with_gone_below gone st) names kinds n seen

abbrev pub HoldsThen : {T : Type 0} → (T → Gv) → StateAndGone T ℕ → Had → Pass → Type 0
HoldsThen {T} code o had pass =
    ((names : List (ℕ × T)) × (kinds : List (ℕ × ℕ)) × Holds code o.0 names kinds pass.name pass.seen) × HadAre code had o.1
