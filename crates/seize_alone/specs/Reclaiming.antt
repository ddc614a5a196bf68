-- Reclaiming all, by steps of single slots. Nothing is put in these steps: what the values gone put is reclaimed afterwards.
--     last_guard_left st s     the slot leaves with its last guard, where it has any;  part_in_turn st s     so it does where it is in
--                         use;  parts_in_turn st ss      so does each of these in order
--     batch_in_turn st s       the slot, where it is in use, enters, attempts its batch, and leaves;  batches_in_turn st ss     so does
--                         each of these in order
--     rest_in_turn st          what was left, if that is something, becomes the batch of the slot whose number is the least not in use,
--                         which attempts it where it is full, and does as the others then
--     number_in_turn st s      the slot, where it is in use, gives its number back;  numbers_in_turn st ss     so does each of these in
--                         order
--     kept_in_turn st          the batches of all slots, and what was left; then the numbers go back, the last one first
--     in_turn st               all slots part before
--     IsOrderly st        a slot whose number is free is as one that was never made; where something was left there is one; no batch waits
--                         for a slot without a guard; and a retired batch that waits for no slot has no values left
--     ReclaimsInTurn      of an orderly state the steps, and then what the values gone put, are a reclaim of all: the same values are gone
--                         in the same order, and the state is the same but for retired batches, which all are gone
--     SameBelow           with retired batches more, older and gone, each call gives the same reply and the same values gone, and then the
--                         state with them; and a reclaim of all gives the same, and forgets them
--     OrderlyHeld         a state that hands hold is orderly, where the list is legal
--     AllGoneHeld         from a state that hands hold these steps lead to one that they hold then, so they hold what a reclaim of all
--                         leaves, by the same names and kinds; and with what the values gone put, the same values are gone
use Rattle.std.specs.Prelude.{◌≡◌, ◌≢◌, ◌<◌, ◌==◌, ℕ, true, false, if◌then◌else◌, List, [], ◌∷◌, ◌++◌, length, reverse}
use Rattle.std.specs.List.{range_with_len}
use base.Stored.{Gv}
use Rattle.seize_machine.specs.Machine.State.{are_distinct, linked_values}
use Rattle.seize_model.specs.declared.kind.Kind.TheVariants.{Registered}
use Rattle.seize_model.specs.Waiting.State.{ModelState, has_guard, is_kept, model_slot, retired_at, unmade_slot}
use Rattle.seize_model.specs.Waiting.Attempt.{StateAndGone, attempt, attempt_if_full, with_gone}
use Rattle.seize_model.specs.Waiting.Calls.{is_free, least_unused, one_guard_less, reclaim_all, set_guards, with_number_free}
use Rattle.seize_model.specs.Waiting.Calls.{with_number_in_use}
use Rattle.seize_model.specs.Waiting.Further.{further, gone_from}
use Rattle.seize_model.specs.Waiting.Lists.{Call, step}
use Rattle.seize_book.specs.Book.{IsLegalList}
use Rattle.seize_book.specs.Entry.{Entry}
use Rattle.seize_book.specs.Tokens.{Name, start}
use Rattle.seize_alone.specs.Holding.{Holds, with_gone_below}

abbrev pub last_guard_left : {T R : Type 0} → ModelState T R → ℕ → StateAndGone T R
last_guard_left st s = if has_guard (model_slot st s) then one_guard_less (set_guards st s 1) s else (st, [])

abbrev pub part_in_turn : {T R : Type 0} → ModelState T R → ℕ → StateAndGone T R
part_in_turn st s = if is_free (model_slot st s).kind then (st, []) else last_guard_left st s

abbrev pub parts_in_turn : {T R : Type 0} → ModelState T R → List ℕ → StateAndGone T R
parts_in_turn st [] = (st, [])
parts_in_turn st (s ∷ ss) =
    let o = part_in_turn st s in
    with_gone o.1 (parts_in_turn o.0 ss)

abbrev pub batch_in_turn : {T R : Type 0} → ModelState T R → ℕ → StateAndGone T R
batch_in_turn st s =
    let o = attempt (set_guards st s 1) s in
    if is_free (model_slot st s).kind then (st, []) else with_gone o.1 (one_guard_less o.0 s)

abbrev pub batches_in_turn : {T R : Type 0} → ModelState T R → List ℕ → StateAndGone T R
batches_in_turn st [] = (st, [])
batches_in_turn st (s ∷ ss) =
    let o = batch_in_turn st s in
    with_gone o.1 (batches_in_turn o.0 ss)

abbrev pub rest_in_turn : {T R : Type 0} → ModelState T R → StateAndGone T R
rest_in_turn st =
    let n = least_unused st.slots in
    let o = attempt_if_full (with_number_in_use st n Registered) n in
    if length st.rest == 0 then (st, []) else with_gone o.1 (batch_in_turn o.0 n)

abbrev pub number_in_turn : {T R : Type 0} → ModelState T R → ℕ → ModelState T R
number_in_turn st s = if is_free (model_slot st s).kind then st else with_number_free st s

abbrev pub numbers_in_turn : {T R : Type 0} → ModelState T R → List ℕ → ModelState T R
numbers_in_turn st [] = st
numbers_in_turn st (s ∷ ss) = numbers_in_turn (number_in_turn st s) ss

abbrev pub kept_in_turn : {T R : Type 0} → ModelState T R → StateAndGone T R
kept_in_turn st =
    let all = range_with_len 0 (length st.slots) in
    let emptied = batches_in_turn st all in
    let rested = rest_in_turn emptied.0 in
    (numbers_in_turn rested.0 (reverse all), emptied.1 ++ rested.1)

abbrev pub in_turn : {T R : Type 0} → ModelState T R → StateAndGone T R
in_turn st =
    let parted = parts_in_turn st (range_with_len 0 (length st.slots)) in
    with_gone parted.1 (kept_in_turn parted.0)

pub record IsOrderly {T R : Type 0} (st : ModelState T R) : Type 0 where
  pub free : (s : ℕ) → is_free (model_slot st s).kind ≡ true → model_slot st s ≡ unmade_slot
  pub rest : st.rest ≢ [] → least_unused st.slots < length st.slots
  pub inactive : (s : ℕ) → has_guard (model_slot st s) ≡ false → (model_slot st s).order ≡ []
  pub gone : (b : ℕ) → is_kept st b ≡ false → retired_at st b ≡ []

abbrev pub ReclaimsInTurn : {T : Type 0} → (ℕ → T → List T) → (T → ℕ) → Type 0
ReclaimsInTurn {T} puts weight =
    (st : ModelState T ℕ) → IsOrderly st → let now = in_turn st in let all = reclaim_all puts weight st in
    (now.1 ++ gone_from puts weight (further puts now.1) ≡ all.1) × (record now.0 { retired = [] } ≡ all.0)
    × (now.0 ≡ with_gone_below (length now.0.retired) all.0)

abbrev pub SameBelow : {T : Type 0} → (ℕ → T → List T) → (T → ℕ) → Type 0
SameBelow {T} puts weight =
    (n : ℕ) (st : ModelState T ℕ)
    → ((call : Call T ℕ) → let told = step puts weight st call in
    step puts weight (with_gone_below n st) call ≡ (told.0, (with_gone_below n told.1.0, told.1.1)))
    × (reclaim_all puts weight (with_gone_below n st) ≡ reclaim_all puts weight st)

abbrev pub OrderlyHeld : {T : Type 0} → (T → Gv) → Type 0
OrderlyHeld {T} code =
    (st : ModelState T ℕ) (names : List (ℕ × T)) (kinds : List (ℕ × ℕ)) (n : Name) (seen : List Entry)
    → IsLegalList (start n) seen → are_distinct (linked_values n.links) ≡ true → Holds code st names kinds n seen → IsOrderly st

abbrev pub AllGoneHeld : {T : Type 0} → (T → Gv) → (ℕ → T → List T) → (T → ℕ) → Type 0
AllGoneHeld {T} code puts weight =
    (st : ModelState T ℕ) (names names' : List (ℕ × T)) (kinds kinds' : List (ℕ × ℕ)) (n : Name) (seen seen' : List Entry)
    → IsLegalList (start n) seen → are_distinct (linked_values n.links) ≡ true → Holds code st names kinds n seen
    → let now = in_turn st in let all = reclaim_all puts weight st in Holds code now.0 names' kinds' n seen'
    → Holds code all.0 names' kinds' n seen' × (now.1 ++ gone_from puts weight (further puts now.1) ≡ all.1)
