-- Which numbers are in use, what is left, and what the slot is when its number was given back or taken again, or it began to gather, as the
-- keys know then.
use Rattle.std.proofs.Common.{◌≡◌, ℕ, ◌<◌, ◌≤◌, Bool, true, false, List, [], ◌∷◌, ◌++◌, get_or, is_some, length, not, ◌&&◌, slice_set, Option, Some, refl, sym, ap, subst, ◌∙◌, ◌⊎◌, inl, inr, arith}
use mathlib.Core.List.{IsPrefix}
use Rattle.std.proofs.lemmas.Bool.{cases_lt}
use Rattle.std.proofs.lemmas.List.{append_cancel_right, get_or-map, get_or_past, get_or-set_same, length-map, map-set}
use Rattle.seize_machine.specs.Machine.State.{State, Slot, is_idle, no_slot, slot_at}
use Rattle.seize_machine.specs.Machine.Event.{Event, Begin, Give, Take}
use Rattle.seize_machine.specs.Machine.Next.{after_gather, gathered_slot, next, slot_set, taken_slot}
use Rattle.seize_machine.specs.Machine.Frames.{used}
use Rattle.seize_machine.specs.declared.machine.event.Answer.{Answer}
use Rattle.seize_machine.specs.declared.machine.event.Answer.TheVariants.{Done}
use Rattle.seize_machine.specs.declared.machine.event.Job.TheVariants.{Gather}
use Rattle.seize_machine.proofs.Facts.{Step, step_of, used_frame}
use Rattle.seize_table.specs.Place.{all_numbers}
use Rattle.seize_book.specs.Book.{after, HolderKnows, TheNumbers, kinds, numbers, rules, slots}
use Rattle.seize_book.specs.Adding.{LooksWithKeys, private}
use Rattle.seize_book.specs.Entry.{Entry, Made}
use Rattle.seize_book.specs.Fair.{Before}
use Rattle.seize_book.specs.Ledger.{HeldKey, HoldersKnow, WithKinds}
use Rattle.seize_book.specs.Others.{AreNumbersOf, Follows, Knew, MayTakeNumber, first_false, rest_of, state_of, use_flags}
use Rattle.seize_book.specs.Private.{is_one, key_of, own_of}
use Rattle.seize_book.specs.Slots.{AddsEvent, IsKeyOfBook, slot_number, slot_of}
use Rattle.seize_book.specs.Tokens.{Name, start}
use Rattle.seize_book.specs.declared.book.keys.Keys.{Keys}
use Rattle.seize_book.specs.declared.book.numbers_key.NumbersKey.{NumbersKey}
use Rattle.seize_book.specs.declared.book.pass.Pass.{Pass}
use Rattle.seize_book.specs.declared.book.slot_key.SlotKey.{SlotKey}
use Rattle.seize_book.proofs.Gives.{free_by}
use Rattle.seize_book.proofs.Goes.{prefix_push}
use Rattle.seize_book.proofs.Private.{after_one, only, only_is}

set_used : (st : State) (s : ℕ) (slot : Slot) → used (slot_set st s slot) ≡ slice_set (used st) s slot.used
set_used st s slot = map-set (λ (x : Slot). x.used) st.slots s slot

-- a slot in use is there
in_range : (st : State) (s : ℕ) → is_idle (slot_at st s) ≡ true → s < length st.slots
in_range st s idle = go (cases_lt s (length st.slots))
  where
    go : (s < length st.slots) ⊎ (length st.slots ≤ s) → s < length st.slots
    go (inl within) = within
    go (inr past) = absurd (let b : false ≡ true = sym (ap is_idle (get_or_past st.slots s no_slot past)) ∙ idle in cc)

-- What the event makes of the numbers, the rest and its slot.

gives : (size : ℕ) (st : State) (s : ℕ) (d : State × Answer) → Step size st (Give s) d
    → (used d.0 ≡ slice_set (used st) s false) × ((d.0).rest ≡ st.rest ++ (slot_at st s).batch) × (slot_at d.0 s ≡ no_slot)
gives size st s _ (Step.gave _ idle off ends) = (set_used st s no_slot, refl, get_or-set_same st.slots s no_slot no_slot (in_range st s idle))

takes : (size : ℕ) (st : State) (s : ℕ) (d : State × Answer) → s < length st.slots → Step size st (Take s) d
    → (used d.0 ≡ slice_set (used st) s true) × ((d.0).rest ≡ []) × (slot_at d.0 s ≡ taken_slot size (length st.slots) st.rest)
takes size st s _ below (Step.took_new _ at least) = absurd (omega (arith, below, at))
takes size st s _ below (Step.took_old _ l free least) =
    let new : Slot = taken_slot size (length st.slots) st.rest in (set_used st s new, refl, get_or-set_same st.slots s new no_slot below)

gathers : (size : ℕ) (st : State) (s : ℕ) (d : State × Answer) → Step size st (Begin s Gather) d
    → (used d.0 ≡ used st) × ((d.0).rest ≡ []) × (slot_at d.0 s ≡ gathered_slot (length st.slots) (st.rest ++ (slot_at st s).batch))
gathers size st s _ (Step.gathered _ idle off alone some) =
    let new : Slot = gathered_slot (length st.slots) (st.rest ++ (slot_at st s).batch) in
    (used_frame size st (Begin s Gather) (after_gather st s, Done) (Step.gathered s idle off alone some) refl, refl, get_or-set_same st.slots s new no_slot (in_range st s idle))
gathers size st s _ (Step.begun_other _ job place idle which from) = absurd (let x : Option.None ≡ Some place = from.1 in cc)

gave_idle : (size : ℕ) (st : State) (s : ℕ) (d : State × Answer) → Step size st (Give s) d → is_idle (slot_at st s) ≡ true
gave_idle size st s _ (Step.gave _ idle off ends) = idle

idle_used : (slot : Slot) → is_idle slot ≡ true → slot.used ≡ true
idle_used slot idle = go slot.used (is_some slot.call) idle
  where
    go : (u c : Bool) → (u && not c) ≡ true → u ≡ true
    go true c h = refl
    go false c h = absurd (let e : false ≡ true = h in cc)

used_at : (st : State) (s : ℕ) → (slot_at st s).used ≡ true → get_or (used st) s false ≡ true
used_at st s is = go (cases_lt s (length st.slots))
  where
    go : (s < length st.slots) ⊎ (length st.slots ≤ s) → get_or (used st) s false ≡ true
    go (inl within) = get_or-map (λ (x : Slot). x.used) st.slots s no_slot false within ∙ is
    go (inr past) = absurd (let b : false ≡ true = sym (ap (λ (x : Slot). x.used) (get_or_past st.slots s no_slot past)) ∙ is in cc)

-- how many there are, as that key knows
as_many : (its_numbers : NumbersKey) (st : State) → use_flags its_numbers ≡ used st → length (use_flags its_numbers) ≡ length st.slots
as_many its_numbers st flags = ap (λ (us : List Bool). length us) flags ∙ length-map st.slots (λ slot. slot.used)

-- what the key of the numbers knew just before the event
module _ (key : SlotKey) (its_numbers : NumbersKey) (pass pass' : Pass) (event : Event) (knew : Knew key its_numbers.keys pass pass' (private pass event)) where
  pub just_before : HolderKnows (start pass.name) TheNumbers (key_of its_numbers.keys.held) (own_of its_numbers.keys.held) knew.0
  just_before =
      let a = key.keys.held in let b = its_numbers.keys.held in
      (subst (λ (hs : List (HeldKey Entry)). Before pass.name pass.id pass.seen (only slots a ++ hs) knew.0) (only_is numbers b its_numbers.one)
      (subst (λ (hs : List (HeldKey Entry)). Before pass.name pass.id pass.seen (hs ++ b) knew.0) (only_is slots a key.one) knew.2)).kept.1.0

  -- it saw no more than the pass has
  pub numbers_grow : IsPrefix (own_of its_numbers.keys.held) pass'.seen
  numbers_grow = subst (IsPrefix (own_of its_numbers.keys.held)) (sym knew.1) (prefix_push (own_of its_numbers.keys.held) knew.0 (Made (private pass event)) just_before.0)

-- What the keys of the slot and of the numbers knew is so just before the event, and what they know after it is so then.
pub record Turned (key : SlotKey) (its_numbers : NumbersKey) (pass : Pass) (event : Event) (key' : SlotKey) (keys' : Keys) : Type 0 where
  pub st : State
  pub d : State × Answer
  pub step : Step pass.size st event d
  pub flags : use_flags its_numbers ≡ used st
  pub left : rest_of its_numbers ≡ st.rest
  pub was : slot_at st (slot_number key) ≡ slot_of key
  pub flags_now : used (state_of keys') ≡ used d.0
  pub left_now : (state_of keys').rest ≡ (d.0).rest
  pub is : slot_of key' ≡ slot_at d.0 (slot_number key)

pub turned : (key key' : SlotKey) (its_numbers : NumbersKey) (keys' : Keys) (pass pass' : Pass) (event : Event) → IsKeyOfBook key pass → AreNumbersOf its_numbers pass
    → Knew key its_numbers.keys pass pass' (private pass event) → AddsEvent key pass key' pass' event → Follows its_numbers.keys pass' keys' → Turned key its_numbers pass event key' keys'
turned key key' its_numbers keys' pass pass' event book its knew noted follows =
    record {
      st = now;
      d = d;
      step = step_of _ _ _ _ (subst (λ (n : Name). next pass.size (after (start n) noted.2.0.before) event ≡ Some d) book noted.2.1.legal);
      flags = ap used known ∙ same.0;
      left = ap (λ (st : State). st.rest) known ∙ same.1;
      was = sym (ap (λ (n : Name). slot_at (after (start n) noted.2.0.before) (slot_number key)) book) ∙ noted.2.1.was;
      flags_now = ap used knows;
      left_now = ap (λ (st : State). st.rest) knows;
      is = noted.2.1.is;
    }
  where
    b : List (HeldKey Entry)
    b = its_numbers.keys.held

    now : State
    now = after (start pass.name) noted.2.0.before

    d : State × Answer
    d = (noted.2.0.later, noted.2.0.answer)

    same_log : knew.0 ≡ noted.2.0.before
    same_log = append_cancel_right knew.0 noted.2.0.before (Made (private pass event) ∷ []) (sym knew.1 ∙ noted.2.0.appended)

    same : (used (after (start pass.name) (own_of b)) ≡ used now) × ((after (start pass.name) (own_of b)).rest ≡ now.rest)
    same =
        let kept = (just_before key its_numbers pass pass' event knew).1 in
        (kept.0 ∙ ap (λ (log : List Entry). used (after (start pass.name) log)) same_log, kept.1 ∙ ap (λ (log : List Entry). (after (start pass.name) log).rest) same_log)

    known : state_of its_numbers.keys ≡ after (start pass.name) (own_of b)
    known = ap (λ (n : Name). after (start n) (own_of b)) its

    knows : state_of keys' ≡ noted.2.0.later
    knows =
        ap (λ (t : Name × List Entry). after (start t.0) t.1) (λ j. ((follows.0 ∙ its) j, (ap own_of follows.1 ∙ (after_one numbers b pass'.seen its_numbers.one).1) j))
        ∙ noted.2.0.leads

-- the number was in use, as the numbers' key knew
pub was_used : (key key' : SlotKey) (its_numbers : NumbersKey) (keys' : Keys) (pass : Pass) → Turned key its_numbers pass (Give (slot_number key)) key' keys'
    → get_or (use_flags its_numbers) (slot_number key) false ≡ true
was_used key key' its_numbers keys' pass t =
    let slot : Slot = slot_at (t.st) (slot_number key) in
    ap (λ (us : List Bool). get_or us (slot_number key) false) t.flags
    ∙ used_at t.st (slot_number key) (idle_used slot (gave_idle pass.size t.st (slot_number key) t.d t.step))

pub gives_back : (key key' : SlotKey) (its_numbers : NumbersKey) (keys' : Keys) (pass : Pass) → Turned key its_numbers pass (Give (slot_number key)) key' keys'
    → (used (state_of keys') ≡ slice_set (use_flags its_numbers) (slot_number key) false) × ((state_of keys').rest ≡ rest_of its_numbers ++ (slot_of key).batch) × (slot_of key' ≡ no_slot)
gives_back key key' its_numbers keys' pass t =
    let made = gives pass.size t.st (slot_number key) t.d t.step in (
      t.flags_now ∙ made.0 ∙ ap (λ (us : List Bool). slice_set us (slot_number key) false) (sym t.flags),
      t.left_now ∙ made.1 ∙ ap (λ (x : List ℕ × Slot). x.0 ++ x.1.batch) (λ j. (sym t.left j, t.was j)),
      t.is ∙ made.2,
    )

pub takes_again : (key key' : SlotKey) (its_numbers : NumbersKey) (keys' : Keys) (pass : Pass) → MayTakeNumber its_numbers key → Turned key its_numbers pass (Take (slot_number key)) key' keys'
    → (used (state_of keys') ≡ slice_set (use_flags its_numbers) (slot_number key) true) × ((state_of keys').rest ≡ [])
    × (slot_of key' ≡ taken_slot pass.size (length (use_flags its_numbers)) (rest_of its_numbers))
takes_again key key' its_numbers keys' pass may t =
    let there : slot_number key < length (state_of its_numbers.keys).slots = may.1 in
    let many : length (use_flags its_numbers) ≡ length (state_of its_numbers.keys).slots = length-map (state_of its_numbers.keys).slots (λ slot. slot.used) in
    let same : length (use_flags its_numbers) ≡ length (t.st).slots = as_many its_numbers t.st t.flags in
    let made = takes pass.size t.st (slot_number key) t.d (omega (arith, there, many, same)) t.step in (
      t.flags_now ∙ made.0 ∙ ap (λ (us : List Bool). slice_set us (slot_number key) true) (sym t.flags),
      t.left_now ∙ made.1,
      t.is ∙ made.2 ∙ ap (λ (x : ℕ × List ℕ). taken_slot pass.size x.0 x.1) (λ j. (sym same j, sym t.left j)),
    )

pub gathers_all : (key key' : SlotKey) (its_numbers : NumbersKey) (keys' : Keys) (pass : Pass) → Turned key its_numbers pass (Begin (slot_number key) Gather) key' keys'
    → (used (state_of keys') ≡ use_flags its_numbers) × ((state_of keys').rest ≡ [])
    × (slot_of key' ≡ gathered_slot (length (use_flags its_numbers)) (rest_of its_numbers ++ (slot_of key).batch))
gathers_all key key' its_numbers keys' pass t =
    let made = gathers pass.size t.st (slot_number key) t.d t.step in (
      t.flags_now ∙ made.0 ∙ sym t.flags,
      t.left_now ∙ made.1,
      t.is ∙ made.2 ∙ ap (λ (x : ℕ × (List ℕ × Slot)). gathered_slot x.0 (x.1.0 ++ x.1.1.batch)) (λ j. (sym (as_many its_numbers t.st t.flags) j, (sym t.left j, t.was j))),
    )

-- the least number that is not in use
pub may_take_by : (its_numbers : NumbersKey) (key : SlotKey) → slot_number key ≡ first_false (use_flags its_numbers) → slot_number key < length (use_flags its_numbers) → slot_number key < all_numbers
    → MayTakeNumber its_numbers key
may_take_by its_numbers key least below few =
    let st : State = after (start its_numbers.keys.name) (own_of its_numbers.keys.held) in
    (least ∙ sym (free_by st.slots), subst (λ (m : ℕ). slot_number key < m) (length-map st.slots (λ slot. slot.used)) below, few)

-- What a look with the key shows.

pub numbers_within : (held : List (HeldKey Entry)) → is_one numbers held ≡ true → WithKinds kinds held
numbers_within held one = subst (WithKinds kinds) (sym (only_is numbers held one)) (omega arith, tt)

module _ (its_numbers : NumbersKey) (pass pass' : Pass) (keys' : Keys) (book : AreNumbersOf its_numbers pass) (looks : LooksWithKeys its_numbers.keys pass keys' pass') where
  looked_held : HolderKnows (start pass.name) TheNumbers (key_of its_numbers.keys.held) (own_of its_numbers.keys.held) pass'.seen
  looked_held = (subst (λ (hs : List (HeldKey Entry)). HoldersKnow (rules (start pass.name)) hs pass'.seen) (only_is numbers its_numbers.keys.held its_numbers.one) looks.2.kept).0

  pub looked_grows : IsPrefix (own_of its_numbers.keys.held) pass'.seen
  looked_grows = looked_held.0

  pub looked_numbers : (used (after (start pass.name) pass'.seen) ≡ use_flags its_numbers) × ((after (start pass.name) pass'.seen).rest ≡ rest_of its_numbers)
  looked_numbers =
      let known = ap (λ (n : Name). after (start n) (own_of its_numbers.keys.held)) book in
      (sym (ap used known ∙ looked_held.1.0), sym (ap (λ (st : State). st.rest) known ∙ looked_held.1.1))

  pub looked_state : state_of keys' ≡ after (start pass.name) pass'.seen
  looked_state = let is = looks.1 in
      ap (λ (t : Name × List Entry). after (start t.0) t.1) (λ j. ((is.0 ∙ book) j, (ap own_of is.1 ∙ (after_one numbers its_numbers.keys.held pass'.seen its_numbers.one).1) j))
