-- The values retired so far are those in batches, in retired batches, given up, and reclaimed.
use Rattle.std.proofs.Common.{◌≡◌, ℕ, ◌+◌, ◌<◌, ◌≤◌, ℤ, pos, Bool, true, false, ◌==◌, if◌then◌else◌, List, [], ◌∷◌, ◌++◌, length, set, Option, Some, None, refl, ◌∙◌, ap, ◌⊎◌, inr, subst, arith}
use Rattle.std.specs.List.{sum_by}
use Rattle.std.proofs.lemmas.List.Sums.{sum_by-set, sum_by_push, sum_by-le-sum_by}
use Rattle.seize_machine.specs.Machine.State.{no_slot, State, Slot, Progress, Place, Append, Mark, Look, Try, Add, Out, Rest, slot_at, head_at, batch_at, is_active, waiting_at}
use Rattle.seize_machine.specs.Machine.Event.{Event}
use Rattle.seize_machine.specs.Machine.Next.{look, marked_place, looked, taken_slot, taken_call}
use Rattle.seize_machine.specs.Machine.History.{retired_value, place_value, call_value}
use Rattle.seize_machine.specs.declared.machine.event.Answer.{Answer}
use Rattle.seize_machine.proofs.Steps.Relation.{Step, Stands, some_is, taken}
use Rattle.seize_machine.proofs.Counting.Sums.{one, occ, occ-push, occ-append}
use Rattle.seize_machine.proofs.Invariants.Counts.{in_range, idle_range, idle_call, Free}
use Rattle.seize_machine.proofs.Invariants.Once.{in_batches, gives, slot_has, place_has, in_slots, places, Once}
use Rattle.seize_machine.proofs.Invariants.Kept.{given, place_given, look_given, looked_given, marked_given, starts}

abbrev pub slot_keeps : ℕ → Slot → ℕ
slot_keeps v slot = occ v slot.batch + given v slot.call

abbrev pub kept_in : ℕ → List Slot → ℕ
kept_in v slots = sum_by (slot_keeps v) slots

-- how often v stands where retired values stand
abbrev pub parts : ℕ → State → ℕ
parts v st = kept_in v st.slots + in_batches v st.batches + occ v st.gone + occ v st.rest

abbrev pub is_value : ℕ → Option ℕ → ℕ
is_value v None = 0
is_value v (Some w) = one (w == v)

move : (v : ℕ) (st : State) (s : ℕ) (new : Slot) → s < length st.slots → kept_in v (set st.slots s new) + slot_keeps v (slot_at st s) ≡ kept_in v st.slots + slot_keeps v new
move v st s new h = sum_by-set (slot_keeps v) st.slots s new no_slot h

had : (v : ℕ) (st : State) (s : ℕ) (o : Option Progress) → (slot_at st s).call ≡ o → slot_keeps v (slot_at st s) ≡ occ v (slot_at st s).batch + given v o
had v st s o e = ap (λ o. occ v (slot_at st s).batch + given v o) e

settles : (v : ℕ) (st : State) (s a : ℕ) (from : Place) (up : Bool) (count : ℤ) (walk queue : List ℕ) → Stands st s from queue → place_given v from ≡ 0
    → kept_in v (set st.slots s (record (slot_at st s) { call = Some (record { place = Rest (if up then (batch_at st a).values else []) walk; queue = queue }) }))
    + in_batches v (set st.batches a (record { values = if up then [] else (batch_at st a).values; count = count })) + occ v st.gone + occ v st.rest ≡ parts v st + 0
settles v st s a from up count walk queue e none =
    let g : _ ≡ _ = gives v st.batches a up count in
    let x : _ ≡ _ = move v st s (record (slot_at st s) { call = Some (record { place = Rest (if up then (batch_at st a).values else []) walk; queue = queue }) }) (in_range st s _ e) in
    let y : _ ≡ _ = had v st s _ e in
    omega arith

taken_given : (v size n : ℕ) (rest : List ℕ) → given v (taken_call size n rest) ≡ 0
taken_given v size n rest = taken (λ o. given v o ≡ 0) size n rest (λ h. refl) (λ h. refl)

pub parts_step : (v size : ℕ) (st : State) (event : Event) (d : State × Answer) → Free st → Step size st event d → parts v d.0 ≡ parts v st + is_value v (retired_value st event)
parts_step v size st event _ free (Step.took_new s e least) =
    omega (arith, sum_by_push (slot_keeps v) st.slots (taken_slot size (length st.slots + 1) st.rest), taken_given v size (length st.slots + 1) st.rest)
parts_step v size st event _ free (Step.took_old s r e least) =
    let y : slot_keeps v (slot_at st s) ≡ 0 = ap (slot_keeps v) (free s e) in
    omega (arith, move v st s (taken_slot size (length st.slots) st.rest) r, taken_given v size (length st.slots) st.rest)
parts_step v size st event _ free (Step.gave s e off ends) =
    omega (arith, move v st s no_slot (idle_range st s e), had v st s None (idle_call (slot_at st s) e), occ-append v st.rest (slot_at st s).batch)
parts_step v size st event _ free (Step.gathered s e off lone some) =
    omega (arith, move v st s (record { used = true; batch = st.rest ++ (slot_at st s).batch; call = Some (record { place = Mark 0 (length st.slots) []; queue = [] }) }) (idle_range st s e), had v st s None (idle_call (slot_at st s) e), occ-append v st.rest (slot_at st s).batch)
parts_step v size st event _ free (Step.entered s e off) = omega arith
parts_step v size st event _ free (Step.begun_retire s w e new) = omega (arith, move v st s (record (slot_at st s) { call = Some (record { place = Append w; queue = [] }) }) (idle_range st s e), had v st s None (idle_call (slot_at st s) e))
parts_step v size st event _ free (Step.begun_other s job place e which exact) =
    let k : place_given v place ≡ 0 = starts (λ place. place_given v place ≡ 0) (length st.slots) refl refl refl refl place which in
    omega (arith, move v st s (record (slot_at st s) { call = Some (record { place = place; queue = [] }) }) (idle_range st s e), had v st s None (idle_call (slot_at st s) e))
parts_step v size st event _ free (Step.put s w from before after place e which to after_is) =
    let k : place_given v place ≡ 0 = grind arith in
    let f : (place_given v from ≡ 0) × (place_value from before ≡ Some w) = grind arith in
    let a : is_value v (call_value (slot_at st s).call) ≡ one (w == v) = ap (λ o. is_value v (call_value o)) e ∙ ap (is_value v) f.1 in
    let p : _ ≡ _ = occ-push v (slot_at st s).batch w in
    omega (arith, move v st s (record { used = (slot_at st s).used; batch = (slot_at st s).batch ++ w ∷ []; call = Some (record { place = place; queue = after }) }) (in_range st s _ e), had v st s _ e)
parts_step v size st event _ free (Step.marked s n next note marks queue e r k) =
    let q : _ ≡ _ = marked_given v (is_active (head_at st n)) n note marks (slot_at st s).batch in
    omega (arith, move v st s (record (slot_at st s) { call = Some (record { place = marked_place (is_active (head_at st n)) n note marks (slot_at st s).batch; queue = queue }) }) (in_range st s _ e), had v st s _ e)
parts_step v size st event _ free (Step.looked_at s a won m later queue e) =
    let q : _ ≡ _ = looked_given v (head_at st m) a won m later in
    omega (arith, move v st s (record (slot_at st s) { call = Some (record { place = looked (head_at st m) a won m later; queue = queue }) }) (in_range st s _ e), had v st s _ e)
parts_step v size st event _ free (Step.detached s next note marks queue e le) =
    let q : _ ≡ _ = look_given v (length st.batches) 0 marks in
    let z : _ ≡ _ = sum_by_push (λ batch. occ v batch.values) st.batches (record { values = (slot_at st s).batch; count = pos 0 }) in
    omega (arith, move v st s (record { used = (slot_at st s).used; batch = []; call = Some (record { place = look (length st.batches) 0 marks; queue = queue }) }) (in_range st s _ e), had v st s _ e)
parts_step v size st event _ free (Step.inserted s m a won later saw queue waiting e head_is) =
    let q : _ ≡ _ = look_given v a (won + 1) later in
    omega (arith, move v st s (record (slot_at st s) { call = Some (record { place = look a (won + 1) later; queue = queue }) }) (in_range st s _ e), had v st s _ e)
parts_step v size st event _ free (Step.lost s m a won later saw queue e differs) =
    omega (arith, move v st s (record (slot_at st s) { call = Some (record { place = Look a won m later; queue = queue }) }) (in_range st s _ e), had v st s _ e)
parts_step v size st event _ free (Step.added s a won queue d e h) = subst (λ d. parts v d.0 ≡ parts v st + 0) (some_is _ _ h) (settles v st s a (Add a won) _ _ [] queue e refl)
parts_step v size st event _ free (Step.subtracted s a walk queue d e h) = subst (λ d. parts v d.0 ≡ parts v st + 0) (some_is _ _ h) (settles v st s a (Rest [] (a ∷ walk)) _ _ walk queue e refl)
parts_step v size st event _ free (Step.swapped_out s stays queue e) =
    omega (arith, move v st s (record (slot_at st s) { call = Some (record { place = Rest [] (waiting_at (head_at st s)); queue = queue }) }) (in_range st s _ e), had v st s _ e)
parts_step v size st event _ free (Step.handed s w puts given_on walk queue e new) =
    omega (arith, occ-push v st.gone w, move v st s (record (slot_at st s) { call = Some (record { place = Rest given_on walk; queue = queue ++ puts }) }) (in_range st s _ e), had v st s _ e)
parts_step v size st event _ free (Step.returned s e) =
    omega (arith, move v st s (record (slot_at st s) { call = None }) (in_range st s _ e), had v st s _ e)
parts_step v size st event _ free (Step.read s l e) = omega arith
parts_step v size st event _ free (Step.exchanged s l exchange new e fresh exact) = omega arith
parts_step v size st event _ free (Step.compared s l exchange e exact) = omega arith

-- no value stands twice where retired values stand
pub kept-le-slots : (v : ℕ) (slots : List Slot) → kept_in v slots ≤ in_slots v slots
kept-le-slots v slots = sum_by-le-sum_by (slot_keeps v) (slot_has v) slots le
  where
    at_place : (place : Place) → place_given v place ≤ place_has v place
    at_place (Append w) = omega arith
    at_place (Mark next note marked) = omega arith
    at_place (Look b won m later) = omega arith
    at_place (Try b won m later saw) = omega arith
    at_place (Add b won) = omega arith
    at_place (Out stays) = omega arith
    at_place (Rest given walk) = omega arith

    in_call : (call : Option Progress) → given v call ≤ Rattle.seize_machine.proofs.Invariants.Once.call_has v call
    in_call None = omega arith
    in_call (Some call) = omega (arith, at_place call.place)

    le : (slot : Slot) → slot_keeps v slot ≤ slot_has v slot
    le slot = omega (arith, in_call slot.call)

pub parts-le-places : (v : ℕ) (st : State) → parts v st ≤ places v st
parts-le-places v st = omega (arith, kept-le-slots v st.slots)

pub value_once : (v : ℕ) (o : Option ℕ) → (o ≡ Some v) ⊎ (is_value v o ≡ 0)
value_once v None = inr refl
value_once v (Some w) = grind arith

pub value_is : (v : ℕ) (o : Option ℕ) → o ≡ Some v → is_value v o ≡ 1
value_is v o e = grind arith
