-- The note of a call that marks is no greater than the number of slots: it is how many there were, and none is taken away.
use Rattle.std.proofs.Common.{◌≡◌, ℕ, ◌+◌, ◌≤◌, Bool, true, false, if◌then◌else◌, nat_lt, List, [], ◌∷◌, ◌++◌, length, get_or, set, Option, Some, None, refl, sym, subst, inl, inr, arith}
use Rattle.std.proofs.lemmas.List.{length-set, length_push}
use Rattle.seize_machine.specs.Machine.State.{no_slot, State, Slot, Progress, Head, Inactive, Active, Place, Append, Mark, Look, Rest, slot_at, head_at, is_active, opening}
use Rattle.seize_machine.specs.Machine.Event.{Event}
use Rattle.seize_machine.specs.Machine.Next.{look, marked_place, looked, taken_slot, taken_call}
use Rattle.seize_machine.specs.Machine.History.{IsReached}
use Rattle.seize_machine.specs.declared.machine.event.Answer.{Answer}
use Rattle.seize_machine.proofs.Steps.Relation.{Step, Stands, some_is, taken}
use Rattle.seize_machine.proofs.Invariants.Kept.{at_set, pushed, starts}
use Rattle.seize_machine.proofs.Invariants.Live.{opening_slot}
use Rattle.seize_machine.proofs.Invariants.States.{reached_holds}

-- the note of a call that marks, and 0 at another place
abbrev place_note : Place → ℕ
place_note (Mark next note marks) = note
place_note _ = 0

abbrev note_of : Option Progress → ℕ
note_of None = 0
note_of (Some call) = place_note call.place

abbrev Noted : State → Type 0
Noted st = (t : ℕ) → note_of (slot_at st t).call ≤ length st.slots

-- a change of one slot's record
noted_set : (st : State) (i : ℕ) (new : Slot) → Noted st → note_of new.call ≤ length st.slots → (t : ℕ) → note_of (get_or (set st.slots i new) t no_slot).call ≤ length (set st.slots i new)
noted_set st i new c h t = rw (length-set st.slots i new) (at_set (λ slot. note_of slot.call ≤ length st.slots) st.slots i t new no_slot (λ same r. h) (c t))

look_note : (b won : ℕ) (marks : List ℕ) → place_note (look b won marks) ≡ 0
look_note b won [] = refl
look_note b won (m ∷ marks) = refl

looked_note : (b won m : ℕ) (head : Head) (later : List ℕ) → place_note (looked head b won m later) ≡ 0
looked_note b won m Inactive later = look_note b won later
looked_note b won m (Active waiting) later = refl

marked_note : (n note : ℕ) (active : Bool) (marks batch : List ℕ) → place_note (marked_place active n note marks batch) ≤ note
marked_note n note false marks batch = omega arith
marked_note n note true marks batch = go (nat_lt (length marks) (length batch))
  where
    go : (t : Bool) → place_note (if t then Mark (n + 1) note (marks ++ n ∷ []) else Rest [] []) ≤ note
    go true = omega arith
    go false = omega arith

taken_note : (size n : ℕ) (rest : List ℕ) → note_of (taken_call size n rest) ≤ n
taken_note size n rest = taken (λ o. note_of o ≤ n) size n rest (λ h. omega arith) (λ h. omega arith)

noted_step : (size : ℕ) (st : State) (event : Event) (d : State × Answer) → Step size st event d → Noted st → Noted d.0
noted_step size st event _ (Step.took_new s e least) c = λ t.
    let new : Slot = taken_slot size (length st.slots + 1) st.rest in
    rw (length_push st.slots new)
    (pushed (λ slot. note_of slot.call ≤ length st.slots + 1) st.slots t new no_slot (λ same. taken_note size (length st.slots + 1) st.rest) (omega (arith, c t)))
noted_step size st event _ (Step.took_old s r e least) c = noted_set st s (taken_slot size (length st.slots) st.rest) c (taken_note size (length st.slots) st.rest)
noted_step size st event _ (Step.gave s e off ends) c = noted_set st s no_slot c (omega arith)
noted_step size st event _ (Step.gathered s e off lone some) c = noted_set st s _ c (omega arith)
noted_step size st event _ (Step.entered s e off) c = c
noted_step size st event _ (Step.begun_retire s w e new) c = noted_set st s (record (slot_at st s) { call = Some (record { place = Append w; queue = [] }) }) c (omega arith)
noted_step size st event _ (Step.begun_other s job place e which exact) c =
    noted_set st s (record (slot_at st s) { call = Some (record { place = place; queue = [] }) }) c
    (starts (λ place. place_note place ≤ length st.slots) (length st.slots) (omega arith) (omega arith) (omega arith) (omega arith) place which)
noted_step size st event _ (Step.put s w from before after place e which (inl to) after_is) c =
    noted_set st s (record { used = (slot_at st s).used; batch = (slot_at st s).batch ++ w ∷ []; call = Some (record { place = place; queue = after }) }) c
    (subst (λ place. place_note place ≤ length st.slots) (sym to.0) (omega arith))
noted_step size st event _ (Step.put s w from before after place e which (inr to) after_is) c =
    noted_set st s (record { used = (slot_at st s).used; batch = (slot_at st s).batch ++ w ∷ []; call = Some (record { place = place; queue = after }) }) c
    (subst (λ place. place_note place ≤ length st.slots) (sym to) (omega arith))
noted_step size st event _ (Step.marked s n next note marks queue e r at) c =
    let f : note ≤ length st.slots = rw e at (c s) in
    noted_set st s (record (slot_at st s) { call = Some (record { place = marked_place (is_active (head_at st n)) n note marks (slot_at st s).batch; queue = queue }) }) c
    (omega (arith, f, marked_note n note (is_active (head_at st n)) marks (slot_at st s).batch))
noted_step size st event _ (Step.looked_at s b won m later queue e) c =
    noted_set st s (record (slot_at st s) { call = Some (record { place = looked (head_at st m) b won m later; queue = queue }) }) c (omega (arith, looked_note b won m (head_at st m) later))
noted_step size st event _ (Step.detached s next note marks queue e le) c =
    noted_set st s (record { used = (slot_at st s).used; batch = []; call = Some (record { place = look (length st.batches) 0 marks; queue = queue }) }) c (omega (arith, look_note (length st.batches) 0 marks))
noted_step size st event _ (Step.inserted s m b won later saw queue waiting e head_is) c =
    noted_set st s (record (slot_at st s) { call = Some (record { place = look b (won + 1) later; queue = queue }) }) c (omega (arith, look_note b (won + 1) later))
noted_step size st event _ (Step.lost s m b won later saw queue e differs) c = noted_set st s (record (slot_at st s) { call = Some (record { place = Look b won m later; queue = queue }) }) c (omega arith)
noted_step size st event _ (Step.added s b won queue d e h) c = subst (λ d. Noted d.0) (some_is _ _ h) (noted_set st s _ c (omega arith))
noted_step size st event _ (Step.subtracted s b walk queue d e h) c = subst (λ d. Noted d.0) (some_is _ _ h) (noted_set st s _ c (omega arith))
noted_step size st event _ (Step.swapped_out s stays queue e) c = noted_set st s _ c (omega arith)
noted_step size st event _ (Step.handed s w puts given_on walk queue e new) c = noted_set st s _ c (omega arith)
noted_step size st event _ (Step.returned s e) c = noted_set st s (record (slot_at st s) { call = None }) c (omega arith)
noted_step size st event _ (Step.read s l e) c = c
noted_step size st event _ (Step.exchanged s l exchange new e fresh exact) c = c
noted_step size st event _ (Step.compared s l exchange e exact) c = c

reached_noted : (st : State) → IsReached st → Noted st
reached_noted = reached_holds Noted (λ slots links distinct s. subst (λ slot. note_of slot.call ≤ length (opening slots links).slots) (sym (opening_slot slots s links)) (omega arith)) (λ st t d r step c. noted_step t.size st t.event d step c)

pub note_within : (st : State) (s next note : ℕ) (marks queue : List ℕ) → IsReached st → Stands st s (Mark next note marks) queue → note ≤ length st.slots
note_within st s next note marks queue r e = rw e at (reached_noted st r s)
