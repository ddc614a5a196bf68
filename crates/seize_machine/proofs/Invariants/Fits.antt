-- What bounds the batches of slots, the marks and the insertions.
use Rattle.std.proofs.Common.{◌≡◌, ℕ, ◌+◌, ◌<◌, ◌≤◌, max, Bool, true, false, not, if◌then◌else◌, nat_lt, List, [], ◌∷◌, ◌++◌, length, get_or, set, Option, Some, None, refl, sym, subst, ◌⊎◌, inl, inr, arith}
use Rattle.std.proofs.lemmas.List.{length-set, length_push}
use Rattle.seize_machine.specs.Machine.State.{no_slot, State, Slot, Progress, Head, Inactive, Active, Place, Append, Mark, Look, Try, Add, Out, Rest, slot_at, head_at, is_active}
use Rattle.seize_machine.specs.Machine.Event.{Event}
use Rattle.seize_machine.specs.Machine.Next.{is_empty, look, marked_place, looked, taken_slot, taken_call}
use Rattle.seize_machine.specs.Machine.Laws.{fills}
use Rattle.seize_machine.specs.declared.machine.event.Answer.{Answer}
use Rattle.seize_machine.proofs.Steps.Relation.{Step, some_is, taken}
use Rattle.seize_machine.proofs.Invariants.Counts.{idle_call}
use Rattle.seize_machine.proofs.Invariants.Kept.{at_set, pushed, starts}

-- k: the size, at least 1; n: how many slots; l: how long the slot's batch is
abbrev pub PlaceFits : ℕ → ℕ → ℕ → Place → Type 0
PlaceFits k n l (Mark next note marks) = (length marks ≤ next) × (next ≤ n)
PlaceFits k n l (Look b won m later) = (l < max k n) × (won + 1 + length later ≤ n)
PlaceFits k n l (Try b won m later saw) = (l < max k n) × (won + 1 + length later ≤ n)
PlaceFits k n l (Add b won) = (l < max k n) × (won ≤ n)
PlaceFits k n l _ = l < max k n

abbrev pub CallFits : ℕ → ℕ → ℕ → Option Progress → Type 0
CallFits k n l None = l < max k n
CallFits k n l (Some call) = PlaceFits k n l call.place

abbrev pub SlotFits : ℕ → ℕ → Slot → Type 0
SlotFits k n slot = CallFits k n (length slot.batch) slot.call

abbrev pub Fits : ℕ → State → Type 0
Fits k st = (t : ℕ) → SlotFits k (length st.slots) (slot_at st t)

-- with one slot more it still fits
wider : (k n l : ℕ) (call : Option Progress) → CallFits k n l call → CallFits k (n + 1) l call
wider k n l None h = omega arith
wider k n l (Some call) h = go call.place h
  where
    go : (place : Place) → PlaceFits k n l place → PlaceFits k (n + 1) l place
    go (Append v) h = omega arith
    go (Mark next note marks) h = (h.0, omega (arith, h.1))
    go (Look b won m later) h = (omega (arith, h.0), omega (arith, h.1))
    go (Try b won m later saw) h = (omega (arith, h.0), omega (arith, h.1))
    go (Add b won) h = (omega (arith, h.0), omega (arith, h.1))
    go (Out stays) h = omega arith
    go (Rest given walk) h = omega arith

-- a change of one slot's record
fits_set : (k : ℕ) (st : State) (i : ℕ) (new : Slot) → Fits k st → SlotFits k (length st.slots) new → (t : ℕ) → SlotFits k (length (set st.slots i new)) (get_or (set st.slots i new) t no_slot)
fits_set k st i new c h t = rw (length-set st.slots i new) (at_set (SlotFits k (length st.slots)) st.slots i t new no_slot (λ same r. h) (c t))

look_fits : (k n b won : ℕ) (marks : List ℕ) → 1 ≤ k → won + length marks ≤ n → PlaceFits k n 0 (look b won marks)
look_fits k n b won [] one le = (omega arith, omega arith)
look_fits k n b won (m ∷ marks) one le = (omega arith, omega arith)

look_fits_at : (k n l b won : ℕ) (marks : List ℕ) → l < max k n → won + length marks ≤ n → PlaceFits k n l (look b won marks)
look_fits_at k n l b won [] short le = (short, omega arith)
look_fits_at k n l b won (m ∷ marks) short le = (short, omega arith)

looked_fits : (k n l b won m : ℕ) (head : Head) (later : List ℕ) → l < max k n → won + 1 + length later ≤ n → PlaceFits k n l (looked head b won m later)
looked_fits k n l b won m Inactive later short le = look_fits_at k n l b won later short (omega arith)
looked_fits k n l b won m (Active waiting) later short le = (short, le)

marked_fits : (k n i next note : ℕ) (active : Bool) (marks batch : List ℕ) → i < n → next ≤ i → length marks ≤ next → PlaceFits k n (length batch) (marked_place active i note marks batch)
marked_fits k n i next note false marks batch r at le = (omega arith, omega arith)
marked_fits k n i next note true marks batch r at le = go (nat_lt (length marks) (length batch)) refl
  where
    go : (b : Bool) → nat_lt (length marks) (length batch) ≡ b → PlaceFits k n (length batch) (if b then Mark (i + 1) note (marks ++ i ∷ []) else Rest [] [])
    go true e = (omega (arith, length_push marks i), omega arith)
    go false e = (let le2 : length batch ≤ length marks = grind arith in omega arith)

next_at : (n next note : ℕ) → (n ≡ next) ⊎ ((note ≤ next) × (next < n)) → next ≤ n
next_at n next note at = grind arith

taken_fits : (k size n : ℕ) (rest : List ℕ) → 1 ≤ k → (not (is_empty rest) ≡ true → size ≤ k) → SlotFits k n (taken_slot size n rest)
taken_fits k size n [] one small = taken (CallFits k n 0) size n [] (λ h. omega arith) (λ h. (omega arith, omega arith))
taken_fits k size n (v ∷ vs) one small =
    let within : size ≤ k = small refl in taken (CallFits k n (length (v ∷ vs))) size n (v ∷ vs) (λ h. omega arith) (λ h. (omega arith, omega arith))

-- where k is at least 1, and at least the size if a batch may be full by it after the event
pub fits_step : (k size : ℕ) (st : State) (event : Event) (d : State × Answer) → Step size st event d → 1 ≤ k → (fills st event ≡ true → size ≤ k) → Fits k st → Fits k d.0
fits_step k size st event _ (Step.took_new s e least) one small c = λ t.
    let new : Slot = taken_slot size (length st.slots + 1) st.rest in
    rw (length_push st.slots new) (pushed (SlotFits k (length st.slots + 1)) st.slots t new no_slot (λ same. taken_fits k size (length st.slots + 1) st.rest one small) (wider k (length st.slots) _ _ (c t)))
fits_step k size st event _ (Step.took_old s r e least) one small c = fits_set k st s (taken_slot size (length st.slots) st.rest) c (taken_fits k size (length st.slots) st.rest one small)
fits_step k size st event _ (Step.gave s e off ends) one small c = fits_set k st s no_slot c (omega arith)
fits_step k size st event _ (Step.gathered s e off lone some) one small c = fits_set k st s _ c (omega arith, omega arith)
fits_step k size st event _ (Step.entered s e off) one small c = c
fits_step k size st event _ (Step.begun_retire s w e new) one small c = fits_set k st s (record (slot_at st s) { call = Some (record { place = Append w; queue = [] }) }) c (rw (idle_call (slot_at st s) e) at (c s))
fits_step k size st event _ (Step.begun_other s job place e which exact) one small c =
    let f : length (slot_at st s).batch < max k (length st.slots) = rw (idle_call (slot_at st s) e) at (c s) in
    fits_set k st s (record (slot_at st s) { call = Some (record { place = place; queue = [] }) }) c
    (starts (PlaceFits k (length st.slots) (length (slot_at st s).batch)) (length st.slots) f (omega arith, omega arith) f f place which)
fits_step k size st event _ (Step.put s w from before after place e which (inl to) after_is) one small c =
    let within : size ≤ k = small refl in
    fits_set k st s (record { used = (slot_at st s).used; batch = (slot_at st s).batch ++ w ∷ []; call = Some (record { place = place; queue = after }) }) c
    (subst (PlaceFits k (length st.slots) (length ((slot_at st s).batch ++ w ∷ []))) (sym to.0) (omega (arith, to.1)))
fits_step k size st event _ (Step.put s w from before after place e which (inr to) after_is) one small c =
    fits_set k st s (record { used = (slot_at st s).used; batch = (slot_at st s).batch ++ w ∷ []; call = Some (record { place = place; queue = after }) }) c
    (subst (PlaceFits k (length st.slots) (length ((slot_at st s).batch ++ w ∷ []))) (sym to) (omega arith, omega arith))
fits_step k size st event _ (Step.marked s n next note marks queue e r at) one small c =
    let f : (length marks ≤ next) × (next ≤ length st.slots) = rw e at (c s) in
    fits_set k st s (record (slot_at st s) { call = Some (record { place = marked_place (is_active (head_at st n)) n note marks (slot_at st s).batch; queue = queue }) }) c (marked_fits k (length st.slots) n next note (is_active (head_at st n)) marks (slot_at st s).batch r (next_at n next note at) f.0)
fits_step k size st event _ (Step.looked_at s b won m later queue e) one small c =
    let f : (length (slot_at st s).batch < max k (length st.slots)) × (won + 1 + length later ≤ length st.slots) = rw e at (c s) in
    fits_set k st s (record (slot_at st s) { call = Some (record { place = looked (head_at st m) b won m later; queue = queue }) }) c (looked_fits _ _ _ b won m (head_at st m) later f.0 f.1)
fits_step k size st event _ (Step.detached s next note marks queue e le) one small c =
    let f : (length marks ≤ next) × (next ≤ length st.slots) = rw e at (c s) in
    fits_set k st s (record { used = (slot_at st s).used; batch = []; call = Some (record { place = look (length st.batches) 0 marks; queue = queue }) }) c (look_fits k (length st.slots) (length st.batches) 0 marks (omega arith) (omega arith))
fits_step k size st event _ (Step.inserted s m b won later saw queue waiting e head_is) one small c =
    let f : (length (slot_at st s).batch < max k (length st.slots)) × (won + 1 + length later ≤ length st.slots) = rw e at (c s) in
    fits_set k st s (record (slot_at st s) { call = Some (record { place = look b (won + 1) later; queue = queue }) }) c (look_fits_at _ _ _ b (won + 1) later f.0 f.1)
fits_step k size st event _ (Step.lost s m b won later saw queue e differs) one small c = fits_set k st s (record (slot_at st s) { call = Some (record { place = Look b won m later; queue = queue }) }) c (rw e at (c s))
fits_step k size st event _ (Step.added s b won queue d e h) one small c =
    let f : (length (slot_at st s).batch < max k (length st.slots)) × (won ≤ length st.slots) = rw e at (c s) in
    subst (λ d. Fits k d.0) (some_is _ _ h) (fits_set k st s _ c f.0)
fits_step k size st event _ (Step.subtracted s b walk queue d e h) one small c =
    subst (λ d. Fits k d.0) (some_is _ _ h) (fits_set k st s _ c (rw e at (c s)))
fits_step k size st event _ (Step.swapped_out s stays queue e) one small c = fits_set k st s _ c (rw e at (c s))
fits_step k size st event _ (Step.handed s w puts given_on walk queue e new) one small c = fits_set k st s _ c (rw e at (c s))
fits_step k size st event _ (Step.returned s e) one small c = fits_set k st s (record (slot_at st s) { call = None }) c (rw e at (c s))
fits_step k size st event _ (Step.read s l e) one small c = c
fits_step k size st event _ (Step.exchanged s l exchange new e fresh exact) one small c = c
fits_step k size st event _ (Step.compared s l exchange e exact) one small c = c
