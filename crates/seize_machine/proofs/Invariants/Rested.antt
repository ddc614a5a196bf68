-- The rest: while it has a value some slot is in use, and how long it gets.
use Rattle.std.proofs.Common.{◌≡◌, ◌≢◌, ℕ, zero, suc, ◌+◌, ◌*◌, ◌<◌, ◌≤◌, max, Bool, true, false, not, ◌||◌, ◌&&◌, ◌==◌, if◌then◌else◌, nat_lt, List, [], ◌∷◌, ◌++◌, map, length, get_or, set, replicate, Option, Some, None, refl, sym, ◌∙◌, ap, subst, ◌⊎◌, inl, inr, arith}
use Rattle.std.specs.List.{list_any, sum_by}
use Rattle.std.proofs.Math.Nat.{le-mul_of_pos_right, mul_comm}
use Rattle.std.proofs.lemmas.Nat.{mul-le}
use Rattle.std.proofs.lemmas.List.{length-set, length-append, get_or-replicate, get_or_past, length-replicate}
use Rattle.std.proofs.lemmas.List.Sums.{sum_by-set, sum_by-cons}
use Rattle.seize_machine.specs.Machine.State.{no_slot, State, Slot, Head, Inactive, Place, slot_at, head_at, is_active, is_idle, opening}
use Rattle.seize_machine.specs.Machine.Event.{Event, Begin}
use Rattle.seize_machine.specs.Machine.Next.{taken_slot, has_others, ends_now, is_empty}
use Rattle.seize_machine.specs.Machine.Frames.{used, changes_slot, changes_used, changes_numbers, slots_added}
use Rattle.seize_machine.specs.declared.machine.event.Job.{Job}
use Rattle.seize_machine.specs.declared.machine.event.Job.TheVariants.{Retire, Flush, Leave, Refresh, Gather}
use Rattle.seize_machine.specs.declared.machine.event.Answer.{Answer}
use Rattle.seize_machine.proofs.Steps.Relation.{Step, Stands, beginning, is_true, eq_true, or_true, lt_true}
use Rattle.seize_machine.proofs.Steps.Frames.{rest_frame, used_frame, active_frame, slots_length}
use Rattle.seize_machine.proofs.Invariants.Counts.{Free, idle_range, idle_call}
use Rattle.seize_machine.proofs.Invariants.Kept.{at_set, pushed}
use Rattle.seize_machine.proofs.Invariants.Fits.{Fits}

-- events that change neither which numbers are in use nor the rest

calm : (event : Event) → changes_numbers event ≡ false → changes_used event ≡ false
calm (Begin s job) n = refl
calm (Event.Take s) n = absurd (cc)
calm (Event.Give s) n = absurd (cc)
calm _ n = refl

none_added : (st : State) (event : Event) → changes_numbers event ≡ false → slots_added st event ≡ 0
none_added st (Event.Take s) n = absurd (cc)
none_added st _ n = refl

not_gather : (st : State) (s : ℕ) (job : Job) (place : _) → beginning st s job ≡ Some place → changes_numbers (Begin s job) ≡ false
not_gather st s (Retire v) place e = refl
not_gather st s Flush place e = refl
not_gather st s Leave place e = refl
not_gather st s Refresh place e = refl
not_gather st s Gather place e = absurd (cc)

-- **In use.** The rest is empty, or some number is in use.

abbrev pub Needed : List ℕ → List Bool → Type 0
Needed rest us = (length rest ≡ 0) ⊎ (list_any (λ u. u) us ≡ true)

abbrev pub Lasts : State → Type 0
Lasts st = Needed st.rest (used st)

any_used : (slots : List Slot) → list_any (λ slot. slot.used) slots ≡ list_any (λ u. u) (map (λ slot. slot.used) slots)
any_used [] = refl
any_used (slot ∷ slots) = go slot.used (any_used slots)
  where
    go : (b : Bool) → list_any (λ slot. slot.used) slots ≡ list_any (λ u. u) (map (λ slot. slot.used) slots) → (b || list_any (λ slot. slot.used) slots) ≡ (b || list_any (λ u. u) (map (λ slot. slot.used) slots))
    go true e = refl
    go false e = e

no_values : (rest batch : List ℕ) → (is_empty batch && is_empty rest) ≡ true → length (rest ++ batch) ≡ 0
no_values [] [] e = refl
no_values (v ∷ rest) [] e = absurd (cc)
no_values rest (v ∷ batch) e = absurd (cc)

pub lasts_step : (size : ℕ) (st : State) (event : Event) (d : State × Answer) → Step size st event d → Lasts st → Lasts d.0
lasts_step size st event d step c = go (is_true (changes_numbers event))
  where
    at : (event : Event) (d : State × Answer) → Step size st event d → changes_numbers event ≡ true → Lasts d.0
    at event _ (Step.took_new s e least) t = inl refl
    at event _ (Step.took_old s r e least) t = inl refl
    at event _ (Step.gathered s e off lone some) t = inl refl
    at event _ (Step.gave s e off ends) t = last (or_true _ _ ends)
      where
        last : (has_others st s ≡ true) ⊎ ((is_empty (slot_at st s).batch && is_empty st.rest) ≡ true) → Needed (st.rest ++ (slot_at st s).batch) (map (λ slot. slot.used) (set st.slots s no_slot))
        last (inl o) = inr (sym (any_used (set st.slots s no_slot)) ∙ o)
        last (inr n) = inl (no_values st.rest (slot_at st s).batch n)
    at event _ (Step.begun_other s job place e which exact) t = absurd (let n : changes_numbers (Begin s job) ≡ false = not_gather st s job place exact.1 in let k : true ≡ false = sym t ∙ n in cc)
    at event _ _ t = absurd (cc)

    go : (changes_numbers event ≡ true) ⊎ (changes_numbers event ≡ false) → Lasts d.0
    go (inl t) = at event d step t
    go (inr n) = subst (λ (x : List ℕ × List Bool). Needed x.0 x.1) (λ j. (sym (rest_frame size st event d step n) j, sym (used_frame size st event d step (calm event n)) j)) c

-- **How long.** Each free number has brought fewer values than the bound of a batch.

abbrev pub free_one : Bool → ℕ
free_one u = if u then 0 else 1

abbrev pub frees : List Bool → ℕ
frees us = sum_by free_one us

abbrev pub RestFits : ℕ → State → Type 0
RestFits k st = length st.rest + frees (used st) ≤ frees (used st) * max k (length st.slots)

frees_slots : (slots : List Slot) → sum_by (λ slot. free_one slot.used) slots ≡ frees (map (λ slot. slot.used) slots)
frees_slots [] = refl
frees_slots (slot ∷ slots) = omega (arith, sum_by-cons (λ slot. free_one slot.used) slot slots, sum_by-cons free_one slot.used (map (λ slot. slot.used) slots), frees_slots slots)

times_more : (f b : ℕ) → (f + 1) * b ≡ f * b + b
times_more zero b = omega arith
times_more (suc f) b = omega (arith, times_more f b)

empty_fits : (f b : ℕ) → 1 ≤ b → 0 + f ≤ f * b
empty_fits f b h = omega (arith, le-mul_of_pos_right {m = b} f h)

idle_used : (slot : Slot) → is_idle slot ≡ true → slot.used ≡ true
idle_used slot e = grind arith

pub rest_fits_step : (k size : ℕ) (st : State) (event : Event) (d : State × Answer) → Step size st event d → 1 ≤ k → Fits k st → RestFits k st → RestFits k d.0
rest_fits_step k size st event d step one fits c = go (is_true (changes_numbers event))
  where
    at : (event : Event) (d : State × Answer) → Step size st event d → changes_numbers event ≡ true → RestFits k d.0
    at event _ (Step.took_new s e least) t = empty_fits _ _ (omega arith)
    at event _ (Step.took_old s r e least) t = empty_fits _ _ (omega arith)
    at event _ (Step.gathered s e off lone some) t = empty_fits _ _ (omega arith)
    at event _ (Step.gave s e off ends) t =
        let b : ℕ = max k (length st.slots) in
        let f : ℕ = frees (used st) in
        let short : length (slot_at st s).batch < b = rw (idle_call (slot_at st s) e) at (fits s) in
        let was : free_one (slot_at st s).used ≡ 0 = ap free_one (idle_used (slot_at st s) e) in
        let more : frees (map (λ slot. slot.used) (set st.slots s no_slot)) ≡ f + 1 = sym (frees_slots (set st.slots s no_slot))
        ∙ omega (arith, was, sum_by-set (λ slot. free_one slot.used) st.slots s no_slot no_slot (idle_range st s e), frees_slots st.slots) in
        let long : length (st.rest ++ (slot_at st s).batch) ≡ length st.rest + length (slot_at st s).batch = length-append st.rest (slot_at st s).batch in
        let all : length (st.rest ++ (slot_at st s).batch) + (f + 1) ≤ (f + 1) * b = omega (arith, times_more f b, c, short, long) in
        rw more (rw (length-set st.slots s no_slot) all)
    at event _ (Step.begun_other s job place e which exact) t = absurd (let n : changes_numbers (Begin s job) ≡ false = not_gather st s job place exact.1 in let k : true ≡ false = sym t ∙ n in cc)
    at event _ _ t = absurd (cc)

    go : (changes_numbers event ≡ true) ⊎ (changes_numbers event ≡ false) → RestFits k d.0
    go (inl t) = at event d step t
    go (inr n) =
        let many : length (d.0).slots ≡ length st.slots = omega (arith, slots_length size st event d step, none_added st event n) in
        rw (rest_frame size st event d step n) (rw (used_frame size st event d step (calm event n)) (rw many c))

-- so the rest is below its bound
pub below_rest_bound : (k : ℕ) (st : State) → 1 ≤ length st.rest → RestFits k st → length st.rest < max k (length st.slots) * length st.slots
below_rest_bound k st some c = go (frees (used st)) refl
  where
    b : ℕ
    b = max k (length st.slots)

    n : ℕ
    n = length st.slots

    each : (us : List Bool) → frees us ≤ length us
    each [] = omega arith
    each (u ∷ us) = omega (arith, sum_by-cons free_one u us, at_most u, each us)
      where
        at_most : (u : Bool) → free_one u ≤ 1
        at_most true = omega arith
        at_most false = omega arith

    as_long : (slots : List Slot) → length (map (λ slot. slot.used) slots) ≡ length slots
    as_long [] = refl
    as_long (slot ∷ slots) = ap suc (as_long slots)

    turned : (a c : ℕ) → a * c ≡ c * a
    turned a c = mul_comm a c

    go : (f : ℕ) → frees (used st) ≡ f → length st.rest < b * n
    go zero e = absurd (let c0 : length st.rest + 0 ≤ 0 * b = rw (← e) c in omega arith)
    go (suc f) e =
        let c1 : length st.rest + suc f ≤ suc f * b = rw (← e) c in
        let le : suc f ≤ n = omega (arith, e, each (used st), as_long st.slots) in
        let wide : suc f * b ≤ n * b = mul-le (suc f) b n b le (omega arith) in
        omega (arith, turned n b)

-- **Inactive.** A slot whose number is free is not active.

abbrev pub Off : State → Type 0
Off st = (t : ℕ) → (slot_at st t).used ≡ false → is_active (head_at st t) ≡ false

on : (used : Bool) (A : Type 0) → used ≡ true → used ≡ false → A
on used A e off = absurd (let k : true ≡ false = sym e ∙ off in cc)

used_busy : (st : State) (s : ℕ) (place : Place) (queue : List ℕ) → Free st → Stands st s place queue → (slot_at st s).used ≡ true
used_busy st s place queue free e = go (is_true (slot_at st s).used)
  where
    go : ((slot_at st s).used ≡ true) ⊎ ((slot_at st s).used ≡ false) → (slot_at st s).used ≡ true
    go (inl t) = t
    go (inr n) = absurd (let k : Option.None ≡ Some (record { place = place; queue = queue }) = sym (ap (λ (slot : Slot). slot.call) (free s n)) ∙ e in cc)

at_slot : (st : State) (s t : ℕ) → (s == t) ≡ true → (slot_at st s).used ≡ true → (slot_at st t).used ≡ true
at_slot st s t same h = subst (λ (k : ℕ). (slot_at st k).used ≡ true) (eq_true s t same) h

own_used : (t size : ℕ) (st : State) (event : Event) (d : State × Answer) → Free st → Step size st event d → changes_slot t event ≡ true → changes_numbers event ≡ false → (slot_at st t).used ≡ true
own_used t size st event _ free (Step.took_new s e least) own n = absurd (cc)
own_used t size st event _ free (Step.took_old s r e least) own n = absurd (cc)
own_used t size st event _ free (Step.gave s e off ends) own n = absurd (cc)
own_used t size st event _ free (Step.gathered s e off lone some) own n = absurd (cc)
own_used t size st event _ free (Step.entered s e off) own n = at_slot st s t own (idle_used (slot_at st s) e)
own_used t size st event _ free (Step.begun_retire s v e new) own n = at_slot st s t own (idle_used (slot_at st s) e)
own_used t size st event _ free (Step.begun_other s job place e which exact) own n = at_slot st s t own (idle_used (slot_at st s) e)
own_used t size st event _ free (Step.put s v from before after place e which to after_is) own n = at_slot st s t own (used_busy st s _ _ free e)
own_used t size st event _ free (Step.marked s k next note marks queue e r at) own n = at_slot st s t own (used_busy st s _ _ free e)
own_used t size st event _ free (Step.looked_at s b won m later queue e) own n = at_slot st s t own (used_busy st s _ _ free e)
own_used t size st event _ free (Step.detached s next note marks queue e le) own n = at_slot st s t own (used_busy st s _ _ free e)
own_used t size st event _ free (Step.inserted s m b won later saw queue waiting e head_is) own n = at_slot st s t own (used_busy st s _ _ free e)
own_used t size st event _ free (Step.lost s m b won later saw queue e differs) own n = at_slot st s t own (used_busy st s _ _ free e)
own_used t size st event _ free (Step.added s b won queue d e h) own n = at_slot st s t own (used_busy st s _ _ free e)
own_used t size st event _ free (Step.subtracted s b walk queue d e h) own n = at_slot st s t own (used_busy st s _ _ free e)
own_used t size st event _ free (Step.swapped_out s stays queue e) own n = at_slot st s t own (used_busy st s _ _ free e)
own_used t size st event _ free (Step.handed s v puts given walk queue e new) own n = at_slot st s t own (used_busy st s _ _ free e)
own_used t size st event _ free (Step.returned s e) own n = at_slot st s t own (used_busy st s _ _ free e)
own_used t size st event _ free (Step.read s l e) own n = absurd (cc)
own_used t size st event _ free (Step.exchanged s l exchange new e fresh exact) own n = absurd (cc)
own_used t size st event _ free (Step.compared s l exchange e exact) own n = absurd (cc)

used_index : (slots : List Slot) (t : ℕ) → (get_or slots t no_slot).used ≡ get_or (map (λ slot. slot.used) slots) t false
used_index [] t = refl
used_index (slot ∷ slots) zero = refl
used_index (slot ∷ slots) (suc t) = used_index slots t

pub off_step : (size : ℕ) (st : State) (event : Event) (d : State × Answer) → Free st → Step size st event d → Off st → Off d.0
off_step size st event d free step c = go (is_true (changes_numbers event))
  where
    at : (event : Event) (d : State × Answer) → Step size st event d → changes_numbers event ≡ true → Off d.0
    at event _ (Step.took_new s e least) n = λ t.
        pushed (λ head. (get_or (st.slots ++ taken_slot size (length st.slots + 1) st.rest ∷ []) t no_slot).used ≡ false → is_active head ≡ false) st.heads t Inactive Inactive (λ same h. refl)
        (pushed (λ slot. slot.used ≡ false → is_active (head_at st t) ≡ false) st.slots t (taken_slot size (length st.slots + 1) st.rest) no_slot (λ same. on true _ refl) (c t))
    at event _ (Step.took_old s r e least) n = λ t. at_set (λ slot. slot.used ≡ false → is_active (head_at st t) ≡ false) st.slots s t _ no_slot (λ same r. on true _ refl) (c t)
    at event _ (Step.gathered s e off lone some) n = λ t. at_set (λ slot. slot.used ≡ false → is_active (head_at st t) ≡ false) st.slots s t _ no_slot (λ same r. on true _ refl) (c t)
    at event _ (Step.gave s e off ends) n = λ t.
        at_set (λ slot. slot.used ≡ false → is_active (head_at st t) ≡ false) st.slots s t no_slot no_slot (λ same r h. subst (λ (k : ℕ). is_active (head_at st k) ≡ false) same off) (c t)
    at event _ (Step.begun_other s job place e which exact) t = absurd (let n : changes_numbers (Begin s job) ≡ false = not_gather st s job place exact.1 in let k : true ≡ false = sym t ∙ n in cc)
    at event _ _ n = absurd (cc)

    other : changes_numbers event ≡ false → (t : ℕ) → (slot_at d.0 t).used ≡ false → is_active (head_at d.0 t) ≡ false
    other n t h = each (is_true (changes_slot t event))
      where
        was : (slot_at st t).used ≡ false
        was = used_index st.slots t ∙ ap (λ (us : List Bool). get_or us t false) (sym (used_frame size st event d step (calm event n))) ∙ sym (used_index (d.0).slots t) ∙ h

        each : (changes_slot t event ≡ true) ⊎ (changes_slot t event ≡ false) → is_active (head_at d.0 t) ≡ false
        each (inl own) = on (slot_at st t).used _ (own_used t size st event d free step own n) was
        each (inr away) = active_frame t size st event d step away ∙ c t was

    go : (changes_numbers event ≡ true) ⊎ (changes_numbers event ≡ false) → Off d.0
    go (inl t) = at event d step t
    go (inr n) = other n

-- the opening

pub opening_rest_fits : (k slots : ℕ) (links : List (Option ℕ)) → 1 ≤ k → RestFits k (opening slots links)
opening_rest_fits k slots links one = empty_fits _ _ (omega arith)

pub opening_off : (slots : ℕ) (links : List (Option ℕ)) → Off (opening slots links)
opening_off slots links t h = go (is_true (nat_lt t slots))
  where
    go : (nat_lt t slots ≡ true) ⊎ (nat_lt t slots ≡ false) → is_active (get_or (replicate slots Inactive) t Inactive) ≡ false
    go (inl r) = ap is_active (get_or-replicate slots t Inactive Inactive (lt_true _ _ r))
    go (inr r) = let past : slots ≤ t = grind arith in ap is_active (get_or_past (replicate slots Inactive) t Inactive (omega (arith, length-replicate slots Inactive)))
