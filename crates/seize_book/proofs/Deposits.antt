-- What stands beside a count: the values of the one batch that has values and whose first value lies in the block, once nobody has still
-- to add to its count.
use Rattle.std.proofs.Common.{◌≡◌, ◌≢◌, ℕ, zero, suc, ◌+◌, ◌<◌, ◌≤◌, ℤ, pos, ◌+ℤ◌, ◌-ℤ◌, Bool, true, false, not, ◌&&◌, ◌||◌, if◌then◌else◌, nat_lt, List, [], ◌∷◌, ◌++◌, length, get_or, set, Option, Some, None, refl, sym, ◌∙◌, ap, subst, ◌⊎◌, inl, inr, arith, append-nil}
use Rattle.std.proofs.lemmas.List.{get_or_past, get_or-set_same, get_or-set_other, length-set}
use Rattle.std.proofs.lemmas.List.Folds.{list_any_at}
use Rattle.std.proofs.lemmas.Bool.{cases_lt}
use native.Mathlib.Decide.{ℕ_discrete}
use Rattle.seize_machine.specs.Machine.State.{State, Slot, Batch, Progress, Head, Inactive, Active, Place, Append, Mark, Add, Out, Rest, no_slot, no_batch, slot_at, head_at, batch_at, is_active, is_idle}
use Rattle.seize_machine.specs.Machine.Event.{Event, AddCount, SubCount}
use Rattle.seize_machine.specs.Machine.Next.{next, scheme, of_call, moved, moved_call, walked_on, look, looked, marked_place, taken_slot, taken_call, adding_at, add_count, walking_at, sub_count, is_zero}
use Rattle.seize_machine.specs.Machine.History.{IsReached}
use Rattle.seize_machine.specs.Machine.Laws.{added_batch, detached_by}
use Rattle.seize_machine.specs.Machine.Frames.{changes_batch, is_number as is_that}
use Rattle.seize_machine.specs.declared.machine.event.Answer.{Answer}
use Rattle.seize_machine.specs.declared.machine.event.Answer.TheVariants.{Count}
use Rattle.seize_machine.proofs.Facts.{Step, Stands, some_is, step_of, one_owner, arrives_unheld, free_empty}
use Rattle.seize_book.specs.Homes.{HasOne, changes_count, is_in, is_batch_in}
use Rattle.seize_book.specs.Deposits.{is_number, is_with_call, deposit_from, deposit}
use Rattle.seize_book.proofs.Lists.{equal, taken_either, unequal}
use Rattle.seize_book.proofs.Counts.{come, still_out, others_out, in_range, zero_is}
use Rattle.seize_book.proofs.Serves.{at_set, at_push}

-- Who owns a batch: a call that has detached it, and has still to add to its count.

abbrev owns : ℕ → Slot → Bool
owns b slot = is_number b (detached_by slot.call)

owned_set : (b i : ℕ) (slots : List Slot) (new : Slot) → owns b new ≡ owns b (get_or slots i no_slot) → is_with_call (set slots i new) b ≡ is_with_call slots b
owned_set b i [] new e = refl
owned_set b zero (slot ∷ slots) new e = ap (λ (t : Bool). t || is_with_call slots b) e
owned_set b (suc i) (slot ∷ slots) new e = ap (λ (t : Bool). owns b slot || t) (owned_set b i slots new e)

owned_push : (b : ℕ) (slots : List Slot) (new : Slot) → owns b new ≡ false → is_with_call (slots ++ new ∷ []) b ≡ is_with_call slots b
owned_push b [] new e = ap (λ (t : Bool). t || false) e
owned_push b (slot ∷ slots) new e = ap (λ (t : Bool). owns b slot || t) (owned_push b slots new e)

owned_none : (b : ℕ) (slots : List Slot) → ((i : ℕ) → owns b (get_or slots i no_slot) ≡ false) → is_with_call slots b ≡ false
owned_none b [] none = refl
owned_none b (slot ∷ slots) none = ap (λ (t : Bool). t || is_with_call slots b) (none zero) ∙ owned_none b slots (λ i. none (suc i))

is_this : (b : ℕ) (o : Option ℕ) → o ≡ Some b → is_number b o ≡ true
is_this b o e = ap (is_number b) e ∙ equal b b refl

is_other : (b : ℕ) (o : Option ℕ) → o ≢ Some b → is_number b o ≡ false
is_other b None other = refl
is_other b (Some c) other = unequal c b (λ e. other (ap (λ (n : ℕ). Option.Some n) e))

-- a slot with a call is one of those made
called_range : (st : State) (s : ℕ) (place : Place) (queue : List ℕ) → Stands st s place queue → s < length st.slots
called_range st s place queue e = go (cases_lt s (length st.slots))
  where
    go : (s < length st.slots) ⊎ (length st.slots ≤ s) → s < length st.slots
    go (inl within) = within
    go (inr past) = absurd (let none : Option.None ≡ Some (record { place = place; queue = queue }) = sym (ap (λ (slot : Slot). slot.call) (get_or_past st.slots s no_slot past)) ∙ e in cc)

owned_at : (st : State) (s b : ℕ) (place : Place) (queue : List ℕ) → Stands st s place queue → detached_by (slot_at st s).call ≡ Some b → is_with_call st.slots b ≡ true
owned_at st s b place queue e owner = list_any_at (owns b) st.slots s no_slot (called_range st s place queue e) (is_this b _ owner)

-- Where a call goes on, with the batch that it had detached.

abbrev owner : Place → List ℕ → Option ℕ
owner place queue = detached_by (Some (record { place = place; queue = queue }))

look_owner : (b won : ℕ) (marks queue : List ℕ) → owner (look b won marks) queue ≡ Some b
look_owner b won [] queue = refl
look_owner b won (m ∷ marks) queue = refl

looked_owner : (head : Head) (b won m : ℕ) (later queue : List ℕ) → owner (looked head b won m later) queue ≡ Some b
looked_owner Inactive b won m later queue = look_owner b won later queue
looked_owner (Active waiting) b won m later queue = refl

read_owner : (active : Bool) (n note : ℕ) (marks batch queue : List ℕ) → owner (marked_place active n note marks batch) queue ≡ None
read_owner false n note marks batch queue = refl
read_owner true n note marks batch queue = go (nat_lt (length marks) (length batch))
  where
    go : (few : Bool) → owner (if few then Mark (n + 1) note (marks ++ n ∷ []) else Rest [] []) queue ≡ None
    go true = refl
    go false = refl

begun_owner : (n : ℕ) (place : Place) (queue : List ℕ) → (place ≡ Rest [] []) ⊎ (place ≡ Mark 0 n []) ⊎ (place ≡ Out true) ⊎ (place ≡ Out false) → owner place queue ≡ None
begun_owner n place queue (inl e) = ap (λ (p : Place). owner p queue) e
begun_owner n place queue (inr (inl e)) = ap (λ (p : Place). owner p queue) e
begun_owner n place queue (inr (inr (inl e))) = ap (λ (p : Place). owner p queue) e
begun_owner n place queue (inr (inr (inr e))) = ap (λ (p : Place). owner p queue) e

-- a put leads from a place with no batch to another
put_owner : (from : Place) (before queue : List ℕ) (v : ℕ) (after : List ℕ) → ((from ≡ Append v) × (before ≡ after)) ⊎ ((from ≡ Rest [] []) × (before ≡ v ∷ after)) → owner from queue ≡ None
put_owner from before queue v after (inl e) = ap (λ (p : Place). owner p queue) e.0
put_owner from before queue v after (inr e) = ap (λ (p : Place). owner p queue) e.0

filled_owner : (n : ℕ) (place : Place) (queue : List ℕ) (P : Type 0) → ((place ≡ Rest [] []) × P) ⊎ (place ≡ Mark 0 n []) → owner place queue ≡ None
filled_owner n place queue P (inl e) = ap (λ (p : Place). owner p queue) e.0
filled_owner n place queue P (inr e) = ap (λ (p : Place). owner p queue) e

taken_owner : (size slots : ℕ) (batch : List ℕ) → detached_by (taken_call size slots batch) ≡ None
taken_owner size slots batch = taken_either (λ (o : Option Progress). detached_by o ≡ None) size slots batch refl refl

idle_owner : (slot : Slot) → is_idle slot ≡ true → detached_by slot.call ≡ None
idle_owner slot idle = go slot.call refl
  where
    go : (o : Option Progress) → slot.call ≡ o → detached_by o ≡ None
    go None e = refl
    go (Some call) e = absurd (grind arith)

-- What a batch adds to the deposit.

abbrev share : List Slot → ℕ → ℕ → Batch → List ℕ
share slots k b batch = if is_in k batch && not (is_with_call slots b) then batch.values else []

share_out : (slots : List Slot) (k b : ℕ) (batch : Batch) → is_in k batch ≡ false → share slots k b batch ≡ []
share_out slots k b batch out = ap (λ (t : Bool). if t && not (is_with_call slots b) then batch.values else []) out

share_in : (slots : List Slot) (k b : ℕ) (batch : Batch) → is_in k batch ≡ true → share slots k b batch ≡ (if is_with_call slots b then [] else batch.values)
share_in slots k b batch h = ap (λ (t : Bool). if t && not (is_with_call slots b) then batch.values else []) h ∙ go (is_with_call slots b)
  where
    go : (owned : Bool) → (if not owned then batch.values else []) ≡ (if owned then [] else batch.values)
    go true = refl
    go false = refl

share_owned : (slots : List Slot) (k b : ℕ) (batch : Batch) → is_with_call slots b ≡ true → share slots k b batch ≡ []
share_owned slots k b batch owned = ap (λ (t : Bool). if is_in k batch && not t then batch.values else []) owned ∙ go (is_in k batch)
  where
    go : (there : Bool) → (if there && false then batch.values else []) ≡ []
    go true = refl
    go false = refl

share_same : (slots later : List Slot) (k b : ℕ) (batch : Batch) → is_with_call later b ≡ is_with_call slots b → share later k b batch ≡ share slots k b batch
share_same slots later k b batch e = ap (λ (t : Bool). if is_in k batch && not t then batch.values else []) e

from_none : (slots : List Slot) (k n : ℕ) (xs : List Batch) → ((i c : ℕ) → c ≡ n + i → share slots k c (get_or xs i no_batch) ≡ []) → deposit_from slots k n xs ≡ []
from_none slots k n [] none = refl
from_none slots k n (x ∷ xs) none =
    ap (λ (values : List ℕ). values ++ deposit_from slots k (suc n) xs) (none zero n (omega arith)) ∙ from_none slots k (suc n) xs (λ i c e. none (suc i) c (omega (arith, e)))

-- where each batch adds the same, all add the same, whether there are as many or not
from_same : (slots later : List Slot) (k n : ℕ) (xs ys : List Batch) → ((i c : ℕ) → c ≡ n + i → share later k c (get_or ys i no_batch) ≡ share slots k c (get_or xs i no_batch))
    → deposit_from later k n ys ≡ deposit_from slots k n xs
from_same slots later k n [] ys same = from_none later k n ys same
from_same slots later k n (x ∷ xs) [] same = sym (from_none slots k n (x ∷ xs) (λ i c e. sym (same i c e)))
from_same slots later k n (x ∷ xs) (y ∷ ys) same =
    ap (λ (values : List ℕ). values ++ deposit_from later k (suc n) ys) (same zero n (omega arith))
    ∙ ap (λ (values : List ℕ). share slots k n x ++ values) (from_same slots later k (suc n) xs ys (λ i c e. same (suc i) c (omega (arith, e))))

all_same : (st later : State) (k : ℕ) → ((b : ℕ) → share later.slots k b (batch_at later b) ≡ share st.slots k b (batch_at st b)) → deposit later k ≡ deposit st k
all_same st later k same = from_same st.slots later.slots k 0 st.batches later.batches (λ i b e. let is : b ≡ i = omega (arith, e) in subst (λ (j : ℕ). share later.slots k b (batch_at later j) ≡ share st.slots k b (batch_at st j)) is (same b))

-- An event that does not count a batch in the block leaves what stands there.

-- it leads a call on, which owns what it owned
led_on : (k : ℕ) (st : State) (s : ℕ) (new : Slot) → detached_by new.call ≡ detached_by (slot_at st s).call → deposit_from (set st.slots s new) k 0 st.batches ≡ deposit st k
led_on k st s new e =
    all_same st (record st { slots = set st.slots s new }) k (λ b. share_same st.slots (set st.slots s new) k b (batch_at st b) (owned_set b s st.slots new (ap (is_number b) e)))

-- it counts a batch of another block, which adds nothing, and changes at most who owns that batch
counted_out : (k : ℕ) (st : State) (s b : ℕ) (new : Slot) (batch : Batch) → is_in k (batch_at st b) ≡ false → is_in k batch ≡ false → ((c : ℕ) → c ≢ b → owns c new ≡ owns c (slot_at st s))
    → deposit_from (set st.slots s new) k 0 (set st.batches b batch) ≡ deposit st k
counted_out k st s b new batch out still same = all_same st (record st { slots = set st.slots s new; batches = set st.batches b batch }) k (at_set Same st.batches b batch no_batch (none batch still) old)
  where
    Same : ℕ → Batch → Type 0
    Same c x = share (set st.slots s new) k c x ≡ share st.slots k c (batch_at st c)

    none : (x : Batch) → is_in k x ≡ false → Same b x
    none x h = share_out (set st.slots s new) k b x h ∙ sym (share_out st.slots k b (batch_at st b) out)

    old : (c : ℕ) → Same c (batch_at st c)
    old c = go (ℕ_discrete c b)
      where
        go : Dec (c ≡ b) → Same c (batch_at st c)
        go (yes is) = subst (λ (n : ℕ). Same n (batch_at st n)) (sym is) (none (batch_at st b) out)
        go (no other) = share_same st.slots (set st.slots s new) k c (batch_at st c) (owned_set c s st.slots new (same c other))

-- a call detaches its batch, and owns it: so that batch adds nothing
detached_on : (k : ℕ) (st : State) (s : ℕ) (new : Slot) (batch : Batch) → s < length st.slots → detached_by (slot_at st s).call ≡ None → detached_by new.call ≡ Some (length st.batches)
    → deposit_from (set st.slots s new) k 0 (st.batches ++ batch ∷ []) ≡ deposit st k
detached_on k st s new batch within free owner = all_same st (record st { slots = set st.slots s new; batches = st.batches ++ batch ∷ [] }) k (at_push Same st.batches batch no_batch added old)
  where
    Same : ℕ → Batch → Type 0
    Same b x = share (set st.slots s new) k b x ≡ share st.slots k b (batch_at st b)

    owned : is_with_call (set st.slots s new) (length st.batches) ≡ true
    owned = list_any_at (owns (length st.batches)) (set st.slots s new) s no_slot (omega (arith, within, length-set st.slots s new)) (ap (owns (length st.batches)) (get_or-set_same st.slots s new no_slot within) ∙ is_this (length st.batches) (detached_by new.call) owner)

    added : Same (length st.batches) batch
    added = share_owned (set st.slots s new) k (length st.batches) batch owned ∙ sym (ap (share st.slots k (length st.batches)) (get_or_past st.batches (length st.batches) no_batch (omega arith)))

    old : (b : ℕ) → Same b (batch_at st b)
    old b = go (cases_lt b (length st.batches))
      where
        another : b < length st.batches → detached_by new.call ≢ Some b
        another there e = let is : length st.batches ≡ b = some_is _ _ (sym owner ∙ e) in omega (arith, there, is)

        go : (b < length st.batches) ⊎ (length st.batches ≤ b) → Same b (batch_at st b)
        go (inl there) = share_same st.slots (set st.slots s new) k b (batch_at st b) (owned_set b s st.slots new (is_other b (detached_by new.call) (another there) ∙ sym (ap (is_number b) free)))
        go (inr past) = subst (λ (x : Batch). share (set st.slots s new) k b x ≡ share st.slots k b x) (sym (get_or_past st.batches b no_batch past)) refl

pub deposit_frame : (k size : ℕ) (st : State) (event : Event) (d : State × Answer) → IsReached st → Step size st event d → changes_count st k event ≡ false → deposit d.0 k ≡ deposit st k
deposit_frame k size st event _ r (Step.took_new s e least) h =
    let new : Slot = taken_slot size (length st.slots + 1) st.rest in
    all_same st (record st { slots = st.slots ++ new ∷ [] }) k
    (λ b. share_same st.slots (st.slots ++ new ∷ []) k b (batch_at st b) (owned_push b st.slots new (ap (is_number b) (taken_owner size (length st.slots + 1) st.rest))))
deposit_frame k size st event _ r (Step.took_old s within e least) h =
    led_on k st s (taken_slot size (length st.slots) st.rest) (taken_owner size (length st.slots) st.rest ∙ sym (ap (λ (slot : Slot). detached_by slot.call) (free_empty st r s e).0))
deposit_frame k size st event _ r (Step.gave s e off ends) h = led_on k st s no_slot (sym (idle_owner (slot_at st s) e))
deposit_frame k size st event _ r (Step.gathered s e off alone some) h = led_on k st s _ (sym (idle_owner (slot_at st s) e))
deposit_frame k size st event _ r (Step.begun_retire s v e new) h = led_on k st s _ (sym (idle_owner (slot_at st s) e))
deposit_frame k size st event _ r (Step.begun_other s job place e which exact) h = led_on k st s _ (begun_owner (length st.slots) place [] which ∙ sym (idle_owner (slot_at st s) e))
deposit_frame k size st event _ r (Step.put s v from before after place e which to after_is) h =
    led_on k st s _ (filled_owner (length st.slots) place after _ to ∙ sym (ap detached_by e ∙ put_owner from before before v after which))
deposit_frame k size st event _ r (Step.marked s n following note marks queue e within turn) h = led_on k st s _ (read_owner (is_active (head_at st n)) n note marks (slot_at st s).batch queue ∙ sym (ap detached_by e))
deposit_frame k size st event _ r (Step.looked_at s b won m later queue e) h = led_on k st s _ (looked_owner (head_at st m) b won m later queue ∙ sym (ap detached_by e))
deposit_frame k size st event _ r (Step.detached s following note marks queue e le) h =
    detached_on k st s _ _ (called_range st s (Mark following note marks) queue e) (ap detached_by e) (look_owner (length st.batches) 0 marks queue)
deposit_frame k size st event _ r (Step.inserted s m b won later saw queue waiting e head_is) h = led_on k st s _ (look_owner b (won + 1) later queue ∙ sym (ap detached_by e))
deposit_frame k size st event _ r (Step.lost s m b won later saw queue e differs) h = led_on k st s _ (sym (ap detached_by e))
deposit_frame k size st event _ r (Step.added s b won queue d e is) h =
    let out : is_in k (batch_at st b) ≡ false = ap (λ o. is_batch_in st k (added_batch o)) (sym e) ∙ h in
    let count : ℤ = (batch_at st b).count +ℤ pos won in
    let ends : (c : ℕ) → c ≢ b → false ≡ owns c (slot_at st s) = λ c other. sym (ap (λ o. is_number c (detached_by o)) e ∙ unequal b c (λ same. other (sym same))) in
    subst (λ (x : State × Answer). deposit x.0 k ≡ deposit st k) (some_is _ _ is) (counted_out k st s b _ (come (batch_at st b) (is_zero count) count) out (still_out k (batch_at st b) (is_zero count) count out) ends)
deposit_frame k size st event _ r (Step.subtracted s b walk queue d e is) h =
    let out : is_in k (batch_at st b) ≡ false = ap (λ o. is_batch_in st k (of_call walking_at o)) (sym e) ∙ h in
    let count : ℤ = (batch_at st b).count -ℤ pos 1 in
    let walks : (c : ℕ) → c ≢ b → false ≡ owns c (slot_at st s) = λ c other. sym (ap (λ o. is_number c (detached_by o)) e) in
    subst (λ (x : State × Answer). deposit x.0 k ≡ deposit st k) (some_is _ _ is) (counted_out k st s b _ (come (batch_at st b) (is_zero count) count) out (still_out k (batch_at st b) (is_zero count) count out) walks)
deposit_frame k size st event _ r (Step.swapped_out s stays queue e) h = led_on k st s _ (sym (ap detached_by e))
deposit_frame k size st event _ r (Step.handed s v puts given walk queue e new) h = led_on k st s _ (sym (ap detached_by e))
deposit_frame k size st event _ r (Step.returned s e) h = led_on k st s _ (sym (ap detached_by e))
deposit_frame k size st event _ r _ h = refl

-- Of the batches in a block at most one adds to the deposit, and only where nobody owns it.

from_one : (slots : List Slot) (k n : ℕ) (xs : List Batch) (i b : ℕ) → n + i ≡ b → ((j : ℕ) → j ≢ i → is_in k (get_or xs j no_batch) ≡ false) → deposit_from slots k n xs ≡ share slots k b (get_or xs i no_batch)
from_one slots k n [] i b e out = refl
from_one slots k n (x ∷ xs) zero b e out =
    let is : n ≡ b = omega (arith, e) in
    ap (λ (values : List ℕ). share slots k n x ++ values) (from_none slots k (suc n) xs (λ j c f. share_out slots k c (get_or xs j no_batch) (out (suc j) (omega arith))))
    ∙ append-nil (share slots k n x) ∙ ap (λ (c : ℕ). share slots k c x) is
from_one slots k n (x ∷ xs) (suc i) b e out =
    ap (λ (values : List ℕ). values ++ deposit_from slots k (suc n) xs) (share_out slots k n x (out zero (omega arith)))
    ∙ from_one slots k (suc n) xs i b (omega (arith, e)) (λ j other. out (suc j) (omega (arith, other)))

share_alone : (st : State) → IsReached st → HasOne st → (k b : ℕ) → is_in k (batch_at st b) ≡ true → deposit st k ≡ share st.slots k b (batch_at st b)
share_alone st r one k b h = from_one st.slots k 0 st.batches b b (omega arith) (others_out st r one k b h)

pub deposit_alone : (st : State) → IsReached st → HasOne st → (k b : ℕ) → is_in k (batch_at st b) ≡ true → deposit st k ≡ (if is_with_call st.slots b then [] else (batch_at st b).values)
deposit_alone st r one k b h = share_alone st r one k b h ∙ share_in st.slots k b (batch_at st b) h

-- An event that counts the batch in a block.

-- batch b comes to this count, and slot s goes on as the new one
abbrev counts_to : State → ℕ → ℕ → ℤ → Slot → State
counts_to st s b count new = record st { slots = set st.slots s new; batches = set st.batches b (come (batch_at st b) (is_zero count) count) }

come_share : (slots : List Slot) (k b : ℕ) (batch : Batch) (up : Bool) (count : ℤ) → share slots k b (come batch up count) ≡ (if up then [] else share slots k b batch)
come_share slots k b batch true count = refl
come_share slots k b batch false count = refl

counted_in : (st : State) (s b : ℕ) (count : ℤ) (new : Slot) (k : ℕ) → IsReached st → HasOne st → is_in k (batch_at st b) ≡ true
    → deposit (counts_to st s b count new) k ≡ (if is_zero count then [] else share (set st.slots s new) k b (batch_at st b))
counted_in st s b count new k r one h =
    let after : Batch = come (batch_at st b) (is_zero count) count in
    from_one (set st.slots s new) k 0 (set st.batches b after) b b (omega arith) (λ c other. ap (is_in k) (get_or-set_other st.batches b c after no_batch other) ∙ others_out st r one k b h c other)
    ∙ ap (share (set st.slots s new) k b) (get_or-set_same st.batches b after no_batch (in_range st k b h)) ∙ come_share (set st.slots s new) k b (batch_at st b) (is_zero count) count

-- nobody else owned it, and its owner goes on with none
owner_ends : (st : State) (s b : ℕ) (new : Slot) → IsReached st → s < length st.slots → detached_by (slot_at st s).call ≡ Some b → detached_by new.call ≡ None → is_with_call (set st.slots s new) b ≡ false
owner_ends st s b new r within owner free = owned_none b (set st.slots s new) (λ i. go i (ℕ_discrete i s))
  where
    go : (i : ℕ) → Dec (i ≡ s) → owns b (get_or (set st.slots s new) i no_slot) ≡ false
    go i (yes is) = ap (λ (j : ℕ). owns b (get_or (set st.slots s new) j no_slot)) is ∙ ap (owns b) (get_or-set_same st.slots s new no_slot within) ∙ ap (is_number b) free
    go i (no other) = ap (owns b) (get_or-set_other st.slots s i new no_slot other) ∙ is_other b (detached_by (slot_at st i).call) (λ e. other (one_owner b i s st r e owner))

pub deposit_added : (size : ℕ) (st : State) (s b won : ℕ) (queue : List ℕ) (d : State × Answer) (k : ℕ) → IsReached st → HasOne st → Stands st s (Add b won) queue → next size st (AddCount s) ≡ Some d → is_in k (batch_at st b) ≡ true
    → (deposit st k ≡ []) × (deposit d.0 k ≡ (if is_zero ((batch_at st b).count +ℤ pos won) then [] else (batch_at st b).values))
deposit_added size st s b won queue d k r one stands does h =
    let values : List ℕ = (batch_at st b).values in
    let count : ℤ = (batch_at st b).count +ℤ pos won in
    let ends : Place → Place = λ place. Rest (if is_zero count then values else []) [] in
    let new : Slot = moved ends (slot_at st s) in
    let is : (counts_to st s b count new, Count count) ≡ d = some_is _ _ (ap (λ o. add_count scheme st s (of_call adding_at o)) (sym stands) ∙ does) in
    let free : detached_by new.call ≡ None = ap (λ (o : Option Progress). detached_by (moved_call ends o)) stands in
    let ended = owner_ends st s b new r (called_range st s (Add b won) queue stands) (ap detached_by stands) free in (
      share_alone st r one k b h ∙ share_owned st.slots k b (batch_at st b) (owned_at st s b (Add b won) queue stands (ap detached_by stands)),
      ap (λ (x : State × Answer). deposit x.0 k) (sym is) ∙ counted_in st s b count new k r one h
          ∙ ap (λ (left : List ℕ). if is_zero count then [] else left) (share_in (set st.slots s new) k b (batch_at st b) h ∙ ap (λ (owned : Bool). if owned then [] else values) ended),
    )

pub deposit_subtracted : (size : ℕ) (st : State) (s b : ℕ) (walk queue : List ℕ) (d : State × Answer) (k : ℕ) → IsReached st → HasOne st → Stands st s (Rest [] (b ∷ walk)) queue → next size st (SubCount s) ≡ Some d → is_in k (batch_at st b) ≡ true
    → (deposit d.0 k ≡ (if is_zero ((batch_at st b).count -ℤ pos 1) then [] else deposit st k)) × (is_zero ((batch_at st b).count -ℤ pos 1) ≡ true → deposit st k ≡ (batch_at st b).values)
deposit_subtracted size st s b walk queue d k r one stands does h = (
  ap (λ (x : State × Answer). deposit x.0 k) (sym is) ∙ counted_in st s b count new k r one h
      ∙ ap (λ (left : List ℕ). if is_zero count then [] else left) (share_same st.slots (set st.slots s new) k b (batch_at st b) same ∙ sym (share_alone st r one k b h)),
  λ z. deposit_alone st r one k b h ∙ ap (λ (owned : Bool). if owned then [] else (batch_at st b).values) (sym same ∙ owned_none b (set st.slots s new) (none z)),
)
  where
    count : ℤ
    count = (batch_at st b).count -ℤ pos 1

    given_up : List ℕ
    given_up = if is_zero count then (batch_at st b).values else []

    new : Slot
    new = moved (walked_on given_up) (slot_at st s)

    is : (counts_to st s b count new, Count count) ≡ d
    is = some_is _ _ (ap (λ o. sub_count scheme st s (of_call walking_at o)) (sym stands) ∙ does)

    -- slot s walks before and after
    same : is_with_call (set st.slots s new) b ≡ is_with_call st.slots b
    same = owned_set b s st.slots new (ap (is_number b) (ap (λ (o : Option Progress). detached_by (moved_call (walked_on given_up) o)) stands ∙ sym (ap detached_by stands)))

    counts : changes_batch st b (SubCount s) ≡ true
    counts = ap (λ (o : Option Progress). is_that b (of_call walking_at o)) stands ∙ equal b b refl

    -- where the count comes to 0, nobody has still to add
    none : is_zero count ≡ true → (i : ℕ) → owns b (get_or (set st.slots s new) i no_slot) ≡ false
    none z i =
        let answer : d.1 ≡ Count (pos 0) = ap (λ (x : State × Answer). x.1) (sym is) ∙ ap (λ (c : ℤ). Count c) (sym (zero_is count z)) in
        let free : detached_by (slot_at d.0 i).call ≢ Some b = (arrives_unheld size st (SubCount s) d b r (step_of size st (SubCount s) d does) answer counts i).2 in
        is_other b _ (subst (λ (x : State × Answer). detached_by (slot_at x.0 i).call ≢ Some b) (sym is) free)
