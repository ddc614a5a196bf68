-- Each step is a legal event, so the steps are exactly the legal events.
use Rattle.std.proofs.Common.{◌≡◌, ◌≢◌, ℕ, ◌<◌, ◌≤◌, ℤ, pos, ◌+ℤ◌, ◌-ℤ◌, Bool, true, false, not, ◌&&◌, ◌||◌, ◌==◌, if◌then◌else◌, nat_lt, nat_le, List, [], ◌∷◌, ◌++◌, length, slice_set, unwrap_or, Option, Some, None, refl, sym, ◌∙◌, ap, subst, ◌⊎◌, inl, inr, arith}
use Rattle.std.proofs.lemmas.Bool.{or_from}
use Rattle.seize_machine.specs.Machine.State.{State, Slot, Progress, Head, Inactive, Active, Place, Append, Look, Try, Out, Rest, slot_at, head_at, batch_at, link_at, is_active, waiting_at, has, is_idle}
use Rattle.seize_machine.specs.Machine.Event.{Event, Begin}
use Rattle.seize_machine.specs.Machine.Next.{Outcome, scheme, next, of_call, moved_call, own, is_outside, slot_set, set_head, begun, put_at, put_into, mark_at, looking_at, looked_on, slot_read, can_detach_at, detached_on, trying_at, won_on, insert_into, insert, is_changed, can_lose_at, lost_on, same_list, is_zero, adding_at, add_count, walking_at, walked_on, sub_count, leaving_at, swap_out, handing_at, handed_on, hand, return_at, is_none_or_fresh}
use Rattle.seize_machine.specs.declared.machine.event.Job.{Job}
use Rattle.seize_machine.specs.declared.machine.event.Job.TheVariants.{Retire, Flush, Leave, Refresh, Gather}
use Rattle.seize_machine.specs.declared.machine.event.Answer.{Answer}
use Rattle.seize_machine.specs.declared.machine.event.Answer.TheVariants.{Done, Head as HeadRead, Handed, Link}
use Rattle.seize_machine.proofs.Steps.Relation.{Step, swapped, beginning, put_is, moved_to, counted_call, is_true, eq_true}

yes : {A : Type 0} (b : Bool) (x y : A) → b ≡ true → (if b then x else y) ≡ x
yes true x y e = refl
yes false x y e = absurd (cc)

no : {A : Type 0} (b : Bool) (x y : A) → b ≡ false → (if b then x else y) ≡ y
no false x y e = refl
no true x y e = absurd (cc)

both : (a b : Bool) → a ≡ true → b ≡ true → (a && b) ≡ true
both a b h k = rw h k

same : (n : ℕ) → (n == n) ≡ true
same n = grind arith

equal : (a b : ℕ) → a ≡ b → (a == b) ≡ true
equal a b e = grind arith

below : (a b : ℕ) → a < b → nat_lt a b ≡ true
below a b h = grind arith

at_most : (a b : ℕ) → a ≤ b → nat_le a b ≡ true
at_most a b h = grind arith

same_list-is : (xs ys : List ℕ) → same_list xs ys ≡ true → xs ≡ ys
same_list-is [] [] h = refl
same_list-is [] (y ∷ ys) h = absurd (cc)
same_list-is (x ∷ xs) [] h = absurd (cc)
same_list-is (x ∷ xs) (y ∷ ys) h = go (is_true (x == y)) h (same_list-is xs ys)
  where
    go : ((x == y) ≡ true) ⊎ ((x == y) ≡ false) → ((x == y) && same_list xs ys) ≡ true → (same_list xs ys ≡ true → xs ≡ ys) → x ∷ xs ≡ y ∷ ys
    go (inl t) h ih = let x_is : x ≡ y = eq_true x y t in let rest : same_list xs ys ≡ true = sym (ap (λ (b : Bool). b && same_list xs ys) t) ∙ h in
        ap (λ (x : ℕ). x ∷ xs) x_is ∙ ap (λ (l : List ℕ). y ∷ l) (ih rest)
    go (inr t) h ih = absurd (let n : false ≡ true = sym (ap (λ (b : Bool). b && same_list xs ys) t) ∙ h in cc)

changed : (head : Head) (saw : List ℕ) → head ≢ Active saw → is_changed head saw ≡ true
changed Inactive saw differs = refl
changed (Active waiting) saw differs = go (same_list waiting saw) refl
  where
    go : (b : Bool) → same_list waiting saw ≡ b → not b ≡ true
    go false e = refl
    go true e = absurd (differs (ap (λ (l : List ℕ). Active l) (same_list-is waiting saw e)))

outside : (st : State) (s : ℕ) → is_idle (slot_at st s) ≡ true → is_active (head_at st s) ≡ false → is_outside st s ≡ true
outside st s idle off = both _ _ idle (ap not off)

begins : (size : ℕ) (st : State) (s : ℕ) (job : Job) (place : Place) → is_idle (slot_at st s) ≡ true → is_active (head_at st s) ≡ true → beginning st s job ≡ Some place → next size st (Begin s job) ≡ Some (begun st s place, Done)
begins size st s (Retire v) place idle on from = absurd (cc)
begins size st s Flush place idle on from = yes _ _ _ (both _ _ idle on) ∙ ap (λ (o : Option Place). elim o [ None ↦ None | Some place ↦ Some (begun st s place, Done) ]) from
begins size st s Gather place idle on from = absurd (cc)
begins size st s Leave place idle on from = yes _ _ _ (both _ _ idle on) ∙ ap (λ (o : Option Place). elim o [ None ↦ None | Some place ↦ Some (begun st s place, Done) ]) from
begins size st s Refresh place idle on from = yes _ _ _ (both _ _ idle on) ∙ ap (λ (o : Option Place). elim o [ None ↦ None | Some place ↦ Some (begun st s place, Done) ]) from

may : (st : State) (v : ℕ) → (has v st.named ≡ false) ⊎ (has v st.loose ≡ true) → (not (has v st.named) || has v st.loose) ≡ true
may st v (inl new) = ap (λ (b : Bool). not b || has v st.loose) new
may st v (inr out) = ap (λ (b : Bool). not (has v st.named) || b) out ∙ last (not (has v st.named))
  where
    last : (b : Bool) → (b || true) ≡ true
    last true = refl
    last false = refl

turn : (n next note : ℕ) → (n ≡ next) ⊎ ((note ≤ next) × (next < n)) → ((n == next) || (nat_le note next && nat_lt next n)) ≡ true
turn n next note (inl e) = ap (λ (b : Bool). b || (nat_le note next && nat_lt next n)) (equal n next e)
turn n next note (inr h) = ap (λ (b : Bool). (n == next) || b) (both _ _ (at_most note next h.0) (below next n h.1)) ∙ last (n == next)
  where
    last : (b : Bool) → (b || true) ≡ true
    last true = refl
    last false = refl

put_from : (size n : ℕ) (slot : Slot) (v : ℕ) (from : Place) (before after : List ℕ) → ((from ≡ Append v) × (before ≡ after)) ⊎ ((from ≡ Rest [] []) × (before ≡ v ∷ after))
    → put_at scheme size n slot from before ≡ put_into scheme size n slot v after
put_from size n slot v from before after (inl w) = ap (λ (p : Place). put_at scheme size n slot p before) w.0 ∙ ap (λ (q : List ℕ). put_into scheme size n slot v q) w.1
put_from size n slot v from before after (inr w) = ap (λ (p : Place). put_at scheme size n slot p before) w.0 ∙ ap (λ (q : List ℕ). put_at scheme size n slot (Rest [] []) q) w.1

pub next_of : (size : ℕ) (st : State) (event : Event) (d : State × Answer) → Step size st event d → next size st event ≡ Some d
next_of size st event _ (Step.took_new s e least) =
    yes _ _ _ (both _ _ (equal _ _ least.0) (below _ _ least.1)) ∙ ap (λ (st : State). Some (st, Done)) (yes _ _ _ (equal _ _ e))
next_of size st event _ (Step.took_old s r e least) =
    yes _ _ _ (both _ _ (equal _ _ least.0) (below _ _ least.1)) ∙ ap (λ (st : State). Some (st, Done)) (no _ _ _ (other s (length st.slots) r))
  where
    other : (a b : ℕ) → a < b → (a == b) ≡ false
    other a b h = grind arith
next_of size st event _ (Step.gave s e off ends) = yes _ _ _ (both _ _ (outside st s e off) ends)
next_of size st event _ (Step.gathered s e off alone some) = yes _ _ _ (both _ _ (outside st s e off) (ap not (or_from _ _ alone some)))
next_of size st event _ (Step.entered s e off) = yes _ _ _ (outside st s e off)
next_of size st event _ (Step.begun_retire s v e new) = yes _ _ _ (both _ _ e (may st v new))
next_of size st event _ (Step.begun_other s job place e which exact) = begins size st s job place e exact.0 exact.1
next_of size st event _ (Step.put s v from before after place e which to after_is) =
    ap (λ (o : Option Progress). own st s Done (of_call (put_at scheme size (length st.slots) (slot_at st s)) o)) e
    ∙ ap (own st s Done) (put_from size (length st.slots) (slot_at st s) v from before after which ∙ put_is size (length st.slots) (slot_at st s) v after)
    ∙ ap (λ (place : Place). Some (slot_set st s (record { used = (slot_at st s).used; batch = (slot_at st s).batch ++ v ∷ []; call = Some (record { place = place; queue = after }) }), Done)) (sym after_is)
next_of size st event _ (Step.marked s n next note marks queue e r k) =
    let answer : Answer = HeadRead (is_active (head_at st n)) in
    let marking : Place → List ℕ → Option Slot = mark_at scheme (length st.slots) n (is_active (head_at st n)) (slot_at st s) in
    ap (λ (o : Option Progress). own st s answer (slot_read scheme st n (slot_at st s) (of_call looking_at o))) e
    ∙ ap (λ (o : Option Progress). own st s answer (of_call marking o)) e
    ∙ ap (own st s answer) (yes _ _ _ (both _ _ (below _ _ r) (turn n next note k)))
next_of size st event _ (Step.looked_at s b won m later queue e) =
    let answer : Answer = HeadRead (is_active (head_at st m)) in
    ap (λ (o : Option Progress). own st s answer (slot_read scheme st m (slot_at st s) (of_call looking_at o))) e
    ∙ ap (own st s answer) (yes _ _ _ (same m))
    ∙ ap (λ (slot : Slot). Some (slot_set st s slot, answer)) (moved_to st s (looked_on scheme (head_at st m)) (Look b won m later) queue e)
next_of size st event _ (Step.detached s next note marks queue e le) =
    yes _ _ _ (ap (λ (o : Option Progress). unwrap_or (of_call can_detach_at o) false) e ∙ at_most note next le)
    ∙ ap (λ (o : Option Progress). after o) e
  where
    after : Option Progress → Outcome
    after call =
        Some (
          record st {
            slots = slice_set st.slots s (record { used = (slot_at st s).used; batch = []; call = moved_call (detached_on (length st.batches)) call });
            batches = st.batches ++ record { values = (slot_at st s).batch; count = pos 0 } ∷ [];
          },
          Done,
        )
next_of size st event _ (Step.inserted s m b won later saw queue waiting e head_is) =
    ap (λ (o : Option Progress). insert st s m (of_call trying_at o)) e
    ∙ yes _ _ _ (same m)
    ∙ ap (λ (head : Head). insert_into st s m b head) head_is
    ∙ ap (λ (slot : Slot). Some (slot_set (set_head st m (Active (b ∷ waiting))) s slot, Done)) (moved_to st s won_on (Try b won m later saw) queue e)
next_of size st event _ (Step.lost s m b won later saw queue e differs) =
    ap (own st s Done) (yes _ _ _ (ap (λ (o : Option Progress). unwrap_or (of_call (can_lose_at scheme m (head_at st m)) o) false) e ∙ both _ _ (same m) (changed (head_at st m) saw differs)))
    ∙ ap (λ (slot : Slot). Some (slot_set st s slot, Done)) (moved_to st s lost_on (Try b won m later saw) queue e)
next_of size st event _ (Step.added s b won queue d e h) =
    let count : ℤ = (batch_at st b).count +ℤ pos won in
    let given : List ℕ = if is_zero count then (batch_at st b).values else [] in
    ap (λ (o : Option Progress). add_count scheme st s (of_call adding_at o)) e
    ∙ ap (λ (o : Option Progress). counted_call st s b count (moved_call (λ place. Rest given []) o)) e ∙ h
next_of size st event _ (Step.subtracted s b walk queue d e h) =
    let count : ℤ = (batch_at st b).count -ℤ pos 1 in
    let given : List ℕ = if is_zero count then (batch_at st b).values else [] in
    ap (λ (o : Option Progress). sub_count scheme st s (of_call walking_at o)) e
    ∙ ap (λ (o : Option Progress). counted_call st s b count (moved_call (walked_on given) o)) e ∙ h
next_of size st event _ (Step.swapped_out s stays queue e) =
    let walk : List ℕ = waiting_at (head_at st s) in
    ap (λ (o : Option Progress). swap_out scheme st s (of_call leaving_at o)) e
    ∙ ap (λ (slot : Slot). Some (slot_set (set_head st s (if stays then Active [] else Inactive)) s slot, Done)) (moved_to st s (λ place. Rest [] walk) (Out stays) queue e)
next_of size st event _ (Step.handed s v puts given walk queue e new) =
    ap (λ (o : Option Progress). hand scheme st s puts (of_call handing_at o)) e
    ∙ yes _ _ _ new
    ∙ ap (λ (o : Option Progress). after o) e
  where
    after : Option Progress → Outcome
    after call =
        Some (
          record st {
            slots = slice_set st.slots s (record (slot_at st s) { call = handed_to call });
            gone = st.gone ++ v ∷ [];
            named = st.named ++ puts;
          },
          Handed v,
        )
      where
        handed_to : Option Progress → Option Progress
        handed_to None = None
        handed_to (Some call) = Some (record { place = handed_on call.place; queue = call.queue ++ puts })
next_of size st event _ (Step.returned s e) = ap (λ (o : Option Progress). own st s Done (of_call (return_at (slot_at st s)) o)) e
next_of size st event _ (Step.read s l e) = yes _ _ _ e
next_of size st event _ (Step.exchanged s l exchange new e fresh exact) =
    yes _ _ _ (both _ _ e (subst (λ (new : Option ℕ). is_none_or_fresh st new ≡ true) exact.0 fresh))
    ∙ ap (λ (now : State). Some (now, Link (link_at st l))) (yes _ _ _ exact.1 ∙ ap (swapped st l) (sym exact.0))
next_of size st event _ (Step.compared s l exchange e exact) =
    yes _ _ _ (both _ _ e exact.0) ∙ ap (λ (now : State). Some (now, Link (link_at st l))) (no _ _ _ exact.1)
