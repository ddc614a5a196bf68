-- What the code of the machine needs of std's words.
use Rattle.seize_machine.proofs.Steps.Relation.{is_true, eq_true}
use Rattle.seize_machine.specs.declared.machine.event.Answer.TheVariants.{Illegal, Done}
use Rattle.seize_machine.specs.declared.machine.event.Job.TheVariants.{Retire, Flush, Leave, Refresh, Gather}
use Rattle.seize_machine.specs.declared.machine.event.Job.{Job}
use Rattle.std.proofs.lemmas.List.Folds.{list_any_at}
use Rattle.std.proofs.Common.{◌≡◌, ℕ, ◌+◌, zero, suc, ◌<◌, ◌≤◌, true, false, not, ◌&&◌, nat_eq, List, [], ◌∷◌, ◌++◌, length, map, take, get_or, append_assoc, Option, Some, None, refl, sym, ◌∙◌, ap, subst, arith, ◌≢◌, ◌==◌, ◌||◌, Bool, set, if◌then◌else◌, ◌⊎◌, inl, inr}
use Rattle.std.specs.List.{list_all, list_any}
use Rattle.std.proofs.lemmas.List.{get_or_default, take_more, map_push, map-append, append_cancel_left, get_or_past, get_or-set_same, get_or-set_other, length-set}
use Rattle.std.proofs.lemmas.List.Sums.{position_or_len_is}
use lib.Pointwise.{pointwise}
use Rattle.seize_machine.specs.Machine.State.{State, Slot, Progress, Place, Append, Mark, Look, Try, Add, Out, Rest, no_slot, slot_at, Inactive, head_at, is_idle, is_active}
use Rattle.seize_machine.specs.Machine.Event.{Event}
use Rattle.seize_machine.specs.Machine.Next.{same_list, first_free, next, of_call, walking_at, Outcome, scheme, insert, insert_into, begin, is_outside, has_others, ends_now, after_gather}
use Rattle.seize_machine.specs.Machine.History.{Timed, at_size, Moment, done_by, history, answers_of, end_of, is_legal}
use Rattle.seize_machine.specs.Machine.Code.{event_of, SubFits, CountFits, CallCountsFit, CountsFit, Sized, HasDone, HasRun, HasRunLegally, HasOutcome}
use Rattle.seize_machine.specs.declared.machine.event.Answer.{Answer}
use Rattle.seize_machine.specs.declared.machine.event.Event.{Event as Written}
use Rattle.seize_machine.proofs.Lists.LegalLists.{end_of-append, history-append, are_legal-answers}

-- what `==` answers of two lists of numbers
pub same_list-is : (xs ys : List ℕ) → pointwise nat_eq xs ys ≡ same_list xs ys
same_list-is [] [] = refl
same_list-is [] (y ∷ ys) = refl
same_list-is (x ∷ xs) [] = refl
same_list-is (x ∷ xs) (y ∷ ys) = ap (λ b. nat_eq x y && b) (same_list-is xs ys)

-- the first slot that is not in use, where all below it are
pub free_is : (slots : List Slot) (n : ℕ) (slot : Slot) → n < length slots → ((k : ℕ) → k < n → (get_or slots k no_slot).used ≡ true) → slot ≡ get_or slots n slot → slot.used ≡ false → n ≡ first_free slots
free_is slots n slot within before e free =
    sym (position_or_len_is (λ slot. not slot.used) slots n no_slot (omega arith) (λ k h. ap not (before k h)) (λ _. ap (λ slot. not slot.used) (get_or_default slots n no_slot slot within ∙ sym e) ∙ ap not free))

pub none_is : (slots : List Slot) (n : ℕ) → n ≡ length slots → ((k : ℕ) → k < n → (get_or slots k no_slot).used ≡ true) → length slots ≡ first_free slots
none_is slots n e before =
    sym e ∙ sym (position_or_len_is (λ slot. not slot.used) slots n no_slot (omega arith) (λ k h. ap not (before k h)) (λ h. absurd (omega arith)))

-- the batch that a walk counts down next
pub sub_fits : (st : State) (s b : ℕ) (slot : Slot) → CountsFit st → slot ≡ slot_at st s → of_call walking_at slot.call ≡ Some b → SubFits st b
sub_fits st s b slot fits slot_is e = go (slot_at st s).call (fits.fit s) (ap (λ slot. of_call walking_at slot.call) (sym slot_is) ∙ e)
  where
    at : (place : Place) (queue : List ℕ) → CountFits st place → walking_at place queue ≡ Some b → SubFits st b
    at (Rest [] (a ∷ walk)) queue f e = subst (SubFits st) (let same : a ≡ b = cc in same) f
    at (Rest [] []) queue f e = absurd (cc)
    at (Rest (v ∷ given) walk) queue f e = absurd (cc)
    at (Append v) queue f e = absurd (cc)
    at (Mark n note marks) queue f e = absurd (cc)
    at (Look a won m later) queue f e = absurd (cc)
    at (Try a won m later saw) queue f e = absurd (cc)
    at (Add a won) queue f e = absurd (cc)
    at (Out stays) queue f e = absurd (cc)

    go : (o : Option Progress) → CallCountsFit st o → of_call walking_at o ≡ Some b → SubFits st b
    go None f e = absurd (cc)
    go (Some call) f e = at call.place call.queue f.1 e

-- a run of one event more
pub runs_on : (events : List Written) (i : ℕ) (e : Written) (old now new : Sized) (a b c : List Answer) (answer : Answer)
    → HasRun (map event_of (take i events)) old now a b → i < length events → e ≡ get_or events i e
    → HasDone e now new answer → c ≡ b ++ answer ∷ []
    → HasRun (map event_of (take (i + 1) events)) old new a c
runs_on events i e old now new a b c answer run within e_is one answers_is =
    rw list_is (record {
      size = one.size ∙ run.size;
      state = ap (λ (x : State × Answer). x.0) done ∙ sym (ap (end_of old.state) all ∙ end_of-append ms last old.state);
      answers = answers_is ∙ ap (λ b. b ++ answer ∷ []) run.answers ∙ append_assoc a (answers_of ms) (answer ∷ [])
          ∙ ap (λ (l : List Answer). a ++ l) (ap (λ (x : State × Answer). answers_of ms ++ x.1 ∷ []) done ∙ sym (ap answers_of all ∙ map-append _ ms last));
    })
  where
    before : List Event
    before = map event_of (take i events)

    list_is : map event_of (take (i + 1) events) ≡ before ++ event_of e ∷ []
    list_is = ap (map event_of) (take_more events i e within ∙ ap (λ x. take i events ++ x ∷ []) (sym e_is)) ∙ map_push event_of (take i events) e

    ms : List Moment
    ms = history next old.state (at_size old.size before)

    end : State
    end = end_of old.state ms

    t : Timed
    t = record { size = old.size; event = event_of e }

    last : List Moment
    last = history next end (t ∷ [])

    all : history next old.state (at_size old.size (before ++ event_of e ∷ [])) ≡ ms ++ last
    all = ap (history next old.state) (map-append _ before (event_of e ∷ [])) ∙ history-append next (at_size old.size before) (t ∷ []) old.state

    done : (new.state, answer) ≡ done_by next end t
    done = one.done ∙ ap (λ (n : ℕ). done_by next now.state (record { size = n; event = event_of e })) run.size ∙ ap (λ (st : State). done_by next st t) run.state

-- a run with no illegal answer is a legal list
pub run_legally : (events : List Event) (old new : Sized) (a b : List Answer) → HasRun events old new a b → HasRunLegally events old new a b
run_legally events old new a b run answers e legal =
    let ms : List Moment = history next old.state (at_size old.size events) in
    let same : answers_of ms ≡ answers = append_cancel_left a _ _ (sym run.answers ∙ e) in
    record { legal = are_legal-answers ms ∙ ap (list_all is_legal) same ∙ legal; answers_are = same; end_is = sym run.state }

-- at the end of the events
pub run_ends : (events : List Written) (i : ℕ) (old new : Sized) (a b : List Answer) → HasRun (map event_of (take i events)) old new a b → length events ≤ i
    → HasRunLegally (map event_of events) old new a b
run_ends events i old new a b run past =
    run_legally (map event_of events) old new a b (subst (λ (l : List Written). HasRun (map event_of l) old new a b) (take_all events i past) run)
  where
    take_all : (xs : List Written) (n : ℕ) → length xs ≤ n → take n xs ≡ xs
    take_all [] zero h = refl
    take_all [] (suc n) h = refl
    take_all (x ∷ xs) zero h = absurd (omega arith)
    take_all (x ∷ xs) (suc n) h = ap (λ (l : List Written). x ∷ l) (take_all xs n (omega arith))

-- what is illegal changes nothing
pub illegal : (o : Outcome) (st : State) → o ≡ None → HasOutcome o st st Illegal
illegal None st e = (refl, refl)
illegal (Some d) st e = absurd (cc)

-- an insertion at a head past the last
pub past_insert : (st : State) (s m : ℕ) (o : Option (ℕ × ℕ)) → length st.heads ≤ m → insert st s m o ≡ None
past_insert st s m None h = refl
past_insert st s m (Some at) h = go (m == at.1)
  where
    off : insert_into st s m at.0 (head_at st m) ≡ None
    off = ap (insert_into st s m at.0) (get_or_past st.heads m Inactive h)

    go : (b : Bool) → (if b then insert_into st s m at.0 (head_at st m) else None) ≡ None
    go true = off
    go false = refl

-- a call of a slot past the last
pub past_begin : (st : State) (s : ℕ) (job : Job) → length st.slots ≤ s → begin scheme st s job ≡ None
past_begin st s job h = go job
  where
    not_idle : is_idle (slot_at st s) ≡ false
    not_idle = ap is_idle (get_or_past st.slots s no_slot h)

    no : (b c : Bool) (d : State × Answer) → b ≡ false → (if b && c then Some d else None) ≡ None
    no false c d e = refl
    no true c d e = absurd (cc)

    go : (job : Job) → begin scheme st s job ≡ None
    go (Retire v) = no _ _ _ not_idle
    go Flush = no _ _ _ not_idle
    go Leave = no _ _ _ not_idle
    go Refresh = no _ _ _ not_idle
    go Gather = last (ap (λ (b : Bool). b && not (is_active (head_at st s))) not_idle)
      where
        last : is_outside st s ≡ false → begin scheme st s Gather ≡ None
        last e = ap (λ (b : Bool). if b && not (ends_now (has_others st s) (slot_at st s).batch st.rest) then Some (after_gather st s, Done) else None) e

-- whether another slot is in use
pub other_used : (slots : List Slot) (s n : ℕ) → n < length slots → n ≢ s → (get_or slots n no_slot).used ≡ true → list_any (λ slot. slot.used) (set slots s no_slot) ≡ true
other_used slots s n within other e =
    list_any_at (λ slot. slot.used) (set slots s no_slot) n no_slot (omega (arith, length-set slots s no_slot)) (ap (λ (slot : Slot). slot.used) (get_or-set_other slots s n no_slot no_slot other) ∙ e)

none_any : (slots : List Slot) → ((k : ℕ) → k < length slots → (get_or slots k no_slot).used ≡ false) → list_any (λ slot. slot.used) slots ≡ false
none_any [] h = refl
none_any (slot ∷ slots) h = ap (λ (b : Bool). b || list_any (λ slot. slot.used) slots) (h zero (omega arith)) ∙ none_any slots (λ k r. h (suc k) (omega arith))

pub no_other_used : (slots : List Slot) (s : ℕ) → ((k : ℕ) → k < length slots → k ≢ s → (get_or slots k no_slot).used ≡ false) → list_any (λ slot. slot.used) (set slots s no_slot) ≡ false
no_other_used slots s h = none_any (set slots s no_slot) (λ k r. at k r)
  where
    at : (k : ℕ) → k < length (set slots s no_slot) → (get_or (set slots s no_slot) k no_slot).used ≡ false
    at k r = go (is_true (k == s))
      where
        go : ((k == s) ≡ true) ⊎ ((k == s) ≡ false) → (get_or (set slots s no_slot) k no_slot).used ≡ false
        go (inl t) = let same : k ≡ s = eq_true k s t in subst (λ (i : ℕ). (get_or (set slots s no_slot) i no_slot).used ≡ false) (sym same) (ap (λ (slot : Slot). slot.used) (get_or-set_same slots s no_slot no_slot (omega (arith, length-set slots s no_slot, same, r))))
        go (inr n) = let other : k ≢ s = grind arith in ap (λ (slot : Slot). slot.used) (get_or-set_other slots s k no_slot no_slot other) ∙ h k (omega (arith, length-set slots s no_slot, r)) other
