-- In a legal list there is but one word that is kept of a value. An event that says one begins the value's retirement, or puts it: from
-- then on the value is named, not loose and in no link, and all events leave it so; and no event retires or puts such a value.
--     IsRetired v st      so it is with the value
use Rattle.std.proofs.Common.{◌≡◌, ◌≢◌, ℕ, ◌<◌, ◌≤◌, Bool, true, false, not, ◌||◌, ◌==◌, List, [], ◌∷◌, length, Option, Some, None, get_or, set, refl, sym, ◌∙◌, ap, subst, ◌⊎◌, inl, inr}
use Rattle.std.proofs.lemmas.Bool.{cases_lt, or_from}
use Rattle.std.proofs.lemmas.List.{get_or-set_other, get_or-set_same, get_or_past, length-set}
use native.Mathlib.Decide.{ℕ_discrete}
use Rattle.seize_machine.specs.Machine.State.{State, are_distinct, has, link_at, linked_values}
use Rattle.seize_machine.specs.Machine.Event.{Event, Begin, Hand}
use Rattle.seize_machine.specs.Machine.Frames.{changes_value, is_number}
use Rattle.seize_machine.specs.Machine.History.{IsReached}
use Rattle.seize_machine.specs.Machine.Next.{is_none_or_fresh, new_link}
use Rattle.seize_machine.specs.declared.machine.event.Answer.{Answer}
use Rattle.seize_machine.specs.declared.machine.event.Job.{Job}
use Rattle.seize_machine.specs.declared.machine.event.Job.TheVariants.{Retire}
use Rattle.seize_machine.proofs.Facts.{Step, and_true, beginning, eq_true, is_true, linked_named, linked_not_loose, loose_named, not_true, opening_reached, reached_next, some_is, step_of, value_frame}
use Rattle.seize_book.specs.Book.{IsLegalList}
use Rattle.seize_book.specs.Entry.{Entry, Made, Used, timed_deed}
use Rattle.seize_book.specs.Kept.{IsTold, SaysKept, retires_by}
use Rattle.seize_book.specs.Others.{IsSpent}
use Rattle.seize_book.specs.Tokens.{Name, start}
use Rattle.seize_book.proofs.Further.{in_second, unnamed}
use Rattle.seize_book.proofs.Lists.{equal, unequal}
use Rattle.seize_book.proofs.Lives.{legal_first}
use Rattle.seize_book.proofs.Retires.{spends}

abbrev IsRetired : ℕ → State → Type 0
IsRetired v st = IsSpent v st × ((l : ℕ) → link_at st l ≢ Some v)

clash : (b : Bool) → b ≡ true → b ≡ false → ⊥
clash b h k = let x : true ≡ false = sym h ∙ k in cc

-- Of one event.

says_in : (xs ys : List ℕ) (v k : ℕ) → SaysKept xs ys v k → has v xs ≡ true
says_in [] ys v k says = absurd says
says_in (x ∷ xs) [] v k says = absurd says
says_in (x ∷ xs) (y ∷ ys) v k (inl its) = ap (λ (b : Bool). b || has v xs) (equal x v its.0)
says_in (x ∷ xs) (y ∷ ys) v k (inr says) = ap (λ (b : Bool). (x == v) || b) (says_in xs ys v k says) ∙ or_true (x == v)
  where
    or_true : (b : Bool) → (b || true) ≡ true
    or_true true = refl
    or_true false = refl

says_once : (xs ys : List ℕ) (v k l : ℕ) → are_distinct xs ≡ true → SaysKept xs ys v k → SaysKept xs ys v l → k ≡ l
says_once [] ys v k l apart says too = absurd says
says_once (x ∷ xs) [] v k l apart says too = absurd says
says_once (x ∷ xs) (y ∷ ys) v k l apart says too = go (says_once xs ys v k l parts.1) says too
  where
    parts : (not (has x xs) ≡ true) × (are_distinct xs ≡ true)
    parts = and_true _ _ apart

    never : (m : ℕ) → x ≡ v → SaysKept xs ys v m → ⊥
    never m is more = clash (has v xs) (says_in xs ys v m more) (ap (λ (u : ℕ). has u xs) (sym is) ∙ not_true _ parts.0)

    go : (SaysKept xs ys v k → SaysKept xs ys v l → k ≡ l) → ((x ≡ v) × (y ≡ k)) ⊎ SaysKept xs ys v k → ((x ≡ v) × (y ≡ l)) ⊎ SaysKept xs ys v l → k ≡ l
    go rest (inl a) (inl b) = sym a.1 ∙ b.1
    go rest (inl a) (inr b) = absurd (never l a.0 b)
    go rest (inr a) (inl b) = absurd (never k b.0 a)
    go rest (inr a) (inr b) = rest a b

-- its values are distinct
apart_by : (size : ℕ) (st : State) (event : Event) (d : State × Answer) → Step size st event d → are_distinct (retires_by event) ≡ true
apart_by size st event _ (Step.begun_other s job place idle which from) = other job from.1
  where
    other : (job : Job) → beginning st s job ≡ Some place → are_distinct (retires_by (Begin s job)) ≡ true
    other (Retire w) from = refl
    other _ from = refl
apart_by size st event _ (Step.handed s w puts given walk queue e fresh) = (and_true _ _ fresh).1
apart_by size st event _ _ = refl

-- A value that an event retires or puts is so afterwards.

or_false : (b : Bool) → (b || false) ≡ true → b ≡ true
or_false true h = refl
or_false false h = absurd (cc)

retired_by : (v size : ℕ) (st : State) (event : Event) (d : State × Answer) → IsReached st → Step size st event d → has v (retires_by event) ≡ true → IsRetired v d.0
retired_by v size st event _ r (Step.begun_retire s w idle may) h =
    (spends size st v (Begin s (Retire w)) _ (Step.begun_retire s w idle may) is, λ l held. go (linked_named st r l v held).0 (linked_not_loose st r l v held) may)
  where
    is : (w == v) ≡ true
    is = or_false (w == v) h

    go : has v st.named ≡ true → has v st.loose ≡ false → (has w st.named ≡ false) ⊎ (has w st.loose ≡ true) → ⊥
    go named out (inl never) = clash (has v st.named) named (ap (λ (u : ℕ). has u st.named) (sym (eq_true w v is)) ∙ never)
    go named out (inr loose) = clash (has v st.loose) (ap (λ (u : ℕ). has u st.loose) (sym (eq_true w v is)) ∙ loose) out
retired_by v size st event _ r (Step.begun_other s job place idle which from) h = absurd (other job from.1 h)
  where
    other : (job : Job) → beginning st s job ≡ Some place → has v (retires_by (Begin s job)) ≡ true → ⊥
    other (Retire w) from h = cc
    other _ from h = cc
retired_by v size st event _ r (Step.handed s w puts given walk queue e fresh) h =
    ((in_second st.named puts v h, go (is_true (has v st.loose))), λ l held. clash (has v st.named) (linked_named st r l v held).0 new)
  where
    new : has v st.named ≡ false
    new = unnamed st.named puts v (and_true _ _ fresh).0 h

    go : (has v st.loose ≡ true) ⊎ (has v st.loose ≡ false) → has v st.loose ≡ false
    go (inl loose) = absurd (clash (has v st.named) (loose_named st r v loose).0 new)
    go (inr out) = out
retired_by v size st event _ r _ h = absurd (cc)

-- No event changes it then.

no_number : (v : ℕ) (o : Option ℕ) → o ≢ Some v → is_number v o ≡ false
no_number v None not_ = refl
no_number v (Some w) not_ = unequal w v (λ e. not_ (ap Option.Some e))

-- nothing that was named is put in a link
not_new : (v : ℕ) (st : State) (new : Option ℕ) → has v st.named ≡ true → is_none_or_fresh st new ≡ true → new ≢ Some v
not_new v st None named fresh is = cc
not_new v st (Some w) named fresh is = clash (has w st.named) (ap (λ (u : ℕ). has u st.named) (some_is w v is) ∙ named) (not_true _ fresh)

unchanged : (v size : ℕ) (st : State) (event : Event) (d : State × Answer) → Step size st event d → IsRetired v st → changes_value st v event ≡ false
unchanged v size st event _ (Step.begun_retire s w idle may) retired = unequal w v (λ e. go e may)
  where
    go : w ≡ v → (has w st.named ≡ false) ⊎ (has w st.loose ≡ true) → ⊥
    go e (inl never) = clash (has v st.named) retired.0.0 (ap (λ (u : ℕ). has u st.named) (sym e) ∙ never)
    go e (inr loose) = clash (has v st.loose) (ap (λ (u : ℕ). has u st.loose) (sym e) ∙ loose) retired.0.1
unchanged v size st event _ (Step.begun_other s job place idle which from) retired = other job from.1
  where
    other : (job : Job) → beginning st s job ≡ Some place → changes_value st v (Begin s job) ≡ false
    other (Retire w) from = absurd (cc)
    other _ from = refl
unchanged v size st event _ (Step.handed s w puts given walk queue e fresh) retired = go (is_true (has v puts))
  where
    go : (has v puts ≡ true) ⊎ (has v puts ≡ false) → has v puts ≡ false
    go (inl put) = absurd (clash (has v st.named) retired.0.0 (unnamed st.named puts v (and_true _ _ fresh).0 put))
    go (inr not_) = not_
unchanged v size st event _ (Step.exchanged s l exchange new can fresh exact) retired =
    or_from _ _ (no_number v (new_link exchange) (not_new v st (new_link exchange) retired.0.0 (subst (λ (o : Option ℕ). is_none_or_fresh st o ≡ true) exact.0 fresh)))
    (no_number v (link_at st l) (retired.1 l))
unchanged v size st event _ (Step.compared s l exchange can exact) retired =
    or_from _ _ (no_number v (new_link exchange) (not_new v st (new_link exchange) retired.0.0 exact.0)) (no_number v (link_at st l) (retired.1 l))
unchanged v size st event _ _ retired = refl

-- what is put in a link is what it holds, and all others hold what they held
stored : (links : List (Option ℕ)) (k l v : ℕ) (new : Option ℕ) → get_or (set links k new) l None ≡ Some v → (new ≡ Some v) ⊎ (get_or links l None ≡ Some v)
stored links k l v new is = go (ℕ_discrete l k) (cases_lt l (length links))
  where
    go : Dec (l ≡ k) → (l < length links) ⊎ (length links ≤ l) → (new ≡ Some v) ⊎ (get_or links l None ≡ Some v)
    go (no n) which = inr (sym (get_or-set_other links k l new None n) ∙ is)
    go (yes e) (inl below) =
        inl (sym (get_or-set_same links l new None below) ∙ subst (λ (j : ℕ). get_or (set links j new) l None ≡ Some v) (sym e) is)
    go (yes e) (inr past) =
        absurd (let none : Option.None ≡ Some v = sym (get_or_past (set links k new) l None (subst (λ (n : ℕ). n ≤ l) (sym (length-set links k new)) past)) ∙ is in cc)

-- so no link comes to hold it
still_out : (v size : ℕ) (st : State) (event : Event) (d : State × Answer) → Step size st event d → IsRetired v st → (l : ℕ) → link_at d.0 l ≢ Some v
still_out v size st event _ (Step.exchanged s k exchange new can fresh exact) retired l held = go (stored st.links k l v new held)
  where
    go : (new ≡ Some v) ⊎ (link_at st l ≡ Some v) → ⊥
    go (inl is) = not_new v st new retired.0.0 fresh is
    go (inr was) = retired.1 l was
still_out v size st event _ (Step.added s b won queue d e h) retired l held = retired.1 l (ap (λ (x : State × Answer). link_at x.0 l) (some_is _ _ h) ∙ held)
still_out v size st event _ (Step.subtracted s b walk queue d e h) retired l held = retired.1 l (ap (λ (x : State × Answer). link_at x.0 l) (some_is _ _ h) ∙ held)
still_out v size st event _ _ retired l held = retired.1 l held

still_retired : (v size : ℕ) (st : State) (event : Event) (d : State × Answer) → Step size st event d → IsRetired v st → IsRetired v d.0
still_retired v size st event d step retired =
    let same = value_frame v size st event d step (unchanged v size st event d step retired) in
    ((same.0 ∙ retired.0.0, same.1 ∙ retired.0.1), still_out v size st event d step retired)

-- and no event retires it, or puts it
changes_by : (st : State) (v : ℕ) (event : Event) → has v (retires_by event) ≡ true → changes_value st v event ≡ true
changes_by st v (Begin s (Retire w)) h = or_false (w == v) h
changes_by st v (Hand s puts) h = h
changes_by st v _ h = absurd (cc)

-- In a list.

never_told : (st : State) (log : List Entry) (v k : ℕ) → IsLegalList st log → IsRetired v st → IsTold log v k → ⊥
never_told st [] v k legal retired told = told
never_told st (Used u ∷ log) v k legal retired told = never_told st log v k legal retired told
never_told st (Made e ∷ log) v k legal retired told =
    let first = legal_first st e log legal in let step = step_of e.size st e.event first.0 first.1 in
    go first.0 step (never_told (first.0).0 log v k first.3 (still_retired v e.size st e.event first.0 step retired)) told
  where
    go : (d : State × Answer) → Step e.size st e.event d → (IsTold log v k → ⊥) → SaysKept (retires_by e.event) e.kepts v k ⊎ IsTold log v k → ⊥
    go d step never (inl says) = clash _ (changes_by st v e.event (says_in (retires_by e.event) e.kepts v k says)) (unchanged v e.size st e.event d step retired)
    go d step never (inr more) = never more

once_from : (st : State) (log : List Entry) (v k l : ℕ) → IsReached st → IsLegalList st log → IsTold log v k → IsTold log v l → k ≡ l
once_from st [] v k l reached legal told too = absurd told
once_from st (Used u ∷ log) v k l reached legal told too = once_from st log v k l reached legal told too
once_from st (Made e ∷ log) v k l reached legal told too =
    let first = legal_first st e log legal in let step = step_of e.size st e.event first.0 first.1 in
    go first.0 step first.3 (once_from (first.0).0 log v k l (reached_next st (timed_deed e) first.0 reached first.1) first.3) told too
  where
    never : (d : State × Answer) → Step e.size st e.event d → IsLegalList d.0 log → (m n : ℕ) → SaysKept (retires_by e.event) e.kepts v m → IsTold log v n → ⊥
    never d step rest m n says more = never_told d.0 log v n rest (retired_by v e.size st e.event d reached step (says_in (retires_by e.event) e.kepts v m says)) more

    go : (d : State × Answer) → Step e.size st e.event d → IsLegalList d.0 log → (IsTold log v k → IsTold log v l → k ≡ l)
        → SaysKept (retires_by e.event) e.kepts v k ⊎ IsTold log v k → SaysKept (retires_by e.event) e.kepts v l ⊎ IsTold log v l → k ≡ l
    go d step rest later (inl a) (inl b) = says_once (retires_by e.event) e.kepts v k l (apart_by e.size st e.event d step) a b
    go d step rest later (inl a) (inr b) = absurd (never d step rest k l a b)
    go d step rest later (inr a) (inl b) = absurd (never d step rest l k b a)
    go d step rest later (inr a) (inr b) = later a b

pub told_once : (n : Name) (log : List Entry) (v k l : ℕ) → are_distinct (linked_values n.links) ≡ true → IsLegalList (start n) log → IsTold log v k → IsTold log v l → k ≡ l
told_once n log v k l distinct legal = once_from (start n) log v k l (opening_reached n.slots n.links distinct) legal
