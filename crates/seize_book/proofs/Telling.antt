-- In a list whose entries say of each value that they retire or put what is kept of it, a value that was named, and that is neither out of a
-- link nor in one, was retired or put: so it is told what is kept of it.
--     IsInPlay v st     the value is out of a link, and no call has begun to retire it, or a link holds it
use Rattle.std.proofs.Common.{◌≡◌, ◌≢◌, ℕ, zero, suc, ◌<◌, ◌≤◌, Bool, true, false, ◌||◌, ◌==◌, List, [], ◌∷◌, ◌++◌, length, Option, Some, None, get_or, refl, sym, ◌∙◌, ap, subst, ◌⊎◌, inl, inr, arith}
use Rattle.std.specs.Prelude.{nat_lt, option_to_list}
use Rattle.std.proofs.lemmas.List.{get_or-set_other, get_or-set_same}
use native.Mathlib.Decide.{ℕ_discrete}
use Rattle.seize_machine.specs.Machine.State.{State, has, is_active, head_at, link_at, linked_values}
use Rattle.seize_machine.specs.Machine.Event.{Event, Begin, Hand}
use Rattle.seize_machine.specs.Machine.Frames.{changes_link, changes_value}
use Rattle.seize_machine.specs.Machine.Next.{can_link}
use Rattle.seize_machine.specs.declared.machine.event.Answer.{Answer}
use Rattle.seize_machine.specs.declared.machine.event.Job.{Job}
use Rattle.seize_machine.specs.declared.machine.event.Job.TheVariants.{Retire}
use Rattle.seize_machine.proofs.Facts.{Step, and_true, beginning, is_true, link_frame, lt_true, step_of, swapped, value_frame}
use Rattle.seize_book.specs.Book.{IsLegalList, after}
use Rattle.seize_book.specs.Entry.{Entry, Made, Used}
use Rattle.seize_book.specs.Kept.{IsTold, SaysKept}
use Rattle.seize_book.specs.Saying.{AllSay, retires_by}
use Rattle.seize_book.specs.Tokens.{Name, start}
use Rattle.seize_book.proofs.Further.{either, in_second}
use Rattle.seize_book.proofs.Lists.{equal}
use Rattle.seize_book.proofs.Lives.{legal_first}

abbrev IsInPlay : ℕ → State → Type 0
IsInPlay v st = (has v st.loose ≡ true) ⊎ ((l : ℕ) × (link_at st l ≡ Some v))

-- One event.

said_in : (vs ks : List ℕ) (v : ℕ) → length vs ≤ length ks → has v vs ≡ true → (k : ℕ) × SaysKept vs ks v k
said_in [] ks v enough is = absurd (cc)
said_in (x ∷ vs) [] v enough is = absurd (omega (arith, enough))
said_in (x ∷ vs) (k ∷ ks) v enough is = go (x == v) refl is (said_in vs ks v (omega (arith, enough)))
  where
    go : (b : Bool) → (x == v) ≡ b → (b || has v vs) ≡ true → (has v vs ≡ true → (l : ℕ) × SaysKept vs ks v l) → (l : ℕ) × SaysKept (x ∷ vs) (k ∷ ks) v l
    go true e is rest = (k, inl ((grind arith), refl))
    go false e is rest = let more = rest is in (more.0, inr more.1)

-- one that changes no value, and no link
in_play_as : (v size : ℕ) (st : State) (event : Event) (d : State × Answer) → Step size st event d → changes_value st v event ≡ false → ((l : ℕ) → changes_link l event ≡ false)
    → (has v st.named ≡ true → IsInPlay v st) → has v (d.0).named ≡ true → IsInPlay v d.0
in_play_as v size st event d step value link were named =
    let same = value_frame v size st event d step value in go same.1 (were (sym same.0 ∙ named))
  where
    go : has v (d.0).loose ≡ has v st.loose → IsInPlay v st → IsInPlay v d.0
    go same (inl loose) = inl (same ∙ loose)
    go same (inr held) = inr (held.0, link_frame held.0 size st event d step (link held.0) ∙ held.1)

within_links : (st : State) (s l : ℕ) → can_link st s l ≡ true → l < length st.links
within_links st s l can = lt_true l (length st.links) (and_true (is_active (head_at st s)) (nat_lt l (length st.links)) can).1

this_one : (v : ℕ) → has v (v ∷ []) ≡ true
this_one v = ap (λ (b : Bool). b || false) (equal v v refl)

new_is : (v : ℕ) (new : Option ℕ) → has v (option_to_list new) ≡ true → new ≡ Some v
new_is v None is = absurd (cc)
new_is v (Some w) is = go (w == v) refl is
  where
    go : (b : Bool) → (w == v) ≡ b → (b || false) ≡ true → Some w ≡ Some v
    go true e is = ap Option.Some (grind arith)
    go false e is = absurd (cc)

in_first : (xs ys : List ℕ) (v : ℕ) → has v xs ≡ true → has v (xs ++ ys) ≡ true
in_first [] ys v h = absurd (cc)
in_first (x ∷ xs) ys v h = go (x == v) h (in_first xs ys v)
  where
    go : (b : Bool) → (b || has v xs) ≡ true → (has v xs ≡ true → has v (xs ++ ys) ≡ true) → (b || has v (xs ++ ys)) ≡ true
    go true h rest = refl
    go false h rest = rest h

or_none : (b : Bool) → (b || false) ≡ false → b ≡ false
or_none true h = absurd (cc)
or_none false h = refl

-- an exchange: what it put in is in the link, and what was there is out
in_play_exchanged : (v : ℕ) (st : State) (l : ℕ) (new : Option ℕ) → l < length st.links → (has v st.named ≡ true → IsInPlay v st) → has v (swapped st l new).named ≡ true → IsInPlay v (swapped st l new)
in_play_exchanged v st l new within were named = go (either st.named (option_to_list new) v named)
  where
    held : (k : ℕ) → link_at st k ≡ Some v → Dec (k ≡ l) → IsInPlay v (swapped st l new)
    held k is (no other) = inr (k, get_or-set_other st.links l k new None other ∙ is)
    held k is (yes same) =
        inl (in_second st.loose (option_to_list (link_at st l)) v (ap (λ (o : Option ℕ). has v (option_to_list o)) (ap (link_at st) (sym same) ∙ is) ∙ this_one v))

    play : IsInPlay v st → IsInPlay v (swapped st l new)
    play (inl loose) = inl (in_first st.loose (option_to_list (link_at st l)) v loose)
    play (inr at) = held at.0 at.1 (ℕ_discrete at.0 l)

    go : (has v st.named ≡ true) ⊎ (has v (option_to_list new) ≡ true) → IsInPlay v (swapped st l new)
    go (inl was) = play (were was)
    go (inr is) = inr (l, get_or-set_same st.links l new None within ∙ new_is v new is)

in_play_then : (v size : ℕ) (st : State) (event : Event) (d : State × Answer) → Step size st event d → has v (retires_by event) ≡ false → (has v st.named ≡ true → IsInPlay v st) → has v (d.0).named ≡ true → IsInPlay v d.0
in_play_then v size st event _ (Step.begun_retire s w idle may) no_ were named =
    in_play_as v size st (Begin s (Retire w)) _ (Step.begun_retire s w idle may) (or_none (w == v) no_) (λ l. refl) were named
in_play_then v size st event _ (Step.begun_other s job place idle which from) no_ were named =
    in_play_as v size st (Begin s job) _ (Step.begun_other s job place idle which from) (other job from.1) (λ l. refl) were named
  where
    other : (job : Job) → beginning st s job ≡ Some place → changes_value st v (Begin s job) ≡ false
    other (Retire w) from = absurd (cc)
    other _ from = refl
in_play_then v size st event _ (Step.handed s w puts given walk queue e fresh) no_ were named =
    in_play_as v size st (Hand s puts) _ (Step.handed s w puts given walk queue e fresh) no_ (λ l. refl) were named
in_play_then v size st event _ (Step.exchanged s l exchange new can fresh exact) no_ were named = in_play_exchanged v st l new (within_links st s l can) were named
in_play_then v size st event _ (Step.compared s l exchange can exact) no_ were named = were named
in_play_then v size st event d step no_ were named = in_play_as v size st event d step refl (λ l. refl) were named

-- A list.

told_or : (st : State) (log : List Entry) (v : ℕ) → IsLegalList st log → AllSay log → (has v st.named ≡ true → IsInPlay v st) → has v (after st log).named ≡ true → ((k : ℕ) × IsTold log v k) ⊎ IsInPlay v (after st log)
told_or st [] v legal say were named = inr (were named)
told_or st (Used u ∷ log) v legal say were named = told_or st log v legal say.1 were named
told_or st (Made e ∷ log) v legal say were named =
    let first = legal_first st e log legal in let step = step_of e.size st e.event first.0 first.1 in
    subst (λ (now : State × Answer). ((k : ℕ) × IsTold (Made e ∷ log) v k) ⊎ IsInPlay v (after now.0 log)) (sym first.2)
    (go first.0 (is_true (has v (retires_by e.event))) (told_or (first.0).0 log v first.3 say.1) step (subst (λ (now : State × Answer). has v (after now.0 log).named ≡ true) first.2 named))
  where
    go : (d : State × Answer) → (has v (retires_by e.event) ≡ true) ⊎ (has v (retires_by e.event) ≡ false)
        → ((has v (d.0).named ≡ true → IsInPlay v d.0) → has v (after d.0 log).named ≡ true → ((k : ℕ) × IsTold log v k) ⊎ IsInPlay v (after d.0 log))
        → Step e.size st e.event d → has v (after d.0 log).named ≡ true → ((k : ℕ) × IsTold (Made e ∷ log) v k) ⊎ IsInPlay v (after d.0 log)
    go d (inl is) rest step named = let said = said_in (retires_by e.event) e.kepts v say.0 is in inl (said.0, inl said.1)
    go d (inr not_) rest step named = later (rest (in_play_then v e.size st e.event d step not_ were) named)
      where
        later : ((k : ℕ) × IsTold log v k) ⊎ IsInPlay v (after d.0 log) → ((k : ℕ) × IsTold (Made e ∷ log) v k) ⊎ IsInPlay v (after d.0 log)
        later (inl told) = inl (told.0, inr told.1)
        later (inr play) = inr play

-- at the opening the links hold all that was named
linked_at : (links : List (Option ℕ)) (v : ℕ) → has v (linked_values links) ≡ true → (l : ℕ) × (get_or links l None ≡ Some v)
linked_at [] v is = absurd (cc)
linked_at (None ∷ links) v is = let rest = linked_at links v is in (suc rest.0, rest.1)
linked_at (Some w ∷ links) v is = go (w == v) refl is (linked_at links v)
  where
    go : (b : Bool) → (w == v) ≡ b → (b || has v (linked_values links)) ≡ true → (has v (linked_values links) ≡ true → (l : ℕ) × (get_or links l None ≡ Some v)) → (l : ℕ) × (get_or (Some w ∷ links) l None ≡ Some v)
    go true e is rest = (zero, ap Option.Some (grind arith))
    go false e is rest = let more = rest is in (suc more.0, more.1)

pub told_if : (n : Name) (log : List Entry) (v : ℕ) → IsLegalList (start n) log → AllSay log → has v (after (start n) log).named ≡ true → has v (after (start n) log).loose ≡ false
    → ((l : ℕ) → link_at (after (start n) log) l ≢ Some v) → (k : ℕ) × IsTold log v k
told_if n log v legal say named out unheld = go (told_or (start n) log v legal say (λ is. inr (linked_at n.links v is)) named)
  where
    go : ((k : ℕ) × IsTold log v k) ⊎ IsInPlay v (after (start n) log) → (k : ℕ) × IsTold log v k
    go (inl told) = told
    go (inr (inl loose)) = absurd (let x : true ≡ false = sym loose ∙ out in cc)
    go (inr (inr held)) = absurd (unheld held.0 held.1)
