-- Lists of legal events: their first events, and what two lists do one after the other.
use Rattle.std.proofs.Common.{◌≡◌, ℕ, List, [], ◌∷◌, ◌++◌, length, Option, Some, None, refl, sym, ◌∙◌, ap, subst, append_assoc, option_to_list}
use Rattle.std.proofs.lemmas.List.Concat.{flat_map-cons}
use Rattle.seize_machine.specs.Machine.State.{State}
use Rattle.seize_machine.specs.Machine.Event.{Event}
use Rattle.seize_machine.specs.Machine.Next.{next}
use Rattle.seize_machine.specs.Machine.History.{Timed, at_size, Legal, handed_value, handed}
use Rattle.seize_machine.specs.declared.machine.event.Answer.{Answer}
use Rattle.seize_machine.proofs.Facts.{some_is, no_event, one_event, joined, first_event, step_of, links_length}
use Rattle.seize_model.specs.Agreement.Play.{play, with_answer, PlaysAreLegal}
use Rattle.seize_model.specs.Agreement.Events.{ArePutBy}

pub play_first : (size : ℕ) (st : State) (e : Event) (es : List Event) (later : State) (answer : Answer) → next size st e ≡ Some (later, answer) → play size st (e ∷ es) ≡ with_answer answer (play size later es)
play_first size st e es later answer h = ap (λ (o : Option (State × Answer)). elim o [ None ↦ None | Some d ↦ with_answer d.1 (play size d.0 es) ]) h

-- two outcomes are the same in both parts
pub both_same : {A B : Type 0} (x y : A × B) → Some x ≡ Some y → (x.0 ≡ y.0) × (x.1 ≡ y.1)
both_same {A} {B} x y h = let e : x ≡ y = some_is x y h in (ap (λ (p : A × B). p.0) e, ap (λ (p : A × B). p.1) e)

-- the first event of a legal list
pub record First (size : ℕ) (st : State) (e : Event) (es : List Event) (end : State) (answers : List Answer) : Type 0 where
  pub later : State
  pub answer : Answer
  pub rest : List Answer
  pub step : next size st e ≡ Some (later, answer)
  pub legal : play size later es ≡ Some (end, rest)
  pub all : answers ≡ answer ∷ rest

pub first_of : (size : ℕ) (st : State) (e : Event) (es : List Event) (end : State) (answers : List Answer) → play size st (e ∷ es) ≡ Some (end, answers) → First size st e es end answers
first_of size st e es end answers legal = go (next size st e) refl legal
  where
    go : (o : Option (State × Answer)) → next size st e ≡ o → ◌≡◌ {A = Option (State × List Answer)} (elim o [ None ↦ None | Some d ↦ with_answer d.1 (play size d.0 es) ]) (Some (end, answers)) → First size st e es end answers
    go None is h = absurd (cc)
    go (Some d) is h = on (play size d.0 es) refl h
      where
        on : (r : Option (State × List Answer)) → play size d.0 es ≡ r → with_answer d.1 r ≡ Some (end, answers) → First size st e es end answers
        on None same h = absurd (cc)
        on (Some r) same h =
            let told : (r.0 ≡ end) × (d.1 ∷ r.1 ≡ answers) = both_same (r.0, d.1 ∷ r.1) (end, answers) h in
            record { later = d.0; answer = d.1; rest = r.1; step = is; legal = same ∙ ap (λ (x : State). Some (x, r.1)) told.0; all = sym told.1 }

pub play_none : (size : ℕ) (st end : State) (answers : List Answer) → play size st [] ≡ Some (end, answers) → (end ≡ st) × (answers ≡ [])
play_none size st end answers h =
    let both : (st ≡ end) × ([] ≡ answers) = both_same (st, []) (end, answers) h in
    (sym both.0, sym both.1)

pub handed_first : (answer : Answer) (answers : List Answer) → handed (answer ∷ answers) ≡ option_to_list (handed_value answer) ++ handed answers
handed_first answer answers = flat_map-cons (λ a. option_to_list (handed_value a)) answer answers

pub handed_append : (xs ys : List Answer) → handed (xs ++ ys) ≡ handed xs ++ handed ys
handed_append [] ys = refl
handed_append (x ∷ xs) ys =
    handed_first x (xs ++ ys) ∙ ap (λ (l : List ℕ). option_to_list (handed_value x) ++ l) (handed_append xs ys)
    ∙ sym (append_assoc (option_to_list (handed_value x)) (handed xs) (handed ys)) ∙ ap (λ (l : List ℕ). l ++ handed ys) (sym (handed_first x xs))

-- one list after another
pub play_append : (size : ℕ) (st middle end : State) (es fs : List Event) (first last : List Answer) → play size st es ≡ Some (middle, first) → play size middle fs ≡ Some (end, last) → play size st (es ++ fs) ≡ Some (end, first ++ last)
play_append size st middle end [] fs first last h k =
    let none : (middle ≡ st) × (first ≡ []) = play_none size st middle first h in
    ap (λ (x : State). play size x fs) (sym none.0) ∙ k ∙ ap (λ (l : List Answer). Some (end, l ++ last)) (sym none.1)
play_append size st middle end (e ∷ es) fs first last h k =
    let one : First size st e es middle first = first_of size st e es middle first h in
    play_first size st e (es ++ fs) one.later one.answer one.step
    ∙ ap (λ (r : Option (State × List Answer)). with_answer one.answer r) (play_append size one.later middle end es fs one.rest last one.legal k)
    ∙ ap (λ (l : List Answer). Some (end, l ++ last)) (sym one.all)

pub record Split (size : ℕ) (st : State) (es fs : List Event) (end : State) (answers : List Answer) : Type 0 where
  pub middle : State
  pub first : List Answer
  pub last : List Answer
  pub begins : play size st es ≡ Some (middle, first)
  pub goes_on : play size middle fs ≡ Some (end, last)
  pub all : answers ≡ first ++ last

pub split_of : (size : ℕ) (st : State) (es fs : List Event) (end : State) (answers : List Answer) → play size st (es ++ fs) ≡ Some (end, answers) → Split size st es fs end answers
split_of size st [] fs end answers h = record { middle = st; first = []; last = answers; begins = refl; goes_on = h; all = refl }
split_of size st (e ∷ es) fs end answers h =
    let one : First size st e (es ++ fs) end answers = first_of size st e (es ++ fs) end answers h in
    let rest : Split size one.later es fs end one.rest = split_of size one.later es fs end one.rest one.legal in
    record {
      middle = rest.middle;
      first = one.answer ∷ rest.first;
      last = rest.last;
      begins = play_first size st e es one.later one.answer one.step ∙ ap (λ (r : Option (State × List Answer)). with_answer one.answer r) rest.begins;
      goes_on = rest.goes_on;
      all = one.all ∙ ap (λ (l : List Answer). one.answer ∷ l) rest.all;
    }

-- there are as many links after them
pub played_links : (size : ℕ) (events : List Event) (st later : State) (answers : List Answer) → play size st events ≡ Some (later, answers) → length later.links ≡ length st.links
played_links size [] st later answers h = ap (λ (x : State). length x.links) (play_none size st later answers h).0
played_links size (e ∷ es) st later answers h =
    let one : First size st e es later answers = first_of size st e es later answers h in
    played_links size es one.later later one.rest one.legal ∙ links_length size st e (one.later, one.answer) (step_of size st e (one.later, one.answer) one.step)

-- what each of two lists puts
pub put_parts : {T R : Type 0} (puts : R → T → List T) (of : ℕ → T) (by : ℕ → R) (size : ℕ) (st middle : State) (es fs : List Event) (first last : List Answer) → play size st es ≡ Some (middle, first)
    → ArePutBy puts of by (es ++ fs) (first ++ last) → ArePutBy puts of by es first × ArePutBy puts of by fs last
put_parts puts of by size st middle [] fs first last h put = (tt, subst (λ (l : List Answer). ArePutBy puts of by fs (l ++ last)) (play_none size st middle first h).1 put)
put_parts puts of by size st middle (e ∷ es) fs first last h put =
    let one : First size st e es middle first = first_of size st e es middle first h in
    let all : ArePutBy puts of by (e ∷ (es ++ fs)) (one.answer ∷ (one.rest ++ last)) = subst (λ (l : List Answer). ArePutBy puts of by (e ∷ (es ++ fs)) (l ++ last)) one.all put in
    let rest : ArePutBy puts of by es one.rest × ArePutBy puts of by fs last = put_parts puts of by size one.later middle es fs one.rest last one.legal all.1 in
    (subst (λ (l : List Answer). ArePutBy puts of by (e ∷ es) l) (sym one.all) (all.0, rest.0), rest.1)

-- what is played is a legal list of the machine
legal_of : (size : ℕ) (events : List Event) (st later : State) (answers : List Answer) → play size st events ≡ Some (later, answers) → Legal next st (at_size size events) answers later
legal_of size [] st later answers h =
    let none : (later ≡ st) × (answers ≡ []) = play_none size st later answers h in
    subst (λ (now : State). Legal next st [] answers now) (sym none.0) (subst (λ (l : List Answer). Legal next st [] l st) (sym none.1) (no_event st))
legal_of size (e ∷ events) st later answers h =
    let one : First size st e events later answers = first_of size st e events later answers h in
    let t : Timed = record { size = size; event = e } in
    subst (λ (l : List Answer). Legal next st (t ∷ at_size size events) l later) (sym one.all)
    (joined st one.later later (t ∷ []) (at_size size events) (one.answer ∷ []) one.rest (one_event st one.later t one.answer one.step) (legal_of size events one.later later one.rest one.legal))

play_of : (size : ℕ) (events : List Event) (st later : State) (answers : List Answer) → Legal next st (at_size size events) answers later → play size st events ≡ Some (later, answers)
play_of size [] st later answers legal = ap (λ (now : State). Some (now, [])) legal.end_is ∙ ap (λ (l : List Answer). Some (later, l)) legal.answers_are
play_of size (e ∷ events) st later answers legal =
    let one = first_event st later (record { size = size; event = e }) (at_size size events) answers legal in
    play_first size st e events one.0 one.1 one.4
    ∙ ap (λ (r : Option (State × List Answer)). with_answer one.1 r) (play_of size events one.0 later one.2 one.5)
    ∙ ap (λ (l : List Answer). Some (later, l)) (sym one.3)

pub plays_are_legal : PlaysAreLegal
plays_are_legal size st later events answers = (legal_of size events st later answers, play_of size events st later answers)
