-- Where values have fresh numbers, there is a run of the events of a call.
use Rattle.std.proofs.Common.{◌≡◌, ℕ, Bool, true, false, not, ◌&&◌, ◌||◌, List, [], ◌∷◌, ◌++◌, Some, None, refl, sym, ◌∙◌, ap, subst, arith, append-nil, option_to_list}
use Rattle.std.specs.List.{list_all, AllByRecursion}
use Rattle.std.proofs.lemmas.List.Concat.{flat_map-cons}
use Rattle.seize_machine.specs.Machine.State.{State, has, are_distinct}
use Rattle.seize_machine.specs.Machine.Event.{Event, Hand, Return}
use Rattle.seize_machine.specs.Machine.Next.{next, are_fresh}
use Rattle.seize_machine.specs.Machine.History.{handed_value, handed}
use Rattle.seize_machine.specs.declared.machine.event.Answer.{Answer}
use Rattle.seize_machine.specs.declared.machine.event.Answer.TheVariants.{Done, Handed}
use Rattle.seize_model.specs.Waiting.Further.{put_by}
use Rattle.seize_model.specs.Agreement.Play.{play, with_answer}
use Rattle.seize_model.specs.Agreement.Events.{IsToReturn}
use Rattle.seize_model.proofs.Simulation.Events.{hand_step}
use Rattle.seize_model.proofs.Simulation.Coupling.{Naming, Denote}
use Rattle.seize_model.proofs.Simulation.Paths.{IsOwn, Carried}
use Rattle.seize_model.proofs.Simulation.Names.{Names}
use Rattle.seize_model.proofs.Simulation.Plays.{play_first, play_none, First, first_of}
use Rattle.seize_model.proofs.Cases.{or_false}

-- Fresh numbers.

has_append : (v : ℕ) (xs ys : List ℕ) → has v (xs ++ ys) ≡ (has v xs || has v ys)
has_append v [] ys = refl
has_append v (x ∷ xs) ys = grind (arith, has_append v xs ys)

-- each of these values has a name of its own
pub fresh_names : {T R X : Type 0} (puts : R → T → List T) (of : Naming T R X) (P : T × R → Type 0) → Names puts of P → (named : List ℕ) (vs : List (T × R)) → AllByRecursion P vs
    → (ns : List ℕ) × (are_fresh named ns ≡ true) × Denote of ns vs
fresh_names puts of P names named [] k = ([], refl, refl)
fresh_names {T} {R} puts of P names named (v ∷ vs) k =
    let more : (ns : List ℕ) × (are_fresh named ns ≡ true) × Denote of ns vs = fresh_names puts of P names named vs k.1 in
    let one : (n : ℕ) × (has n (more.0 ++ named) ≡ false) × (of.name n ≡ of.view v) = names.number v k.0 (more.0 ++ named) in
    let new : (has one.0 more.0 ≡ false) × (has one.0 named ≡ false) = or_false _ _ (sym (has_append one.0 more.0 named) ∙ one.1) in
    (one.0 ∷ more.0, all_fresh (has one.0 named) (has one.0 more.0) (list_all (λ v. not (has v named)) more.0) (are_distinct more.0) new.1 new.0 more.1, cc)
  where
    all_fresh : (a b c d : Bool) → a ≡ false → b ≡ false → (c && d) ≡ true → ((not a && c) && (not b && d)) ≡ true
    all_fresh false false c d e f g = g
    all_fresh true b c d e f g = absurd (cc)
    all_fresh false true c d e f g = absurd (cc)

-- The numbers that a value puts stand for what its reclaimer puts.
abbrev pub PutFor : {T R X : Type 0} → (R → T → List T) → Naming T R X → Event → Answer → Type 0
PutFor {T} {R} puts of (Hand s ns) (Handed v) = (x : T × R) × (of.name v ≡ of.view x) × Denote of ns (put_by puts x)
PutFor puts of e answer = Unit {0}

abbrev pub ArePutFor : {T R X : Type 0} → (R → T → List T) → Naming T R X → List Event → List Answer → Type 0
ArePutFor puts of (e ∷ es) (answer ∷ answers) = PutFor puts of e answer × ArePutFor puts of es answers
ArePutFor puts of es answers = Unit {0}

pub put_none : {T R X : Type 0} (puts : R → T → List T) (of : Naming T R X) (e : Event) (answer : Answer) → handed_value answer ≡ None → PutFor puts of e answer
put_none puts of (Hand s ns) (Handed v) h = absurd (cc)
put_none puts of e answer h = tt

-- Events of s within a call, with the values that they hand.
pub data Leads {T R X : Type 0} (puts : R → T → List T) (of : Naming T R X) (size s : ℕ) : State → List ℕ → State → Type 0 where
  stays : (st : State) → Leads puts of size s st [] st
  goes : (st : State) (e : Event) (later end : State) (answer : Answer) (hs : List ℕ) → next size st e ≡ Some (later, answer) → handed_value answer ≡ None → IsOwn s e
      → Leads puts of size s later hs end → Leads puts of size s st hs end
  hands : (st : State) (ns : List ℕ) (later end : State) (v : ℕ) (hs : List ℕ) → next size st (Hand s ns) ≡ Some (later, Handed v) → PutFor puts of (Hand s ns) (Handed v)
      → Leads puts of size s later hs end → Leads puts of size s st (v ∷ hs) end

and_then : {T R X : Type 0} (puts : R → T → List T) (of : Naming T R X) (size s : ℕ) (a b c : State) (hs ks : List ℕ) → Leads puts of size s a hs b → Leads puts of size s b ks c → Leads puts of size s a (hs ++ ks) c
and_then puts of size s a b c hs ks (Leads.stays st) l = l
and_then puts of size s a b c hs ks (Leads.goes st e later end answer gs n h own more) l = Leads.goes st e later c answer _ n h own (and_then puts of size s later b c gs ks more l)
and_then puts of size s a b c hs ks (Leads.hands st ns later end v gs n put more) l = Leads.hands st ns later c v _ n put (and_then puts of size s later b c gs ks more l)

-- a run so far is carried on
pub run_carried : {T R X : Type 0} (puts : R → T → List T) (of : Naming T R X) (P : T × R → Type 0) → Names puts of P → (size s : ℕ) (start : State)
    → Carried puts of P s size (λ st hs. Leads puts of size s start hs st)
run_carried {T} {R} puts of P names size s start = record {
  closed = names.closed;
  forced = λ st later e answer hs n h own only k.
      subst (λ (l : List ℕ). Leads puts of size s start l later) (append-nil hs) (and_then puts of size s start st later hs [] k (Leads.goes st e later later answer [] n h own (Leads.stays later)));
  hands = λ base v x batch given walk queue hs h stand holds k.
      let ns : (ns : List ℕ) × (are_fresh base.named ns ≡ true) × Denote of ns (put_by puts x) = fresh_names puts of P names base.named (put_by puts x) (names.closed x holds) in
      (ns.0, ns.2, and_then puts of size s start _ _ hs (v ∷ []) k (Leads.hands _ ns.0 _ _ v [] (hand_step size base s v ns.0 batch given walk queue h ns.1) (x, stand, ns.2) (Leads.stays _)));
}

-- the events of a run, with the return
pub record Returns {T R X : Type 0} (puts : R → T → List T) (of : Naming T R X) (size s : ℕ) (st : State) (hs : List ℕ) (end : State) : Type 0 where
  pub events : List Event
  pub answers : List Answer
  pub own : IsToReturn s events
  pub legal : play size st events ≡ Some (end, answers)
  pub handed_are : handed answers ≡ hs
  pub put : ArePutFor puts of events answers

pub to_return : {T R X : Type 0} (puts : R → T → List T) (of : Naming T R X) (size s : ℕ) (st : State) (hs : List ℕ) (last end : State) → next size last (Return s) ≡ Some (end, Done) → Leads puts of size s st hs last → Returns puts of size s st hs end
to_return puts of size s st hs last end r (Leads.stays _) = record {
  events = Return s ∷ [];
  answers = Done ∷ [];
  own = IsToReturn.returns;
  legal = play_first size last (Return s) [] end Done r;
  handed_are = refl;
  put = (tt, tt);
}
to_return puts of size s st hs last end r (Leads.goes _ e later _ answer gs n h own more) =
    let rest : Returns puts of size s later gs end = to_return puts of size s later gs last end r more in
    record {
      events = e ∷ rest.events;
      answers = answer ∷ rest.answers;
      own = IsToReturn.goes_on e rest.events own.0 own.1 own.2 rest.own;
      legal = play_first size st e rest.events later answer n ∙ ap (λ o. with_answer answer o) rest.legal;
      handed_are = flat_map-cons (λ a. option_to_list (handed_value a)) answer rest.answers ∙ ap (λ o. option_to_list o ++ handed rest.answers) h ∙ rest.handed_are;
      put = (put_none puts of e answer h, rest.put);
    }
to_return puts of size s st hs last end r (Leads.hands _ ns later _ v gs n put more) =
    let rest : Returns puts of size s later gs end = to_return puts of size s later gs last end r more in
    record {
      events = Hand s ns ∷ rest.events;
      answers = Handed v ∷ rest.answers;
      own = IsToReturn.goes_on (Hand s ns) rest.events refl refl refl rest.own;
      legal = play_first size st (Hand s ns) rest.events later (Handed v) n ∙ ap (λ o. with_answer (Handed v) o) rest.legal;
      handed_are = flat_map-cons (λ a. option_to_list (handed_value a)) (Handed v) rest.answers ∙ ap (λ (l : List ℕ). v ∷ l) rest.handed_are;
      put = (put, rest.put);
    }

-- what two lists put, one after the other
pub put_append : {T R X : Type 0} (puts : R → T → List T) (of : Naming T R X) (size : ℕ) (st middle : State) (es fs : List Event) (first last : List Answer) → play size st es ≡ Some (middle, first) → ArePutFor puts of es first → ArePutFor puts of fs last
    → ArePutFor puts of (es ++ fs) (first ++ last)
put_append puts of size st middle [] fs first last h p q = subst (λ (l : List Answer). ArePutFor puts of fs (l ++ last)) (sym (play_none size st middle first h).1) q
put_append puts of size st middle (e ∷ es) fs first last h p q =
    let one : First size st e es middle first = first_of size st e es middle first h in
    let all : ArePutFor puts of (e ∷ es) (one.answer ∷ one.rest) = subst (λ (l : List Answer). ArePutFor puts of (e ∷ es) l) one.all p in
    subst (λ (l : List Answer). ArePutFor puts of (e ∷ (es ++ fs)) (l ++ last)) (sym one.all) (all.0, put_append puts of size one.later middle es fs one.rest last one.legal all.1 q)
