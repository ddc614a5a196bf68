-- The parts of a call as users see them: each is made of steps of its slot, in which the reclaimer put such blocks.
use Rattle.std.proofs.Common.{All, ◌≡◌, ℕ, ℤ, zero, suc, ◌==◌, Bool, true, false, map, List, [], ◌∷◌, ◌++◌, inl, inr, refl, sym, ap, subst, ◌∙◌, append_assoc, append-nil}
use Rattle.std.proofs.lemmas.List.Elements.{All-nil, All-cons}
use base.Growing.{prefix_trans}
use base.Stored.{Gv}
use mathlib.Core.List.{IsPrefix}
use Rattle.seize_machine.specs.Machine.Event.{AddCount, Begin, Detach, Enter, Event, ExchangeLink, Give, Hand, Insert, Put, ReadHead, ReadLink, Return, SubCount, SwapOut, Take}
use Rattle.seize_machine.specs.declared.machine.event.Answer.{Answer}
use Rattle.seize_machine.specs.declared.machine.event.Answer.TheVariants.{Count, Done, Handed, Head as Seen, Illegal, Link}
use Rattle.seize_book.specs.Adding.{private}
use Rattle.seize_book.specs.Entry.{Deed, Entry, maker}
use Rattle.seize_book.specs.Kept.{AllTold, IsTold, SaysKept}
use Rattle.seize_book.specs.Loans.{loan_number}
use Rattle.seize_book.specs.Passes.{events_by}
use Rattle.seize_book.specs.Slots.{active_of, slot_number}
use Rattle.seize_book.specs.Tokens.{start}
use Rattle.seize_book.specs.declared.book.pass.Pass.{Pass}
use Rattle.seize_words.proofs.Facts.{all_told_grow, told_later}
use Rattle.seize_words.specs.Chunks.{IsLentAs}
use Rattle.seize_calls.specs.Handing.{AreTheirs, Had, Handings, HasHad, values_handed}
use Rattle.seize_calls.specs.Inserts.{InsertTries, all_insert_events, insert_events, losses}
use Rattle.seize_calls.specs.Marks.{actives, readings}
use Rattle.seize_calls.specs.Settling.{CallState, Drains, DrainsOne, Settles, done_event}
use Rattle.seize_calls.specs.Walking.{counting, handed_in, handing, hands, steps}
use Rattle.seize_alone.specs.Gone.{PutAs, PutOne}
use Rattle.seize_parts.specs.Makes.{AreStepsOf, IsStepOf, made_with}
use Rattle.seize_alone.specs.Gone.{AreNamesOf}
use Rattle.seize_parts.specs.Puts.{PutBy}
use Rattle.seize_parts.proofs.Made.{as_made, made_grew}
use Rattle.seize_parts.proofs.OfKind.{told_at}

-- What a reclaimer had, and what it put with it.

abbrev One : Type 0
One = ℕ × Gv × List ℕ × List ℕ

-- of each of these it is so
abbrev pub AllOf : (One → Type 0) → Had → Type 0
AllOf Is [] = Unit {0}
AllOf Is (one ∷ had) = Is one × AllOf Is had

-- what the list says of the blocks that were put with each of these
abbrev EachSaid : List Entry → Handings → Type 0
EachSaid log [] = Unit {0}
EachSaid log (h ∷ handed) = ((u k : ℕ) → SaysKept h.1 h.2 u k → IsTold log u k) × EachSaid log handed

abbrev pub HandSo : (ℕ → List ℕ → Type 0) → Handings → Type 0
HandSo IsPut [] = Unit {0}
HandSo IsPut (h ∷ handed) = IsPut h.0 h.1 × HandSo IsPut handed

-- what is so of a value that was handed, and of what was put, where this list says of which kinds they are, and this holds of what the
-- reclaimer had
pub record Gives (IsPut : ℕ → List ℕ → Type 0) (final : List Entry) : Type 1 where
  pub Is : One → Type 0
  pub so : (h : ℕ × List ℕ × List ℕ) (one : One) → IsLentAs h.0 one.1 → one.2 ≡ h.1 → one.3 ≡ h.2 → Is one → IsTold final h.0 one.0
      → ((u k : ℕ) → SaysKept h.1 h.2 u k → IsTold final u k) → IsPut h.0 h.1

all_said : (vs : List ℕ) (kind : ℕ) (log : List Entry) → ((u k : ℕ) → SaysKept vs (map (λ _. kind) vs) u k → IsTold log u k) → All (λ u. IsTold log u kind) vs
all_said [] kind log said = All-nil _
all_said (v ∷ vs) kind log said = All-cons (λ u. IsTold log u kind) v vs (said v kind (inl (refl, refl))) (all_said vs kind log (λ u k so. said u k (inr so)))

-- the reclaimer of a collector puts what it says
pub puts_by : {T : Type 0} (code : T → Gv) (puts : ℕ → T → List T) (pass : Pass) → Gives (PutBy code puts pass) pass.seen
puts_by {T} code puts pass = record {
  Is = PutOne code puts;
  so = λ h one lent names words is told said. record {
    kind = one.0;
    is_of_kind = told;
    value = is.0;
    content = lent ∙ ap loan_number (sym is.1);
    put = subst (λ (vs : List ℕ). AreNamesOf code vs (puts one.0 is.0)) names is.2;
    same_kind = all_said h.1 one.0 pass.seen (subst (λ (ks : List ℕ). (u k : ℕ) → SaysKept h.1 ks u k → IsTold pass.seen u k) (sym words ∙ is.3 ∙ ap (λ (vs : List ℕ). map (λ _. one.0) vs) names) said);
  };
}

pub put_so : {T : Type 0} (code : T → Gv) (puts : ℕ → T → List T) (pass : Pass) (had : Had) → PutAs code puts had → AllOf (puts_by code puts pass).Is had
unfolding puts_by
put_so code puts pass [] put = tt
put_so code puts pass (one ∷ had) put = (put.0, put_so code puts pass had put.1)

-- whatever it puts
pub any_puts : (final : List Entry) → Gives (λ _ _. Unit {0}) final
any_puts final = record { Is = λ _. Unit {0}; so = λ h one lent names words is told said. tt }

pub any_put : (final : List Entry) (had : Had) → AllOf (any_puts final).Is had
unfolding any_puts
any_put final [] = tt
any_put final (one ∷ had) = (tt, any_put final had)

-- where it had nothing, nothing was handed
pub no_puts : (final : List Entry) → Gives (λ _ _. ⊥) final
no_puts final = record { Is = λ _. ⊥; so = λ h one lent names words is told said. is }

-- What the list says of blocks that were put: each hand that a pass made stands there.

said_append : (log : List Entry) (a b : Handings) → EachSaid log a → EachSaid log b → EachSaid log (a ++ b)
said_append log [] b one two = two
said_append log (h ∷ a) b one two = (one.0, said_append log a b one.1 two)

said_later : (log later : List Entry) (handed : Handings) → IsPrefix log later → EachSaid log handed → EachSaid later handed
said_later log later [] grows said = tt
said_later log later (h ∷ handed) grows said = (λ u k so. told_later log later u k grows (said.0 u k so), said_later log later handed grows said.1)

hands_said : (p pass : Pass) (s : ℕ) (before : List (Deed × Answer)) (handed : Handings) (after : List (Deed × Answer)) → events_by p ≡ before ++ (hands pass s handed ++ after) → EachSaid p.seen handed
hands_said p pass s before [] after is = tt
hands_said p pass s before (h ∷ handed) after is = (
  λ u k so. told_at (λ a. maker a.0 == p.id) (start p.name) p.seen before (hands pass s handed ++ after) (handing pass s h).0 (handing pass s h).1 u k so is,
  hands_said p pass s (before ++ handing pass s h ∷ []) handed after (is ∙ sym (append_assoc before (handing pass s h ∷ []) (hands pass s handed ++ after))),
)

pub walk_said : (p pass : Pass) (s : ℕ) (before : List (Deed × Answer)) (walked : List (ℤ × Handings)) → events_by p ≡ before ++ steps pass s walked → EachSaid p.seen (handed_in walked)
walk_said p pass s before [] is = tt
walk_said p pass s before (step ∷ walked) is =
    let count : List (Deed × Answer) = counting pass s step.0 ∷ [] in
    let all : events_by p ≡ (before ++ count) ++ (hands pass s step.1 ++ steps pass s walked) = is ∙ sym (append_assoc before count (hands pass s step.1 ++ steps pass s walked)) in
    said_append p.seen step.1 (handed_in walked) (hands_said p pass s (before ++ count) step.1 (steps pass s walked) all)
    (walk_said p pass s ((before ++ count) ++ hands pass s step.1) walked (all ∙ sym (append_assoc (before ++ count) (hands pass s step.1) (steps pass s walked))))

-- What hands nothing.

abbrev pub is_hand : Event → Bool
is_hand (Hand s puts) = true
is_hand _ = false

abbrev pub HandsNone : List (Event × Answer) → Type 0
HandsNone [] = Unit {0}
HandsNone (step ∷ steps) = (is_hand step.0 ≡ false) × HandsNone steps

abbrev HandNothing : List (Deed × Answer) → Type 0
HandNothing es = HandsNone (map as_made es)

hand_append : (a b : List (Deed × Answer)) → HandNothing a → HandNothing b → HandNothing (a ++ b)
hand_append [] b one two = two
hand_append (x ∷ a) b one two = (one.0, hand_append a b one.1 two)

pub hands_none_append : (a b : List (Event × Answer)) → HandsNone a → HandsNone b → HandsNone (a ++ b)
hands_none_append [] b one two = two
hands_none_append (x ∷ a) b one two = (one.0, hands_none_append a b one.1 two)

readings_hand : (pass : Pass) (s n : ℕ) (finds : List Bool) → HandNothing (readings pass s n finds)
readings_hand pass s n [] = tt
readings_hand pass s n (found ∷ finds) = (refl, readings_hand pass s (suc n) finds)

losses_hand : (pass : Pass) (s m lost : ℕ) → HandNothing (losses pass s m lost)
losses_hand pass s m zero = tt
losses_hand pass s m (suc lost) = hand_append (losses pass s m lost) _ (losses_hand pass s m lost) (refl, (refl, tt))

turn_hands : (pass : Pass) (s m lost : ℕ) (won : Bool) → HandNothing (insert_events pass s m (record { lost = lost; won = won }))
turn_hands pass s m lost true = hand_append (losses pass s m lost) _ (losses_hand pass s m lost) (refl, (refl, tt))
turn_hands pass s m lost false = hand_append (losses pass s m lost) _ (losses_hand pass s m lost) (refl, tt)

turns_hand : (pass : Pass) (s : ℕ) (ms : List ℕ) (turns : List InsertTries) → HandNothing (all_insert_events pass s ms turns)
turns_hand pass s [] turns = tt
turns_hand pass s (m ∷ ms) [] = tt
turns_hand pass s (m ∷ ms) (turn ∷ turns) =
    hand_append (insert_events pass s m turn) (all_insert_events pass s ms turns) (turn_hands pass s m turn.lost turn.won) (turns_hand pass s ms turns)

module _ {IsPut : ℕ → List ℕ → Type 0} {final : List Entry} (gives : Gives IsPut final) where
  abbrev pub AllHad : Had → Type 0
  AllHad had = AllOf gives.Is had

  had_apart : (a b : Had) → AllHad (a ++ b) → AllHad a × AllHad b
  had_apart [] b so = (tt, so)
  had_apart (one ∷ a) b so = let rest = had_apart a b so.1 in ((so.0, rest.0), rest.1)

  hand_apart : (a b : Handings) → HandSo IsPut (a ++ b) → HandSo IsPut a × HandSo IsPut b
  hand_apart [] b so = (tt, so)
  hand_apart (one ∷ a) b so = let rest = hand_apart a b so.1 in ((so.0, rest.0), rest.1)

  theirs_so : (handed : Handings) (kepts : List ℕ) (more : Had) → AreTheirs handed kepts more → AllHad more → AllTold final (values_handed handed) kepts → EachSaid final handed → HandSo IsPut handed
  theirs_so [] kepts more are so told said = tt
  theirs_so (h ∷ handed) [] more are so told said = absurd are
  theirs_so (h ∷ handed) (kept ∷ kepts) [] are so told said = absurd are
  theirs_so (h ∷ handed) (kept ∷ kepts) (one ∷ more) are so told said = (
    gives.so h one are.0.1 are.0.2 are.0.3 so.0 (subst (IsTold final h.0) (sym are.0.0) told.0) said.0,
    theirs_so handed kepts more are.1 so.1 told.1 said.1,
  )

  -- so with those that were handed, and with those before
  pub had_so : (log : List Entry) (handed : Handings) (kepts : List ℕ) (had had' : Had) → HasHad handed kepts had had' → AllHad had' → IsPrefix log final → AllTold log (values_handed handed) kepts → EachSaid log handed
      → HandSo IsPut handed × AllHad had
  had_so log handed kepts had had' has so known told said =
      let parts = had_apart had has.more (subst AllHad has.after so) in
      (theirs_so handed kepts has.more has.theirs parts.1 (all_told_grow log final (values_handed handed) kepts known told) (said_later log final handed known said), parts.0)

  -- Lists of steps.

  abbrev pub AreSteps : ℕ → List (Deed × Answer) → Type 0
  AreSteps s es = AreStepsOf IsPut s (map as_made es)

  pub steps_append : (s : ℕ) (a b : List (Deed × Answer)) → AreSteps s a → AreSteps s b → AreSteps s (a ++ b)
  steps_append s [] b one two = two
  steps_append s (x ∷ a) b one two = (one.0, steps_append s a b one.1 two)

  pub steps_of_append : (s : ℕ) (a b : List (Event × Answer)) → AreStepsOf IsPut s a → AreStepsOf IsPut s b → AreStepsOf IsPut s (a ++ b)
  steps_of_append s [] b one two = two
  steps_of_append s (x ∷ a) b one two = (one.0, steps_of_append s a b one.1 two)

  readings_steps : (pass : Pass) (s n : ℕ) (finds : List Bool) → AreSteps s (readings pass s n finds)
  readings_steps pass s n [] = tt
  readings_steps pass s n (found ∷ finds) = (refl, readings_steps pass s (suc n) finds)

  losses_steps : (pass : Pass) (s m lost : ℕ) → AreSteps s (losses pass s m lost)
  losses_steps pass s m zero = tt
  losses_steps pass s m (suc lost) = steps_append s (losses pass s m lost) _ (losses_steps pass s m lost) (refl, (refl, tt))

  turn_steps : (pass : Pass) (s m lost : ℕ) (won : Bool) → AreSteps s (insert_events pass s m (record { lost = lost; won = won }))
  turn_steps pass s m lost true = steps_append s (losses pass s m lost) _ (losses_steps pass s m lost) (refl, (refl, tt))
  turn_steps pass s m lost false = steps_append s (losses pass s m lost) _ (losses_steps pass s m lost) (refl, tt)

  turns_steps : (pass : Pass) (s : ℕ) (ms : List ℕ) (turns : List InsertTries) → AreSteps s (all_insert_events pass s ms turns)
  turns_steps pass s [] turns = tt
  turns_steps pass s (m ∷ ms) [] = tt
  turns_steps pass s (m ∷ ms) (turn ∷ turns) =
      steps_append s (insert_events pass s m turn) (all_insert_events pass s ms turns) (turn_steps pass s m turn.lost turn.won) (turns_steps pass s ms turns)

  hands_steps : (pass : Pass) (s : ℕ) (handed : Handings) → HandSo IsPut handed → AreSteps s (hands pass s handed)
  hands_steps pass s [] none = tt
  hands_steps pass s (one ∷ handed) none = ((refl, none.0), hands_steps pass s handed none.1)

  -- a walk, and what was handed in it
  pub walk_steps : (pass : Pass) (s : ℕ) (walked : List (ℤ × Handings)) → HandSo IsPut (handed_in walked) → AreSteps s (steps pass s walked)
  walk_steps pass s [] none = tt
  walk_steps pass s (step ∷ walked) none =
      let parts = hand_apart step.1 (handed_in walked) none in
      (refl, steps_append s (hands pass s step.1) (steps pass s walked) (hands_steps pass s step.1 parts.0) (walk_steps pass s walked parts.1))

  -- The parts.

  -- slot s made steps with the pass, and nothing else was made with it; an active slot handed nothing
  pub record Runs (active : Bool) (s : ℕ) (pass pass' : Pass) : Type 0 where
    pub steps : List (Event × Answer)
    pub its : AreStepsOf IsPut s steps
    pub under_guard : active ≡ true → HandsNone steps
    pub made : made_with pass' ≡ made_with pass ++ steps

  pub runs_by : (active : Bool) (s : ℕ) (pass pass' : Pass) (es : List (Deed × Answer)) → events_by pass' ≡ events_by pass ++ es → AreSteps s es → (active ≡ true → HandNothing es) → Runs active s pass pass'
  runs_by active s pass pass' es grew are none = record { steps = map as_made es; its = are; under_guard = none; made = made_grew pass pass' es grew }

  pub runs_then : {active : Bool} {s : ℕ} {p q r : Pass} → Runs active s p q → Runs active s q r → Runs active s p r
  runs_then {active} {s} {p} {q} {r} one two = record {
    steps = one.steps ++ two.steps;
    its = steps_of_append s one.steps two.steps one.its two.its;
    under_guard = λ on. hands_none_append one.steps two.steps (one.under_guard on) (two.under_guard on);
    made = two.made ∙ ap (λ (made : List (Event × Answer)). made ++ two.steps) one.made ∙ append_assoc (made_with p) one.steps two.steps;
  }

  -- between where a call stands first and where it stands then its slot made steps; and of what its reclaimer had before them it is so
  pub record Goes (a b : CallState) : Type 0 where
    pub its : slot_number b.key ≡ slot_number a.key
    pub active : active_of b.key ≡ active_of a.key
    pub runs : Runs (active_of a.key) (slot_number a.key) a.pass b.pass
    pub grows : IsPrefix a.pass.seen b.pass.seen
    pub before : AllHad a.had

  pub goes_then : {a b c : CallState} → Goes a b → Goes b c → Goes a c
  goes_then {a} {b} {c} one two = record {
    its = two.its ∙ one.its;
    active = two.active ∙ one.active;
    runs = runs_then one.runs (subst (λ (t : Bool × ℕ). Runs t.0 t.1 b.pass c.pass) (λ j. (one.active j, one.its j)) two.runs);
    grows = prefix_trans a.pass.seen b.pass.seen c.pass.seen one.grows two.grows;
    before = one.before;
  }

  -- the batch settles
  pub goes_settled : (least : ℕ) (a b : CallState) (retired : Bool) → Settles least a b retired → AllHad b.had → IsPrefix b.pass.seen final → Goes a b
  goes_settled least a b false stays so known = record {
    its = stays.on.its.1;
    active = stays.on.active;
    runs =
        runs_by (active_of a.key) (slot_number a.key) a.pass b.pass (readings a.pass (slot_number a.key) 0 stays.finds) stays.made (readings_steps a.pass (slot_number a.key) 0 stays.finds)
        (λ on. readings_hand a.pass (slot_number a.key) 0 stays.finds);
    grows = stays.on.grows;
    before = subst AllHad stays.had_none so;
  }
  goes_settled least a b true retires so known = record {
    its = retires.on.its.1;
    active = retires.on.active;
    runs = runs_by (active_of a.key) s a.pass b.pass (found ++ (detach ++ (turns ++ (add ++ given))))
        (retires.made ∙ append_assoc (((events_by a.pass ++ found) ++ detach) ++ turns) add given ∙ append_assoc ((events_by a.pass ++ found) ++ detach) turns (add ++ given)
        ∙ append_assoc (events_by a.pass ++ found) detach (turns ++ (add ++ given)) ∙ append_assoc (events_by a.pass) found (detach ++ (turns ++ (add ++ given))))
        (steps_append s found _ (readings_steps a.pass s 0 retires.finds) (refl, steps_append s turns _ (turns_steps a.pass s ms retires.turns) (refl, hands_steps a.pass s retires.handed had.0)))
        (λ on. hand_append found _ (readings_hand a.pass s 0 retires.finds) (refl, hand_append turns _ (turns_hand a.pass s ms retires.turns) (refl, subst (λ (l : Handings). HandNothing (hands a.pass s l)) (sym (retires.under_guard on)) tt)));
    grows = retires.on.grows;
    before = had.1;
  }
    where
      s : ℕ
      s = slot_number a.key

      ms : List ℕ
      ms = actives 0 retires.finds

      found : List (Deed × Answer)
      found = readings a.pass s 0 retires.finds

      detach : List (Deed × Answer)
      detach = done_event a.pass (Detach s)

      turns : List (Deed × Answer)
      turns = all_insert_events a.pass s ms retires.turns

      add : List (Deed × Answer)
      add = (private a.pass (AddCount s), Count retires.count) ∷ []

      given : List (Deed × Answer)
      given = hands a.pass s retires.handed

      said : EachSaid b.pass.seen retires.handed
      said = hands_said b.pass a.pass s ((((events_by a.pass ++ found) ++ detach) ++ turns) ++ add) retires.handed []
          (retires.made ∙ ap (λ (es : List (Deed × Answer)). ((((events_by a.pass ++ found) ++ detach) ++ turns) ++ add) ++ es) (sym (append-nil given)))

      had : HandSo IsPut retires.handed × AllHad a.had
      had = had_so b.pass.seen retires.handed _ a.had b.had retires.has_had so known retires.told said

  -- a value is put, and the batch settles
  pub goes_round : (a : CallState) (v kept : ℕ) (b : CallState) (retired : Bool) → DrainsOne a v kept b retired → AllHad b.had → IsPrefix b.pass.seen final → Goes a b
  goes_round a v kept b retired round so known = goes_then puts settles
    where
      settles : Goes round.full b
      settles = goes_settled _ round.full b retired round.settles so known

      puts : Goes a round.full
      puts = record {
        its = round.puts.on.its.1;
        active = round.puts.on.active;
        runs = runs_by (active_of a.key) (slot_number a.key) a.pass round.full.pass (done_event a.pass (Put (slot_number a.key))) round.puts.made (refl, tt) (λ on. (refl, tt));
        grows = round.puts.on.grows;
        before = subst AllHad round.same.1 settles.before;
      }

  -- the queue drains
  pub goes_drained : (a b : CallState) → Drains a b → AllHad b.had → IsPrefix b.pass.seen final → Goes a b
  goes_drained a _ Drains.over so known = record {
    its = refl;
    active = refl;
    runs = runs_by (active_of a.key) (slot_number a.key) a.pass a.pass [] (sym (append-nil (events_by a.pass))) tt (λ on. tt);
    grows = ([], append-nil a.pass.seen);
    before = so;
  }
  goes_drained a _ (Drains.goes_on b c queue v kept retired drains takes round) so known =
      let last = goes_round (record { key = b.key; pass = b.pass; batch = b.batch; queue = queue; had = b.had }) v kept c retired round so known in
      let on : Goes b c = record { its = last.its; active = last.active; runs = last.runs; grows = last.grows; before = last.before } in
      goes_then (goes_drained a b drains on.before (prefix_trans b.pass.seen c.pass.seen final on.grows known)) on

-- a step that hands nothing, whatever might be put
held_one : (IsPut : ℕ → List ℕ → Type 0) (s : ℕ) (event : Event) (answer : Answer) → IsStepOf IsPut s (event, answer) → is_hand event ≡ false → IsStepOf (λ _ _. ⊥) s (event, answer)
held_one IsPut s (Put k) answer is none = is
held_one IsPut s (ReadHead k n) answer is none = is
held_one IsPut s (Detach k) answer is none = is
held_one IsPut s (Insert k n end) answer is none = is
held_one IsPut s (AddCount k) answer is none = is
held_one IsPut s (SwapOut k) answer is none = is
held_one IsPut s (SubCount k) answer is none = is
held_one IsPut s (Hand k puts) answer is none = absurd (let e : true ≡ false = none in cc)
held_one IsPut s (Take k) answer is none = is
held_one IsPut s (Give k) answer is none = is
held_one IsPut s (Enter k) answer is none = is
held_one IsPut s (Begin k job) answer is none = is
held_one IsPut s (Return k) answer is none = is
held_one IsPut s (ReadLink k l) answer is none = is
held_one IsPut s (ExchangeLink k l exchange) answer is none = is

pub held_back : (IsPut : ℕ → List ℕ → Type 0) (s : ℕ) (steps : List (Event × Answer)) → AreStepsOf IsPut s steps → HandsNone steps → AreStepsOf (λ _ _. ⊥) s steps
held_back IsPut s [] are none = tt
held_back IsPut s (step ∷ steps) are none = (held_one IsPut s step.0 step.1 are.0 none.0, held_back IsPut s steps are.1 none.1)

-- and where none hands anything, each is such a step, whatever might be put
any_one : (IsPut : ℕ → List ℕ → Type 0) (s : ℕ) (event : Event) (answer : Answer) → IsStepOf (λ _ _. ⊥) s (event, answer) → IsStepOf IsPut s (event, answer)
any_one IsPut s (Put k) answer is = is
any_one IsPut s (ReadHead k n) answer is = is
any_one IsPut s (Detach k) answer is = is
any_one IsPut s (Insert k n end) answer is = is
any_one IsPut s (AddCount k) answer is = is
any_one IsPut s (SwapOut k) answer is = is
any_one IsPut s (SubCount k) answer is = is
any_one IsPut s (Hand k puts) (Handed v) is = absurd is.1
any_one IsPut s (Hand k puts) Done is = is
any_one IsPut s (Hand k puts) (Seen on) is = is
any_one IsPut s (Hand k puts) (Count n) is = is
any_one IsPut s (Hand k puts) (Link held) is = is
any_one IsPut s (Hand k puts) Illegal is = is
any_one IsPut s (Take k) answer is = is
any_one IsPut s (Give k) answer is = is
any_one IsPut s (Enter k) answer is = is
any_one IsPut s (Begin k job) answer is = is
any_one IsPut s (Return k) answer is = is
any_one IsPut s (ReadLink k l) answer is = is
any_one IsPut s (ExchangeLink k l exchange) answer is = is

pub any_steps : (IsPut : ℕ → List ℕ → Type 0) (s : ℕ) (steps : List (Event × Answer)) → AreStepsOf (λ _ _. ⊥) s steps → AreStepsOf IsPut s steps
any_steps IsPut s [] are = tt
any_steps IsPut s (step ∷ steps) are = (any_one IsPut s step.0 step.1 are.0, any_steps IsPut s steps are.1)
