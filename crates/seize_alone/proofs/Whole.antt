-- A whole call, as the list has it, where its pass is alone: its events are those of a job, which the machine plays, and what it handed
-- goes with what the list says.
--     AllServe puts of by handed     the numbers that were put with each value stand for what its reclaimer puts
--     EachSaid log handed            the list says these words of what was put
--     StaysReady pass ready     it is the same pass, with which nothing was made
--     Whole pass pass' s event words had had'     the call of slot s, from the event with which it begins, which says these words, to its
--                                return
use Rattle.std.proofs.Common.{◌≡◌, ℕ, ◌==◌, Bool, true, false, cond, filter, inl, inr, List, [], ◌∷◌, ◌++◌, Some, refl, sym, ap, subst, ◌∙◌, append_assoc, append-nil}
use mathlib.Core.List.{IsPrefix}
use base.Growing.{prefix_trans}
use Rattle.seize_machine.specs.Machine.State as machine
use Rattle.seize_machine.specs.Machine.Event.{Event, Take, Give, Enter, Begin, Put, ReadHead, Detach, Insert, AddCount, SwapOut, SubCount, Hand, Return, ReadLink, ExchangeLink, event_slot}
use Rattle.seize_machine.specs.Machine.History.{done_by, handed as handed_by, is_link_event}
use Rattle.seize_machine.specs.Machine.Next.{next}
use Rattle.seize_machine.specs.declared.machine.event.Answer.{Answer}
use Rattle.seize_machine.specs.declared.machine.event.Answer.TheVariants.{Count, Done, Handed, Head, Illegal, Link}
use Rattle.seize_machine.specs.declared.machine.event.Job.{Job}
use Rattle.seize_machine.specs.declared.machine.event.Job.TheVariants.{Flush as FlushJob, Gather as GatherJob, Retire as RetireJob}
use Rattle.seize_machine.proofs.Facts.{Step, step_of}
use Rattle.seize_model.specs.Waiting.Further.{put_by}
use Rattle.seize_model.specs.Agreement.Events.{ArePutBy, IsPutBy, IsToReturn, is_return}
use Rattle.seize_model.specs.Agreement.Play.{play}
use Rattle.seize_model.specs.Agreement.Shows.{StandFor}
use Rattle.seize_book.specs.Adding.{deed_with_words, private}
use Rattle.seize_book.specs.Book.{IsLegalList, after, with_answers}
use Rattle.seize_book.specs.Entry.{Deed, Entry, Made, Use, Used, maker, timed_deed}
use Rattle.seize_book.specs.Kept.{AllTold, IsTold, SaysKept, retires_by}
use Rattle.seize_book.specs.Passes.{IsSamePass, events_by, events_in}
use Rattle.seize_book.specs.Slots.{AddsEvent, slot_number}
use Rattle.seize_book.specs.Tokens.{IsSole, start}
use Rattle.seize_book.specs.declared.book.pass.Pass.{Pass}
use Rattle.seize_book.specs.declared.book.slot_key.SlotKey.{SlotKey}
use Rattle.seize_book.specs.declared.book.value_keys.ValueKeys.{ValueKeys}
use Rattle.seize_book.proofs.Facts.{all_told_append, all_told_grow, same_twice}
use Rattle.seize_words.proofs.Facts.{deeds_grew, seen_grows}
use Rattle.seize_calls.specs.Alone.{AddsAlone, Onward}
use Rattle.seize_calls.specs.Calls.{BeginsSo, Flushes, Leaves, Rests, Resumes, RetiresOne, Returns}
use Rattle.seize_calls.specs.Handing.{Had, Handings, HasHad, values_handed}
use Rattle.seize_calls.specs.Settling.{CallState, done_event}
use Rattle.seize_calls.specs.Walking.{handed_in, steps}
use Rattle.seize_calls.proofs.Alone.{alone_none, alone_noted, alone_twice}
use Rattle.seize_calls.proofs.Events.{same_done}
use Rattle.seize_calls.proofs.Handed.{had_more, handed_append}
use Rattle.seize_calls.proofs.Leaving.{left_made}
use Rattle.seize_calls.proofs.Onwards.{round_on, settles_on}
use Rattle.seize_alone.proofs.Work.{AllWork, IsWork, answers_made, events_made, hand_of, hands_append, hands_of, puts_of, sized_so, their_values, to_return, work_append}
use Rattle.seize_alone.proofs.Played.{play_alone}
use Rattle.seize_alone.proofs.Segments.{Segment, drained, joined, moved, rounded, settled, steps_pairs, steps_work}

abbrev pub AllServe : {T R : Type 0} → (R → T → List T) → (ℕ → T) → (ℕ → R) → Handings → Type 0
AllServe puts of by [] = Unit {0}
AllServe puts of by (h ∷ handed) = StandFor of by h.1 (put_by puts (of h.0, by h.0)) × AllServe puts of by handed

abbrev pub EachSaid : List Entry → Handings → Type 0
EachSaid log [] = Unit {0}
EachSaid log (h ∷ handed) = ((v k : ℕ) → SaysKept h.1 h.2 v k → IsTold log v k) × EachSaid log handed

abbrev first_pair : Handings → ℕ × List ℕ × List ℕ
first_pair [] = (0, [], [])
first_pair (p ∷ ps) = p

abbrev other_pairs : Handings → Handings
other_pairs [] = []
other_pairs (p ∷ ps) = ps

-- what the list says of what was put

abbrev AllSaid : List Entry → List (Deed × Answer) → Type 0
AllSaid log [] = Unit {0}
AllSaid log (a ∷ made) = ((v k : ℕ) → SaysKept (retires_by a.0.event) a.0.kepts v k → IsTold log v k) × AllSaid log made

said_on : (e : Entry) (log : List Entry) (made : List (Deed × Answer)) → AllSaid log made → AllSaid (e ∷ log) made
said_on e log [] all = tt
said_on (Made d) log (a ∷ made) all = ((λ v k says. inr (all.0 v k says)), said_on (Made d) log made all.1)
said_on (Used u) log (a ∷ made) all = ((λ v k says. all.0 v k says), said_on (Used u) log made all.1)

said_one : (log : List Entry) (d : Deed) (answer : Answer) (rest : List (Entry × Answer)) → AllSaid log (events_in rest) → (b : Bool) → AllSaid (Made d ∷ log) (events_in (cond b ((Made d, answer) ∷ rest) rest))
said_one log d answer rest all true = ((λ v k says. inl says), said_on (Made d) log (events_in rest) all)
said_one log d answer rest all false = said_on (Made d) log (events_in rest) all

said_use : (log : List Entry) (u : Use) (rest : List (Entry × Answer)) → AllSaid log (events_in rest) → (b : Bool) → AllSaid (Used u ∷ log) (events_in (cond b ((Used u, Done) ∷ rest) rest))
said_use log u rest all true = said_on (Used u) log (events_in rest) all
said_use log u rest all false = said_on (Used u) log (events_in rest) all

said_all : (st : machine.State) (p : ℕ) (log : List Entry) → AllSaid log (events_in (filter (λ a. maker a.0 == p) (with_answers st log)))
said_all st p [] = tt
said_all st p (Made d ∷ log) = said_one log d (done_by next st (timed_deed d)).1 (filter (λ a. maker a.0 == p) (with_answers (done_by next st (timed_deed d)).0 log)) (said_all (done_by next st (timed_deed d)).0 p log) (d.pass == p)
said_all st p (Used u ∷ log) = said_use log u (filter (λ a. maker a.0 == p) (with_answers st log)) (said_all st p log) (u.pass == p)

said_last : (log : List Entry) (a b : List (Deed × Answer)) → AllSaid log (a ++ b) → AllSaid log b
said_last log [] b all = all
said_last log (x ∷ a) b all = said_last log a b all.1

puts_said : (log : List Entry) (e : Event) (kepts : List ℕ) → ((v k : ℕ) → SaysKept (retires_by e) kepts v k → IsTold log v k) → (v k : ℕ) → SaysKept (puts_of e) kepts v k → IsTold log v k
puts_said log (Hand s ns) kepts all v k says = all v k says
puts_said log (Take n) kepts all v k says = absurd says
puts_said log (Give n) kepts all v k says = absurd says
puts_said log (Enter n) kepts all v k says = absurd says
puts_said log (Begin s job) kepts all v k says = absurd says
puts_said log (Put s) kepts all v k says = absurd says
puts_said log (ReadHead s n) kepts all v k says = absurd says
puts_said log (Detach s) kepts all v k says = absurd says
puts_said log (Insert s m ends) kepts all v k says = absurd says
puts_said log (AddCount s) kepts all v k says = absurd says
puts_said log (SwapOut s) kepts all v k says = absurd says
puts_said log (SubCount s) kepts all v k says = absurd says
puts_said log (Return s) kepts all v k says = absurd says
puts_said log (ReadLink s l) kepts all v k says = absurd says
puts_said log (ExchangeLink s l x) kepts all v k says = absurd says

each_one : (log : List Entry) (d : Deed) (answer : Answer) (rest : Handings) → ((v k : ℕ) → SaysKept (retires_by d.event) d.kepts v k → IsTold log v k) → EachSaid log rest → EachSaid log (hand_of d answer rest)
each_one log d Done rest all each = each
each_one log d (Head found) rest all each = each
each_one log d (Count count) rest all each = each
each_one log d (Handed v) rest all each = (puts_said log d.event d.kepts all, each)
each_one log d (Link value) rest all each = each
each_one log d Illegal rest all each = each

each_said : (log : List Entry) (made : List (Deed × Answer)) → AllSaid log made → EachSaid log (hands_of made)
each_said log [] all = tt
each_said log (a ∷ made) all = each_one log a.0 a.1 (hands_of made) all.0 (each_said log made all.1)

module _ {T R : Type 0} (puts : R → T → List T) (of : ℕ → T) (by : ℕ → R) where
  by_event : (e : Event) (answer : Answer) → ((v : ℕ) → answer ≡ Handed v → StandFor of by (puts_of e) (put_by puts (of v, by v))) → IsPutBy puts of by e answer
  by_event (Hand s ns) (Handed v) h = h v refl
  by_event (Hand s ns) Done h = tt
  by_event (Hand s ns) (Head found) h = tt
  by_event (Hand s ns) (Count count) h = tt
  by_event (Hand s ns) (Link value) h = tt
  by_event (Hand s ns) Illegal h = tt
  by_event (Take n) answer h = tt
  by_event (Give n) answer h = tt
  by_event (Enter n) answer h = tt
  by_event (Begin s job) answer h = tt
  by_event (Put s) answer h = tt
  by_event (ReadHead s n) answer h = tt
  by_event (Detach s) answer h = tt
  by_event (Insert s m ends) answer h = tt
  by_event (AddCount s) answer h = tt
  by_event (SwapOut s) answer h = tt
  by_event (SubCount s) answer h = tt
  by_event (Return s) answer h = tt
  by_event (ReadLink s l) answer h = tt
  by_event (ExchangeLink s l x) answer h = tt

  abbrev Served : List (Deed × Answer) → Type 0
  Served made = (handed : Handings) → hands_of made ≡ handed → AllServe puts of by handed → ArePutBy puts of by (events_made made) (answers_made made)

  serve_at : (e : Deed) (answer : Answer) (made : List (Deed × Answer)) → Served made → (handed : Handings) → hand_of e answer (hands_of made) ≡ handed → AllServe puts of by handed
      → IsPutBy puts of by e.event answer × ArePutBy puts of by (events_made made) (answers_made made)
  serve_at e (Handed v) made rest [] is all = absurd (cc)
  serve_at e (Handed v) made rest (h ∷ handed) is all = (
    by_event e.event (Handed v) (λ w same.
        let one : (v, puts_of e.event, e.kepts) ≡ h = ap first_pair is in
        let its : w ≡ h.0 = handed_same w v (sym same) ∙ ap (λ (p : ℕ × List ℕ × List ℕ). p.0) one in
        subst (λ (t : ℕ × List ℕ). StandFor of by t.1 (put_by puts (of t.0, by t.0))) (λ i. (sym its i, sym (ap (λ (p : ℕ × List ℕ × List ℕ). p.1) one) i)) all.0),
    rest handed (ap other_pairs is) all.1,
  )
    where
      value_in : Answer → ℕ
      value_in (Handed x) = x
      value_in _ = 0

      handed_same : (w v : ℕ) → Handed w ≡ Handed v → w ≡ v
      handed_same w v e = ap value_in e
  serve_at e Done made rest handed is all = (by_event e.event Done (λ v same. absurd (cc)), rest handed is all)
  serve_at e (Head found) made rest handed is all = (by_event e.event (Head found) (λ v same. absurd (cc)), rest handed is all)
  serve_at e (Count count) made rest handed is all = (by_event e.event (Count count) (λ v same. absurd (cc)), rest handed is all)
  serve_at e (Link value) made rest handed is all = (by_event e.event (Link value) (λ v same. absurd (cc)), rest handed is all)
  serve_at e Illegal made rest handed is all = (by_event e.event Illegal (λ v same. absurd (cc)), rest handed is all)

  served : (made : List (Deed × Answer)) → Served made
  served [] handed is all = tt
  served (a ∷ made) handed is all = serve_at a.0 a.1 made (served made) handed is all

-- A whole call: its beginning, its work, and its return.

pub record Whole (pass pass' : Pass) (s : ℕ) (event : Event) (words : List ℕ) (had had' : Had) : Type 0 where
  pub work : List (Deed × Answer)
  pub all_work : AllWork pass.size s work
  pub made : events_by pass' ≡ events_by pass ++ (deed_with_words pass event words, Done) ∷ (work ++ done_event pass (Return s))
  pub handed : Handings
  pub kepts : List ℕ
  pub hands : hands_of work ≡ handed
  pub has_had : HasHad handed kepts had had'
  pub told : AllTold pass'.seen (values_handed handed) kepts
  pub grows : IsPrefix pass.seen pass'.seen
  pub same : IsSamePass pass pass'
  pub alone : AddsAlone pass pass'

module _ {pass pass' : Pass} {s : ℕ} {event : Event} {words : List ℕ} {had had' : Had} (w : Whole pass pass' s event words had had') where
  abbrev pub all_made : List (Deed × Answer)
  all_made = (deed_with_words pass event words, Done) ∷ (w.work ++ done_event pass (Return s))

  pub all_hands : hands_of all_made ≡ w.handed
  all_hands = hands_append w.work (done_event pass (Return s)) ∙ append-nil (hands_of w.work) ∙ w.hands

  all_said : AllSaid pass'.seen all_made
  all_said = said_last pass'.seen (events_by pass) all_made (subst (AllSaid pass'.seen) w.made (said_all (start pass'.name) pass'.id pass'.seen))

  -- what the list says of what was put, and of what the call retires
  pub whole_said : EachSaid pass'.seen w.handed
  whole_said = subst (EachSaid pass'.seen) all_hands (each_said pass'.seen all_made all_said)

  pub begin_said : (v k : ℕ) → SaysKept (retires_by event) words v k → IsTold pass'.seen v k
  begin_said = all_said.0

  -- the event with which it begins, and all to the return
  pub whole_events : (es : List Event) × (events_made all_made ≡ event ∷ es) × IsToReturn s es
  whole_events = (events_made (w.work ++ done_event pass (Return s)), refl, to_return pass.size s pass w.work w.all_work)

  pub whole_played : IsSole pass.id → IsLegalList (start pass'.name) pass'.seen
      → play pass.size (after (start pass.name) pass.seen) (events_made all_made) ≡ Some (after (start pass'.name) pass'.seen, answers_made all_made)
  whole_played sole legal = play_alone pass pass' all_made pass.size w.same w.alone sole w.made legal (refl, sized_so pass.size s pass w.work refl w.all_work)

  pub whole_handed : handed_by (answers_made all_made) ≡ values_handed w.handed
  whole_handed = their_values all_made ∙ ap values_handed all_hands

  pub whole_put : {T R : Type 0} (puts : R → T → List T) (of : ℕ → T) (by : ℕ → R) → AllServe puts of by w.handed → ArePutBy puts of by (events_made all_made) (answers_made all_made)
  whole_put puts of by serve = served puts of by all_made w.handed all_hands serve

-- from what its parts made
module _ (key : SlotKey) (pass : Pass) (job : Job) (words : List ℕ) (had : Had) (key' : SlotKey) (pass' : Pass) (keys keys' : ValueKeys) (had' : Had) (begun ended_at : CallState)
    (begins : BeginsSo key pass job words keys had begun) (seg : Segment begun.pass.size (slot_number begun.key) begun.pass ended_at.pass begun.had ended_at.had)
    (returns : Returns ended_at key' pass' keys' had') (rests : Rests key pass key' pass' keys') where
  abbrev its : Segment pass.size (slot_number key) begun.pass ended_at.pass had ended_at.had
  its = subst (λ (h : Had). Segment pass.size (slot_number key) begun.pass ended_at.pass h ended_at.had) begins.had_none (moved begins.begins.keeps.on.same.2 begins.begins.keeps.on.its.1 seg)

  abbrev drained_same : IsSamePass pass ended_at.pass
  drained_same = (sym returns.keeps.on.same.0 ∙ rests.same.0, sym returns.keeps.on.same.1 ∙ rests.same.1, sym returns.keeps.on.same.2 ∙ rests.same.2)

  abbrev returned : List (Deed × Answer)
  returned = done_event pass (Return (slot_number key))

  abbrev begin : Deed
  begin = deed_with_words pass (Begin (slot_number key) job) words

  abbrev ended : events_by pass' ≡ events_by ended_at.pass ++ returned
  ended = returns.made ∙ ap (λ (log : List (Deed × Answer)). events_by ended_at.pass ++ log) (same_done pass ended_at.pass drained_same Return (slot_number key) (slot_number ended_at.key) (sym returns.keeps.on.its.1 ∙ rests.its.1))

  pub whole : Whole pass pass' (slot_number key) (Begin (slot_number key) job) words had had'
  whole = record {
    work = its.made;
    all_work = its.work;
    made = ended ∙ ap (λ (log : List (Deed × Answer)). log ++ returned) (its.events ∙ ap (λ (log : List (Deed × Answer)). log ++ its.made) begins.begins.made)
        ∙ append_assoc (events_by pass ++ (begin, Done) ∷ []) its.made returned ∙ append_assoc (events_by pass) ((begin, Done) ∷ []) (its.made ++ returned);
    handed = its.handed;
    kepts = its.kepts;
    hands = its.hands;
    has_had = subst (λ (h : Had). HasHad its.handed its.kepts had h) (sym returns.had_none) its.has_had;
    told = all_told_grow ended_at.pass.seen pass'.seen (values_handed its.handed) its.kepts returns.keeps.on.grows its.told;
    grows = rests.grows;
    same = rests.same;
    alone = rests.alone;
  }

pub retired_whole : {key : SlotKey} {pass : Pass} {v kept : ℕ} {keys : ValueKeys} {had : Had} {key' : SlotKey} {pass' : Pass} {keys' : ValueKeys} {had' : Had} {retired : Bool} → RetiresOne key pass v kept keys had key' pass' keys' had' retired
    → Whole pass pass' (slot_number key) (Begin (slot_number key) (RetireJob v)) (kept ∷ []) had had'
retired_whole {key} {pass} {v} {kept} {keys} {had} {key'} {pass'} {keys'} {had'} {retired} r =
    let on : Onward r.begun.key r.begun.pass r.settled.key r.settled.pass = round_on r.begun v kept r.settled retired r.drains_one in
    whole key pass (RetireJob v) (kept ∷ []) had key' pass' keys keys' had' r.begun r.ends.drained r.begins (joined (rounded r.begun v kept r.settled retired r.drains_one) (moved on.same.2 on.its.1 (drained r.settled r.ends.drained r.ends.drains.drains))) r.ends.returns r.rests

pub flushed_whole : {key : SlotKey} {pass : Pass} {keys : ValueKeys} {had : Had} {key' : SlotKey} {pass' : Pass} {keys' : ValueKeys} {had' : Had} {retired : Bool} → Flushes key pass keys had key' pass' keys' had' retired
    → Whole pass pass' (slot_number key) (Begin (slot_number key) FlushJob) [] had had'
flushed_whole {key} {pass} {keys} {had} {key'} {pass'} {keys'} {had'} {retired} r =
    let on : Onward r.begun.key r.begun.pass r.settled.key r.settled.pass = settles_on 1 r.begun r.settled retired r.settles in
    whole key pass FlushJob [] had key' pass' keys keys' had' r.begun r.ends.drained r.begins (joined (settled 1 r.begun r.settled retired r.settles) (moved on.same.2 on.its.1 (drained r.settled r.ends.drained r.ends.drains.drains))) r.ends.returns r.rests

-- a leave, or a refresh
pub left_whole : {job : Job} {stays : Bool} {swap : Deed} {key : SlotKey} {pass : Pass} {keys : ValueKeys} {had : Had} {key' : SlotKey} {pass' : Pass} {keys' : ValueKeys} {had' : Had} → Leaves job stays swap key pass keys had key' pass' keys' had'
    → (swap.event ≡ SwapOut (slot_number key)) × (swap.size ≡ pass.size) → Whole pass pass' (slot_number key) (Begin (slot_number key) job) [] had had'
left_whole {job} {stays} {swap} {key} {pass} {keys} {had} {key'} {pass'} {keys'} {had'} r swaps = record {
  work = (swap, Done) ∷ (walk ++ seg.made);
  all_work = (is_work, work_append pass.size s walk seg.made (steps_work pass s r.walked) seg.work);
  made = r.ends.returns.made ∙ (λ i. seg.events i ++ same_done pass r.ends.drained.pass drained_same Return s (slot_number r.ends.drained.key) drained_its i)
      ∙ ap (λ (log : List (Deed × Answer)). (log ++ seg.made) ++ returned) (left_made r ∙ append_assoc (events_by pass ++ began) swapped walk)
      ∙ ap (λ (log : List (Deed × Answer)). log ++ returned) (append_assoc (events_by pass ++ began) (swapped ++ walk) seg.made)
      ∙ append_assoc (events_by pass ++ began) ((swapped ++ walk) ++ seg.made) returned ∙ append_assoc (events_by pass) began (((swapped ++ walk) ++ seg.made) ++ returned);
  handed = handed_in r.walked ++ seg.handed;
  kepts = r.kepts ++ seg.kepts;
  hands = hands_append walk seg.made ∙ (λ i. steps_pairs pass s r.walked i ++ seg.hands i);
  has_had = subst (λ (h : Had). HasHad (handed_in r.walked ++ seg.handed) (r.kepts ++ seg.kepts) had h) (sym r.ends.returns.had_none)
      (had_more (handed_in r.walked) seg.handed r.kepts seg.kepts had r.behind.had r.ends.drained.had r.has_had seg.has_had);
  told = subst (λ (vs : List ℕ). AllTold pass'.seen vs (r.kepts ++ seg.kepts)) (sym (handed_append (handed_in r.walked) seg.handed))
      (all_told_append pass'.seen (values_handed (handed_in r.walked)) r.kepts (values_handed seg.handed) seg.kepts
      (all_told_grow r.behind.pass.seen pass'.seen (values_handed (handed_in r.walked)) r.kepts (prefix_trans r.behind.pass.seen r.ends.drained.pass.seen pass'.seen on.grows r.ends.returns.keeps.on.grows) r.told)
      (all_told_grow r.ends.drained.pass.seen pass'.seen (values_handed seg.handed) seg.kepts r.ends.returns.keeps.on.grows seg.told));
  grows = r.rests.grows;
  same = r.rests.same;
  alone = r.rests.alone;
}
  where
    s : ℕ
    s = slot_number key

    on : Onward r.behind.key r.behind.pass r.ends.drained.key r.ends.drained.pass
    on = r.ends.drains.on

    drained_same : IsSamePass pass r.ends.drained.pass
    drained_same = (sym r.ends.returns.keeps.on.same.0 ∙ r.rests.same.0, sym r.ends.returns.keeps.on.same.1 ∙ r.rests.same.1, sym r.ends.returns.keeps.on.same.2 ∙ r.rests.same.2)

    drained_its : slot_number r.ends.drained.key ≡ s
    drained_its = sym r.ends.returns.keeps.on.its.1 ∙ r.rests.its.1

    seg : Segment pass.size s r.behind.pass r.ends.drained.pass r.behind.had r.ends.drained.had
    seg = moved (sym on.same.2 ∙ drained_same.2) (sym on.its.1 ∙ drained_its) (drained r.behind r.ends.drained r.ends.drains.drains)

    began : List (Deed × Answer)
    began = done_event pass (Begin s job)

    swapped : List (Deed × Answer)
    swapped = (swap, Done) ∷ []

    walk : List (Deed × Answer)
    walk = steps pass s r.walked

    returned : List (Deed × Answer)
    returned = done_event pass (Return s)

    is_work : IsWork pass.size s (swap, Done)
    is_work = subst (λ (t : Event × ℕ). (t.1 ≡ pass.size) × (event_slot t.0 ≡ s) × (is_link_event s t.0 ≡ false) × (is_return t.0 ≡ false)) (λ i. (sym swaps.0 i, sym swaps.1 i)) (refl, refl, refl, refl)

-- A call that began to attempt its batch with this event, and went on to its return.

-- the pass may be made ready in between
pub record StaysReady (pass ready : Pass) : Type 0 where
  pub same : IsSamePass pass ready
  pub none : events_by ready ≡ events_by pass
  pub grows : IsPrefix pass.seen ready.seen
  pub alone : AddsAlone pass ready

stays : (pass : Pass) → StaysReady pass pass
stays pass = record { same = (refl, refl, refl); none = refl; grows = ([], append-nil pass.seen); alone = alone_none pass }

take_done : (size s : ℕ) (st : machine.State) (o : machine.State × Answer) → Step size st (Take s) o → o.1 ≡ Done
take_done size s st _ (Step.took_new _ _ _) = refl
take_done size s st _ (Step.took_old _ _ _ _) = refl

gather_done : (size s : ℕ) (st : machine.State) (o : machine.State × Answer) → Step size st (Begin s GatherJob) o → o.1 ≡ Done
gather_done size s st _ (Step.gathered _ _ _ _ _) = refl
gather_done size s st _ (Step.begun_other _ _ _ _ _ _) = refl

pub resumed_whole : {key : SlotKey} {pass : Pass} {begun : SlotKey} {began ready : Pass} {keys : ValueKeys} {had : Had} {key' : SlotKey} {pass' : Pass} {keys' : ValueKeys} {had' : Had} (event : Event)
    → ((st : machine.State) (o : machine.State × Answer) → Step pass.size st event o → o.1 ≡ Done) → AddsEvent key pass begun began event → StaysReady began ready → Resumes begun ready keys had key' pass' keys' had' → Whole pass pass' (slot_number key) event [] had had'
resumed_whole {key} {pass} {begun} {began} {ready} {keys} {had} {key'} {pass'} {keys'} {had'} event always adds readies r = record {
  work = seg.made;
  all_work = seg.work;
  made = r.ends.returns.made ∙ (λ i. seg.events i ++ same_done pass r.ends.drained.pass drained_same Return s (slot_number r.ends.drained.key) drained_its i)
      ∙ ap (λ (log : List (Deed × Answer)). (log ++ seg.made) ++ returned) (readies.none ∙ deeds_grew pass began (private pass event) adds.0 adds.2.0 ∙ ap (λ (answer : Answer). events_by pass ++ (private pass event, answer) ∷ []) answers)
      ∙ append_assoc (events_by pass ++ first) seg.made returned ∙ append_assoc (events_by pass) first (seg.made ++ returned);
  handed = seg.handed;
  kepts = seg.kepts;
  hands = seg.hands;
  has_had = subst (λ (h : Had). HasHad seg.handed seg.kepts had h) (sym r.ends.returns.had_none) seg.has_had;
  told = all_told_grow r.ends.drained.pass.seen pass'.seen (values_handed seg.handed) seg.kepts r.ends.returns.keeps.on.grows seg.told;
  grows = prefix_trans pass.seen ready.seen pass'.seen (prefix_trans pass.seen began.seen ready.seen (seen_grows pass.name pass.id pass.seen began.seen (Made (private pass event)) adds.2.0) readies.grows) r.rests.grows;
  same = same;
  alone = alone_twice pass ready pass' readied (alone_twice pass began ready adds.0 (alone_noted pass began (Made (private pass event)) refl adds.2.0) readies.alone) r.rests.alone;
}
  where
    s : ℕ
    s = slot_number key

    readied : IsSamePass pass ready
    readied = same_twice pass began ready adds.0 readies.same

    at : CallState
    at = record { key = begun; pass = ready; batch = keys; queue = r.queue; had = had }

    on : Onward begun ready r.settled.key r.settled.pass
    on = settles_on 0 at r.settled r.retired r.settles

    same : IsSamePass pass pass'
    same = same_twice pass ready pass' readied r.rests.same

    drained_same : IsSamePass pass r.ends.drained.pass
    drained_same = (sym r.ends.returns.keeps.on.same.0 ∙ same.0, sym r.ends.returns.keeps.on.same.1 ∙ same.1, sym r.ends.returns.keeps.on.same.2 ∙ same.2)

    drained_its : slot_number r.ends.drained.key ≡ s
    drained_its = sym r.ends.returns.keeps.on.its.1 ∙ r.rests.its.1 ∙ adds.1.1

    seg : Segment pass.size s ready r.ends.drained.pass had r.ends.drained.had
    seg = moved readied.2 adds.1.1 (joined (settled 0 at r.settled r.retired r.settles) (moved on.same.2 on.its.1 (drained r.settled r.ends.drained r.ends.drains.drains)))

    answers : adds.2.0.answer ≡ Done
    answers = always (after (start pass.name) adds.2.0.before) (adds.2.0.later, adds.2.0.answer) (step_of pass.size (after (start pass.name) adds.2.0.before) event (adds.2.0.later, adds.2.0.answer) adds.2.0.does)

    first : List (Deed × Answer)
    first = done_event pass event

    returned : List (Deed × Answer)
    returned = done_event pass (Return s)

-- what was left is attempted as a number is taken, or is gathered

pub taken_ready : {key : SlotKey} {pass : Pass} {took : SlotKey} {taken ready : Pass} {keys : ValueKeys} {had : Had} {key' : SlotKey} {pass' : Pass} {keys' : ValueKeys} {had' : Had} → AddsEvent key pass took taken (Take (slot_number key)) → StaysReady taken ready
    → Resumes took ready keys had key' pass' keys' had' → Whole pass pass' (slot_number key) (Take (slot_number key)) [] had had'
taken_ready {key} {pass} adds readies r = resumed_whole (Take (slot_number key)) (take_done pass.size (slot_number key)) adds readies r

pub gathered_ready : {key : SlotKey} {pass : Pass} {begun : SlotKey} {began ready : Pass} {keys : ValueKeys} {had : Had} {key' : SlotKey} {pass' : Pass} {keys' : ValueKeys} {had' : Had} → AddsEvent key pass begun began (Begin (slot_number key) GatherJob) → StaysReady began ready
    → Resumes begun ready keys had key' pass' keys' had' → Whole pass pass' (slot_number key) (Begin (slot_number key) GatherJob) [] had had'
gathered_ready {key} {pass} adds readies r = resumed_whole (Begin (slot_number key) GatherJob) (gather_done pass.size (slot_number key)) adds readies r

pub taken_whole : {key : SlotKey} {pass : Pass} {took : SlotKey} {taken : Pass} {keys : ValueKeys} {had : Had} {key' : SlotKey} {pass' : Pass} {keys' : ValueKeys} {had' : Had} → AddsEvent key pass took taken (Take (slot_number key)) → Resumes took taken keys had key' pass' keys' had'
    → Whole pass pass' (slot_number key) (Take (slot_number key)) [] had had'
taken_whole {key = key} {taken = taken} adds r = taken_ready {key = key} adds (stays taken) r

pub gathered_whole : {key : SlotKey} {pass : Pass} {begun : SlotKey} {began : Pass} {keys : ValueKeys} {had : Had} {key' : SlotKey} {pass' : Pass} {keys' : ValueKeys} {had' : Had} → AddsEvent key pass begun began (Begin (slot_number key) GatherJob) → Resumes begun began keys had key' pass' keys' had'
    → Whole pass pass' (slot_number key) (Begin (slot_number key) GatherJob) [] had had'
gathered_whole {key = key} {began = began} adds r = gathered_ready {key = key} adds (stays began) r
