-- What a part of a call makes, and what its reclaimer has then.
use Rattle.std.proofs.Common.{◌≡◌, ℕ, ℤ, suc, zero, Bool, true, false, if◌then◌else◌, List, [], ◌∷◌, ◌++◌, refl, sym, ap, subst, ◌∙◌, append_assoc, append-nil}
use mathlib.Core.List.{IsPrefix}
use base.Growing.{prefix_trans}
use Rattle.seize_machine.specs.Machine.Event.{AddCount, Detach, Put}
use Rattle.seize_machine.specs.Machine.Next.{is_zero}
use Rattle.seize_machine.specs.declared.machine.event.Answer.{Answer}
use Rattle.seize_machine.specs.declared.machine.event.Answer.TheVariants.{Count}
use Rattle.seize_book.specs.Adding.{private}
use Rattle.seize_book.specs.Entry.{Deed}
use Rattle.seize_book.specs.Kept.{AllTold, kepts_of}
use Rattle.seize_book.specs.Passes.{events_by}
use Rattle.seize_book.specs.Slots.{slot_number}
use Rattle.seize_book.specs.declared.book.pass.Pass.{Pass}
use Rattle.seize_book.proofs.Facts.{all_told_append, all_told_grow}
use Rattle.seize_calls.specs.Alone.{Onward}
use Rattle.seize_calls.specs.Handing.{Had, Handings, HasHad, values_handed}
use Rattle.seize_calls.specs.Inserts.{InsertTries, all_insert_events, insert_events, losses}
use Rattle.seize_calls.specs.Marks.{actives, readings}
use Rattle.seize_calls.specs.Settling.{CallState, Drains, DrainsOne, Settles, done_event}
use Rattle.seize_calls.specs.Walking.{handed_in, hands, steps}
use Rattle.seize_calls.proofs.Handed.{had_more, had_none, handed_append}
use Rattle.seize_calls.proofs.Alone.{onward_none, onward_twice}
use Rattle.seize_calls.proofs.Onwards.{round_on}
use Rattle.seize_alone.proofs.Work.{AllWork, hands_append, hands_of, work_append}

-- from one pass to the other, by slot s at this size
pub record Segment (size s : ℕ) (pass pass' : Pass) (had had' : Had) : Type 0 where
  pub made : List (Deed × Answer)
  pub events : events_by pass' ≡ events_by pass ++ made
  pub work : AllWork size s made
  pub handed : Handings
  pub kepts : List ℕ
  pub hands : hands_of made ≡ handed
  pub has_had : HasHad handed kepts had had'
  pub grows : IsPrefix pass.seen pass'.seen
  pub told : AllTold pass'.seen (values_handed handed) kepts

pub joined : {size s : ℕ} {one two three : Pass} {had1 had2 had3 : Had} → Segment size s one two had1 had2 → Segment size s two three had2 had3 → Segment size s one three had1 had3
joined {size} {s} {one} {two} {three} {had1} {had2} {had3} a b = record {
  made = a.made ++ b.made;
  events = b.events ∙ ap (λ (log : List (Deed × Answer)). log ++ b.made) a.events ∙ append_assoc (events_by one) a.made b.made;
  work = work_append size s a.made b.made a.work b.work;
  handed = a.handed ++ b.handed;
  kepts = a.kepts ++ b.kepts;
  hands = hands_append a.made b.made ∙ (λ i. a.hands i ++ b.hands i);
  has_had = had_more a.handed b.handed a.kepts b.kepts had1 had2 had3 a.has_had b.has_had;
  grows = prefix_trans one.seen two.seen three.seen a.grows b.grows;
  told = subst (λ (vs : List ℕ). AllTold three.seen vs (a.kepts ++ b.kepts)) (sym (handed_append a.handed b.handed))
      (all_told_append three.seen (values_handed a.handed) a.kepts (values_handed b.handed) b.kepts (all_told_grow two.seen three.seen (values_handed a.handed) a.kepts b.grows a.told) b.told);
}

-- where no more was had
quiet : {size s : ℕ} {one two : Pass} {had had' : Had} (made : List (Deed × Answer)) → events_by two ≡ events_by one ++ made → AllWork size s made → hands_of made ≡ [] → IsPrefix one.seen two.seen → had' ≡ had
    → Segment size s one two had had'
quiet {size} {s} {one} {two} {had} {had'} made events work none grows same = record {
  made = made;
  events = events;
  work = work;
  handed = [];
  kepts = [];
  hands = none;
  has_had = subst (λ (h : Had). HasHad [] [] had h) (sym same) (had_none had);
  grows = grows;
  told = tt;
}

-- The parts.

readings_work : (pass : Pass) (s n : ℕ) (finds : List Bool) → AllWork pass.size s (readings pass s n finds)
readings_work pass s n [] = tt
readings_work pass s n (found ∷ finds) = ((refl, refl, refl, refl), readings_work pass s (suc n) finds)

readings_none : (pass : Pass) (s n : ℕ) (finds : List Bool) → hands_of (readings pass s n finds) ≡ []
readings_none pass s n [] = refl
readings_none pass s n (found ∷ finds) = readings_none pass s (suc n) finds

losses_work : (pass : Pass) (s m lost : ℕ) → AllWork pass.size s (losses pass s m lost)
losses_work pass s m zero = tt
losses_work pass s m (suc lost) = work_append pass.size s (losses pass s m lost) _ (losses_work pass s m lost) ((refl, refl, refl, refl), ((refl, refl, refl, refl), tt))

losses_none : (pass : Pass) (s m lost : ℕ) → hands_of (losses pass s m lost) ≡ []
losses_none pass s m zero = refl
losses_none pass s m (suc lost) = hands_append (losses pass s m lost) _ ∙ ap (λ (l : Handings). l ++ []) (losses_none pass s m lost)

turn_work : (pass : Pass) (s m lost : ℕ) (won : Bool) → AllWork pass.size s (insert_events pass s m (record { lost = lost; won = won }))
turn_work pass s m lost true = work_append pass.size s (losses pass s m lost) _ (losses_work pass s m lost) ((refl, refl, refl, refl), ((refl, refl, refl, refl), tt))
turn_work pass s m lost false = work_append pass.size s (losses pass s m lost) _ (losses_work pass s m lost) ((refl, refl, refl, refl), tt)

turn_none : (pass : Pass) (s m lost : ℕ) (won : Bool) → hands_of (insert_events pass s m (record { lost = lost; won = won })) ≡ []
turn_none pass s m lost true = hands_append (losses pass s m lost) _ ∙ ap (λ (l : Handings). l ++ []) (losses_none pass s m lost)
turn_none pass s m lost false = hands_append (losses pass s m lost) _ ∙ ap (λ (l : Handings). l ++ []) (losses_none pass s m lost)

turns_work : (pass : Pass) (s : ℕ) (ms : List ℕ) (turns : List InsertTries) → AllWork pass.size s (all_insert_events pass s ms turns)
turns_work pass s [] turns = tt
turns_work pass s (m ∷ ms) [] = tt
turns_work pass s (m ∷ ms) (turn ∷ turns) = work_append pass.size s (insert_events pass s m turn) (all_insert_events pass s ms turns) (turn_work pass s m turn.lost turn.won) (turns_work pass s ms turns)

turns_none : (pass : Pass) (s : ℕ) (ms : List ℕ) (turns : List InsertTries) → hands_of (all_insert_events pass s ms turns) ≡ []
turns_none pass s [] turns = refl
turns_none pass s (m ∷ ms) [] = refl
turns_none pass s (m ∷ ms) (turn ∷ turns) = hands_append (insert_events pass s m turn) (all_insert_events pass s ms turns) ∙ (λ i. turn_none pass s m turn.lost turn.won i ++ turns_none pass s ms turns i)

hands_work : (pass : Pass) (s : ℕ) (handed : Handings) → AllWork pass.size s (hands pass s handed)
hands_work pass s [] = tt
hands_work pass s (h ∷ handed) = ((refl, refl, refl, refl), hands_work pass s handed)

hands_pairs : (pass : Pass) (s : ℕ) (handed : Handings) → hands_of (hands pass s handed) ≡ handed
hands_pairs pass s [] = refl
hands_pairs pass s (h ∷ handed) = ap (λ (ps : Handings). h ∷ ps) (hands_pairs pass s handed)

pub steps_work : (pass : Pass) (s : ℕ) (walked : List (ℤ × Handings)) → AllWork pass.size s (steps pass s walked)
steps_work pass s [] = tt
steps_work pass s (step ∷ walked) = ((refl, refl, refl, refl), work_append pass.size s (hands pass s step.1) (steps pass s walked) (hands_work pass s step.1) (steps_work pass s walked))

pub steps_pairs : (pass : Pass) (s : ℕ) (walked : List (ℤ × Handings)) → hands_of (steps pass s walked) ≡ handed_in walked
steps_pairs pass s [] = refl
steps_pairs pass s (step ∷ walked) = hands_append (hands pass s step.1) (steps pass s walked) ∙ (λ i. hands_pairs pass s step.1 i ++ steps_pairs pass s walked i)

-- The batch settles.

pub settled : (least : ℕ) (a b : CallState) (retired : Bool) → Settles least a b retired → Segment a.pass.size (slot_number a.key) a.pass b.pass a.had b.had
settled least a b false stays = quiet (readings a.pass (slot_number a.key) 0 stays.finds) stays.made (readings_work a.pass (slot_number a.key) 0 stays.finds) (readings_none a.pass (slot_number a.key) 0 stays.finds) stays.on.grows stays.had_none
settled least a b true goes = record {
  made = found ++ (detach ++ (turns ++ (add ++ given)));
  events = goes.made ∙ append_assoc (((events_by a.pass ++ found) ++ detach) ++ turns) add given ∙ append_assoc ((events_by a.pass ++ found) ++ detach) turns (add ++ given)
      ∙ append_assoc (events_by a.pass ++ found) detach (turns ++ (add ++ given)) ∙ append_assoc (events_by a.pass) found (detach ++ (turns ++ (add ++ given)));
  work = work_append size s found _ (readings_work a.pass s 0 goes.finds) ((refl, refl, refl, refl), work_append size s turns _ (turns_work a.pass s ms goes.turns) ((refl, refl, refl, refl), hands_work a.pass s goes.handed));
  handed = goes.handed;
  kepts = if is_zero goes.count then kepts_of a.batch else [];
  hands = hands_append found (detach ++ (turns ++ (add ++ given))) ∙ ap (λ (l : Handings). l ++ hands_of (turns ++ (add ++ given))) (readings_none a.pass s 0 goes.finds)
      ∙ hands_append turns (add ++ given) ∙ ap (λ (l : Handings). l ++ hands_of given) (turns_none a.pass s ms goes.turns) ∙ hands_pairs a.pass s goes.handed;
  has_had = goes.has_had;
  grows = goes.on.grows;
  told = goes.told;
}
  where
    size : ℕ
    size = a.pass.size

    s : ℕ
    s = slot_number a.key

    ms : List ℕ
    ms = actives 0 goes.finds

    found : List (Deed × Answer)
    found = readings a.pass s 0 goes.finds

    detach : List (Deed × Answer)
    detach = done_event a.pass (Detach s)

    turns : List (Deed × Answer)
    turns = all_insert_events a.pass s ms goes.turns

    add : List (Deed × Answer)
    add = (private a.pass (AddCount s), Count goes.count) ∷ []

    given : List (Deed × Answer)
    given = hands a.pass s goes.handed

-- at this size, of this slot
pub moved : {a b : Pass} {had had' : Had} {size size' s s' : ℕ} → size ≡ size' → s ≡ s' → Segment size s a b had had' → Segment size' s' a b had had'
moved {a} {b} {had} {had'} one two seg = subst (λ (t : ℕ × ℕ). Segment t.0 t.1 a b had had') (λ i. (one i, two i)) seg

pub rounded : (a : CallState) (v kept : ℕ) (b : CallState) (retired : Bool) → DrainsOne a v kept b retired → Segment a.pass.size (slot_number a.key) a.pass b.pass a.had b.had
rounded a v kept b retired r =
    joined
    (quiet (done_event a.pass (Put (slot_number a.key))) r.puts.made ((refl, refl, refl, refl), tt) refl r.puts.on.grows r.same.1)
    (moved r.puts.on.same.2 r.puts.on.its.1 (settled _ r.full b retired r.settles))

pub drains_on : (a b : CallState) → Drains a b → Onward a.key a.pass b.key b.pass
drains_on a _ Drains.over = onward_none a.key a.pass
drains_on a _ (Drains.goes_on b c queue v kept retired drains takes round) =
    onward_twice a.key b.key c.key a.pass b.pass c.pass (drains_on a b drains) (round_on (record { key = b.key; pass = b.pass; batch = b.batch; queue = queue; had = b.had }) v kept c retired round)

pub drained : (a b : CallState) → Drains a b → Segment a.pass.size (slot_number a.key) a.pass b.pass a.had b.had
drained a _ Drains.over = quiet [] (sym (append-nil (events_by a.pass))) tt refl ([], append-nil a.pass.seen) refl
drained a _ (Drains.goes_on b c queue v kept retired drains takes round) =
    let on = drains_on a b drains in
    joined (drained a b drains) (moved on.same.2 on.its.1 (rounded (record { key = b.key; pass = b.pass; batch = b.batch; queue = queue; had = b.had }) v kept c retired round))
