use Rattle.std.proofs.Common.{None, get_or, refl, sym, subst, ◌∙◌, arith}
use Rattle.std.proofs.lemmas.List.{get_or_default}
use Rattle.seize_model.specs.Waiting.State.{model_slot}
use Rattle.seize_book.specs.declared.book.pass.Pass.{Pass}
use Rattle.seize_calls.specs.Furthers.{further_in}
use Rattle.seize_calls.specs.Handing.{IsServed}
use Rattle.seize_alone.specs.Reclaiming.{last_guard_left}
use Rattle.seize_parts.proofs.Going.{goes_as, goes_none}
use Rattle.seize_parts.proofs.Outlined.{part_free, part_used}
use Rattle.seize_parts.proofs.Parting.{lie_none, lie_some, moved_none, moved_some}
use Rattle.seize_parts.proofs.Placed.{still_for}
use Rattle.seize_parts.proofs.Swept.{still_sole}
use Rattle.seize_parts.specs.Aparts.{Goes, IsIn, MayPart}
use Rattle.seize_parts.proofs.numbers.Numbers.part_at.Goals as goal

pub part-slot-requires : goal.part-slot-requires
part-slot-requires g c =
    let pass = c.args.pass.now in let n = c.args.n in let places = c.args.places.now.items in let held = c.requires.held.0 in
    let is = get_or_default places n None c.index_mut.result.now c.requires.held.1 ∙ sym c.index_mut.ensures.value ∙ sym c.take.ensures.value ∙ c.in-Some.is in
    let there = lie_some pass.name n (model_slot held.0 n) (get_or places n None) c.in-Some.place is held.4.1 in
    (omega arith, ((c.requires.pass.0, c.requires.pass.1), ((held.0, held.1, held.2, held.3, (held.4.0, there.0, (there.1, held.4.2 n c.in-Some.place is))), (c.requires.pass.2, c.requires.queue))))

pub keep-requires : goal.keep-requires
keep-requires g c =
    let same = c.part-slot.ensures.goes.same in let pass = c.args.pass.now in
    (omega arith, (c.requires.numbers, ((still_for c.args.words.now pass c.part-slot.new.pass c.requires.pass.0 same, still_sole pass c.part-slot.new.pass same c.requires.pass.1), c.part-slot.ensures.slot)))

pub returns-in-Some-clause-goes : goal.returns-in-Some-clause-goes
returns-in-Some-clause-goes g c =
    let W = g.W.Watch in let T = g.row.T in let puts = g.R.Puts.puts in let pass = c.args.pass.now in let n = c.args.n in let places = c.args.places.now.items in let place = c.in-Some.place in
    let is = get_or_default places n None c.index_mut.result.now c.requires.held.1 ∙ sym c.index_mut.ensures.value ∙ sym c.take.ensures.value ∙ c.in-Some.is in
    goes_as T.coded.code puts W.told
    (λ st may. let there = lie_some pass.name n (model_slot st n) (get_or places n None) place is may.1 in (may.0, there.0, (there.1, may.2 n place is)))
    (λ st may. sym (part_used st n (lie_some pass.name n (model_slot st n) (get_or places n None) place is may.1).0))
    (subst (λ (q : Pass). Goes T.coded.code puts W.told (IsIn pass n place) (λ st. last_guard_left st n) pass q (W.seen c.args.aside.now.watch.now) (W.seen c.part-slot.new.aside.watch.now) c.args.aside.now.queue c.part-slot.new.aside.queue) (sym c.keep.ensures.still) c.part-slot.ensures.goes)

pub returns-in-Some-clause-kept : goal.returns-in-Some-clause-kept
returns-in-Some-clause-kept g c =
    let n = c.args.n in let places = c.args.places.now.items in let kept = c.keep.ensures.kept in
    let is = get_or_default places n None c.index_mut.result.now c.requires.held.1 ∙ sym c.index_mut.ensures.value ∙ sym c.take.ensures.value ∙ c.in-Some.is in
    moved_some n places c.args.self.now.kept.items c.keep.new.self.kept.items c.in-Some.place kept.0 is kept.2 kept.1

pub returns-in_default-clause-kept : goal.returns-in_default-clause-kept
returns-in_default-clause-kept g c =
    let n = c.args.n in let places = c.args.places.now.items in
    let none = get_or_default places n None c.index_mut.result.now c.requires.held.1 ∙ sym c.index_mut.ensures.value ∙ sym c.take.ensures.value ∙ c.in_default.is in
    moved_none n places c.args.self.now.kept.items c.args.self.now.kept.items none refl

pub returns-in_default-clause-goes : goal.returns-in_default-clause-goes
returns-in_default-clause-goes g c =
    let W = g.W.Watch in let T = g.row.T in let puts = g.R.Puts.puts in let pass = c.args.pass.now in let n = c.args.n in let places = c.args.places.now.items in let queue = c.args.aside.now.queue in
    let none = get_or_default places n None c.index_mut.result.now c.requires.held.1 ∙ sym c.index_mut.ensures.value ∙ sym c.take.ensures.value ∙ c.in_default.is in
    goes_as T.coded.code puts W.told (λ st may. may) (λ st may. sym (part_free st n (lie_none pass.name n (model_slot st n) (get_or places n None) none may.1)))
    (goes_none T.coded.code puts W.told (MayPart pass n places) pass (W.seen c.args.aside.now.watch.now) queue (subst (IsServed (further_in queue)) c.requires.pass.0.0 c.requires.queue.0))
