use Rattle.std.proofs.Common.{[], lit<, sym, ap, ◌∙◌}
use Rattle.seize_book.specs.declared.book.pass.Pass.{Pass}
use Rattle.seize_calls.proofs.Laid.{lays_twice}
use Rattle.seize_calls.proofs.Leaving.{begun_last, has_left, of_still, out_on, swapped, walked_over}
use Rattle.seize_calls.proofs.Sole.{may_same}
use Rattle.seize_calls.proofs.Whole.{begun_out}
use Rattle.seize_calls.proofs.holder.Holder.leave_by.Goals as goal

-- The pass is as it was when the queue was made.

pub begin_out-requires-clause-book : goal.begin_out-requires-clause-book
begin_out-requires-clause-book g c = c.requires.holder.0.keyed.its ∙ sym (ap (λ (p : Pass). p.name) c.new-queue.ensures.1)

pub swap_out-word-requires : goal.swap_out-word-requires
swap_out-word-requires g c =
    let s = c.args.self.now in let pass = c.args.pass.now in let one = c.begin_out.new in let made = c.new-queue in
    let b = begun_out c.args.words.now s pass made.new.pass made.ensures.1 made.result made.ensures.0 c.requires.holder.0 one.key one.pass c.args.way.stays c.begin_out.ensures.noted in let keeps = b.begins.keeps in let last = c.requires.last in
    record {
      book = (b.under.holds.keyed.its, c.requires.head.0 ∙ sym keeps.on.same.0, c.requires.head.1 ∙ sym keeps.on.its.1);
      out = ([], b.stands);
      last = ((last.0.0 ∙ sym keeps.on.its.0, last.0.1 ∙ sym keeps.on.its.1, last.0.2), last.1 ∙ sym keeps.on.life);
    }

pub walk_all-requires : goal.walk_all-requires
walk_all-requires g c =
    let s = c.args.self.now in let pass = c.args.pass.now in let one = c.begin_out.new in let made = c.new-queue in let two = c.swap_out-word in let words = c.args.words.now in
    let b = begun_out words s pass made.new.pass made.ensures.1 made.result made.ensures.0 c.requires.holder.0 one.key one.pass c.args.way.stays c.begin_out.ensures.noted in
    let w = swapped words c.args.way.stays s pass made.result one.key one.pass b c.requires.holder.1.1 two.new.activation.life two.new.key two.new.pass two.ensures.noted c.args.way.head.now two.result (two.ensures.walks ([], b.stands)) c.requires.head.1 in
    (lit< tt, ((w.under, c.requires.serves.0), w.at))

pub finish-requires : goal.finish-requires
finish-requires g c =
    let s = c.args.self.now in let pass = c.args.pass.now in let one = c.begin_out.new in let made = c.new-queue in let two = c.swap_out-word in let words = c.args.words.now in
    let b = begun_out words s pass made.new.pass made.ensures.1 made.result made.ensures.0 c.requires.holder.0 one.key one.pass c.args.way.stays c.begin_out.ensures.noted in
    let w = swapped words c.args.way.stays s pass made.result one.key one.pass b c.requires.holder.1.1 two.new.activation.life two.new.key two.new.pass two.ensures.noted c.args.way.head.now two.result (two.ensures.walks ([], b.stands)) c.requires.head.1 in
    let walk = c.walk_all in let all = walk.ensures.walks.1 w.at in let may = g.M.Manner.may c.args.manner.now in (
      lit< tt,
      (
        (walk.ensures.stands.0, walked_over words c.args.way.stays two.new.activation.life s pass made.result two.new.key two.new.pass two.result w walk.new.self walk.new.queue walk.new.pass _ _ all),
        (walk.ensures.stands.1, may_same may two.new.pass walk.new.pass all.goes_on.0.on.same (may_same may pass two.new.pass w.swaps.same c.requires.serves.1)),
      ),
    )

pub returns-clause-slot : goal.returns-clause-slot
returns-clause-slot g c =
    let s = c.args.self.now in let pass = c.args.pass.now in let one = c.begin_out.new in let made = c.new-queue in let two = c.swap_out-word in let words = c.args.words.now in
    let b = begun_out words s pass made.new.pass made.ensures.1 made.result made.ensures.0 c.requires.holder.0 one.key one.pass c.args.way.stays c.begin_out.ensures.noted in
    let w = swapped words c.args.way.stays s pass made.result one.key one.pass b c.requires.holder.1.1 two.new.activation.life two.new.key two.new.pass two.ensures.noted c.args.way.head.now two.result (two.ensures.walks ([], b.stands)) c.requires.head.1 in
    let walk = c.walk_all in let end = c.finish in
    let on = out_on words c.args.way.stays two.new.activation.life s pass made.result two.new.key two.new.pass two.result w walk.new.self walk.new.queue walk.new.pass _ _ (walk.ensures.walks.1 w.at) end.new.self.key end.new.pass _ _ end.ensures.ends in
    of_still two.new.key end.new.self.key two.new.pass end.new.pass on two.new.activation two.ensures.slot

pub returns-clause-last : goal.returns-clause-last
returns-clause-last g c = λ stays.
    let s = c.args.self.now in let pass = c.args.pass.now in let one = c.begin_out.new in let made = c.new-queue in let two = c.swap_out-word in let words = c.args.words.now in
    let b = begun_out words s pass made.new.pass made.ensures.1 made.result made.ensures.0 c.requires.holder.0 one.key one.pass c.args.way.stays c.begin_out.ensures.noted in
    let w = swapped words c.args.way.stays s pass made.result one.key one.pass b c.requires.holder.1.1 two.new.activation.life two.new.key two.new.pass two.ensures.noted c.args.way.head.now two.result (two.ensures.walks ([], b.stands)) c.requires.head.1 in
    let walk = c.walk_all in let end = c.finish in
    let on = out_on words c.args.way.stays two.new.activation.life s pass made.result two.new.key two.new.pass two.result w walk.new.self walk.new.queue walk.new.pass _ _ (walk.ensures.walks.1 w.at) end.new.self.key end.new.pass _ _ end.ensures.ends in
    begun_last two.new.key end.new.self.key two.new.pass end.new.pass on two.new.activation w.under.holds.keyed.its w.sees (two.ensures.activation stays)

pub returns-clause-leaves : goal.returns-clause-leaves
returns-clause-leaves g c =
    let s = c.args.self.now in let pass = c.args.pass.now in let one = c.begin_out.new in let made = c.new-queue in let two = c.swap_out-word in let words = c.args.words.now in
    let b = begun_out words s pass made.new.pass made.ensures.1 made.result made.ensures.0 c.requires.holder.0 one.key one.pass c.args.way.stays c.begin_out.ensures.noted in
    let w = swapped words c.args.way.stays s pass made.result one.key one.pass b c.requires.holder.1.1 two.new.activation.life two.new.key two.new.pass two.ensures.noted c.args.way.head.now two.result (two.ensures.walks ([], b.stands)) c.requires.head.1 in
    let walk = c.walk_all in let end = c.finish in
    has_left words c.args.way.stays two.new.activation.life s pass made.result two.new.key two.new.pass two.result w walk.new.self walk.new.queue walk.new.pass _ _ (walk.ensures.walks.1 w.at) end.new.self.key end.new.pass _ _ end.ensures.ends walk.ensures.walks.0 end.ensures.holder.0.batch

pub returns-clause-laid : goal.returns-clause-laid
returns-clause-laid g c =
    let s = c.args.self.now in let pass = c.args.pass.now in let one = c.begin_out.new in let made = c.new-queue in let two = c.swap_out-word in let words = c.args.words.now in
    let b = begun_out words s pass made.new.pass made.ensures.1 made.result made.ensures.0 c.requires.holder.0 one.key one.pass c.args.way.stays c.begin_out.ensures.noted in
    let w = swapped words c.args.way.stays s pass made.result one.key one.pass b c.requires.holder.1.1 two.new.activation.life two.new.key two.new.pass two.ensures.noted c.args.way.head.now two.result (two.ensures.walks ([], b.stands)) c.requires.head.1 in
    let walk = c.walk_all in let end = c.finish in
    lays_twice pass two.new.pass end.new.pass s.spots s.spots end.new.self.spots w.laid (lays_twice two.new.pass walk.new.pass end.new.pass s.spots walk.new.self.spots end.new.self.spots walk.ensures.laid end.ensures.laid)
