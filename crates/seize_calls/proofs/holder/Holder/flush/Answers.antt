use Rattle.std.proofs.Common.{lit<}
use Rattle.seize_calls.specs.Settling.{call_state}
use Rattle.seize_calls.proofs.Laid.{lays_twice}
use Rattle.seize_calls.proofs.Onwards.{settles_on, settles_rest}
use Rattle.seize_calls.proofs.Sole.{may_same}
use Rattle.seize_calls.proofs.Whole.{begun_flush, flush_from, has_flushed}
use Rattle.seize_calls.proofs.holder.Holder.flush.Goals as goal

pub settle-retired-requires : goal.settle-retired-requires
settle-retired-requires g c =
    let s = c.args.self.now in let pass = c.args.pass.now in let one = c.begin_flush.new in let made = c.new-queue in
    let b = begun_flush c.args.words.now s pass made.new.pass made.ensures.1 made.result made.ensures.0 c.requires.holder.0 one.self one.pass c.begin_flush.ensures.noted in
    (lit< tt, ((b.1.under, flush_from c.args.words.now s pass made.result one.self one.pass (g.R.Reclaim.had c.args.reclaimer.now) b.0 b.1), (c.requires.serves.0, may_same (g.M.Manner.may c.args.manner.now) pass one.pass b.1.begins.keeps.on.same c.requires.serves.1)))

pub finish-requires : goal.finish-requires
finish-requires g c =
    let s = c.args.self.now in let pass = c.args.pass.now in let one = c.begin_flush.new in let made = c.new-queue in let had = g.R.Reclaim.had in
    let settle = c.settle-retired in let a = call_state (record s { key = one.self }) one.pass made.result (had c.args.reclaimer.now) in let b = call_state settle.new.self settle.new.pass settle.new.queue (had settle.new.reclaimer) in
    let begun = begun_flush c.args.words.now s pass made.new.pass made.ensures.1 made.result made.ensures.0 c.requires.holder.0 one.self one.pass c.begin_flush.ensures.noted in
    let may = may_same (g.M.Manner.may c.args.manner.now) one.pass settle.new.pass (settles_on 1 a b settle.result settle.ensures.settles).same (may_same (g.M.Manner.may c.args.manner.now) pass one.pass begun.1.begins.keeps.on.same c.requires.serves.1) in
    (lit< tt, ((settle.ensures.stands.0, settles_rest 1 a b settle.result settle.ensures.settles), (settle.ensures.stands.1, may)))

pub returns-clause-flushes : goal.returns-clause-flushes
returns-clause-flushes g c =
    let s = c.args.self.now in let pass = c.args.pass.now in let one = c.begin_flush.new in let made = c.new-queue in let had = g.R.Reclaim.had in
    let settle = c.settle-retired in let b = call_state settle.new.self settle.new.pass settle.new.queue (had settle.new.reclaimer) in
    let begun = begun_flush c.args.words.now s pass made.new.pass made.ensures.1 made.result made.ensures.0 c.requires.holder.0 one.self one.pass c.begin_flush.ensures.noted in
    has_flushed c.args.words.now s pass made.result one.self one.pass (had c.args.reclaimer.now) begun.0 begun.1 b settle.result settle.ensures.settles c.finish.new.self.key c.finish.new.pass _ _ c.finish.ensures.ends c.finish.ensures.holder.0.batch

pub returns-clause-laid : goal.returns-clause-laid
returns-clause-laid g c =
    let s = c.args.self.now in let pass = c.args.pass.now in let one = c.begin_flush.new in let made = c.new-queue in let settle = c.settle-retired in let end = c.finish in
    let b = begun_flush c.args.words.now s pass made.new.pass made.ensures.1 made.result made.ensures.0 c.requires.holder.0 one.self one.pass c.begin_flush.ensures.noted in
    lays_twice pass one.pass end.new.pass s.spots s.spots end.new.self.spots b.1.laid (lays_twice one.pass settle.new.pass end.new.pass s.spots settle.new.self.spots end.new.self.spots settle.ensures.laid end.ensures.laid)
