use Rattle.std.proofs.Common.{lit<, sym, subst}
use Rattle.seize_book.specs.declared.book.pass.Pass.{Pass}
use Rattle.seize_calls.specs.Laying.{Lays}
use Rattle.seize_calls.specs.Settling.{call_state}
use Rattle.seize_calls.proofs.Laid.{lays_twice}
use Rattle.seize_calls.proofs.Onwards.{settles_on, settles_rest}
use Rattle.seize_calls.proofs.Sole.{may_same}
use Rattle.seize_calls.proofs.Whole.{has_resumed, resumes_at, resumes_under}
use Rattle.seize_calls.proofs.holder.Holder.resume.Goals as goal

pub settle_full-requires : goal.settle_full-requires
settle_full-requires g c =
    let s = c.args.self.now in let pass = c.args.pass.now in let made = c.new-queue in let same = made.ensures.1 in (
      lit< tt,
      (
        (resumes_under c.args.words.now s pass made.new.pass same made.result made.ensures.0 c.requires.holder.0, resumes_at c.args.words.now s pass made.new.pass same made.result made.ensures.0 c.requires.holder.1),
        (c.requires.serves.0, subst (λ (p : Pass). g.M.Manner.may c.args.manner.now p.id) (sym same) c.requires.serves.1),
      ),
    )

pub finish-requires : goal.finish-requires
finish-requires g c =
    let s = c.args.self.now in let made = c.new-queue in let had = g.R.Reclaim.had in let settle = c.settle_full in
    let a = call_state s made.new.pass made.result (had c.args.reclaimer.now) in let b = call_state settle.new.self settle.new.pass settle.new.queue (had settle.new.reclaimer) in
    let may = subst (λ (p : Pass). g.M.Manner.may c.args.manner.now p.id) (sym made.ensures.1) c.requires.serves.1 in
    (lit< tt, ((settle.ensures.stands.0, settles_rest 0 a b settle.result settle.ensures.settles), (settle.ensures.stands.1, may_same (g.M.Manner.may c.args.manner.now) made.new.pass settle.new.pass (settles_on 0 a b settle.result settle.ensures.settles).same may)))

pub returns-clause-laid : goal.returns-clause-laid
returns-clause-laid g c =
    let s = c.args.self.now in let made = c.new-queue in let settle = c.settle_full in let end = c.finish in
    subst (λ (p : Pass). Lays p s.spots end.new.pass end.new.self.spots) made.ensures.1 (lays_twice made.new.pass settle.new.pass end.new.pass s.spots settle.new.self.spots end.new.self.spots settle.ensures.laid end.ensures.laid)

pub returns-clause-resumes : goal.returns-clause-resumes
returns-clause-resumes g c =
    let s = c.args.self.now in let made = c.new-queue in let had = g.R.Reclaim.had in let settle = c.settle_full in
    has_resumed c.args.words.now s c.args.pass.now made.new.pass made.ensures.1 made.result made.ensures.0 (had c.args.reclaimer.now) (call_state settle.new.self settle.new.pass settle.new.queue (had settle.new.reclaimer)) settle.result settle.ensures.settles
    c.finish.new.self.key c.finish.new.pass _ _ c.finish.ensures.ends c.finish.ensures.holder.0.batch
