use Rattle.std.proofs.Common.{sym, ◌∙◌}
use Rattle.seize_calls.proofs.Slots.{holder, looked, ready_learned}
use Rattle.seize_calls.proofs.slot.Slot.head.Goals as goal

pub head-requires-clause-seen : goal.head-requires-clause-seen
head-requires-clause-seen g c =
    let s = c.args.self.now in let pass = c.args.pass.now in let p = c.learn.new.self in let of = c.requires.of in
    (holder s p (ready_learned s.seen pass p (of.0.book ∙ of.1.0) c.learn.ensures)).2

pub returns-clause-head : goal.returns-clause-head
returns-clause-head g c =
    let learns = c.learn.ensures in let looks = c.head.ensures.looks in let head = c.head.ensures.head in let of = c.requires.of in
    (head.0 ∙ looks.same.0 ∙ learns.0.0 ∙ sym (of.0.book ∙ of.1.0), head.1)

pub returns-clause-pass : goal.returns-clause-pass
returns-clause-pass g c =
    let s = c.args.self.now in let pass = c.args.pass.now in let p = c.learn.new.self in let of = c.requires.of in
    looked s pass p (of.0.book ∙ of.1.0) c.learn.ensures c.head.new.pass c.head.ensures.looks
