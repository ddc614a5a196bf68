use Rattle.std.proofs.Common.{sym, ◌∙◌}
use Rattle.seize_book.proofs.Renames.{may_redeem, next_after, others_still, renamed_free, renamed_cell, renamed_home, renamed_place, renames_first, was_lent}
use Rattle.seize_book.proofs.book.value_key.ValueKey.redeem.Goals as goal

pub redeem-lent-requires : goal.redeem-lent-requires
redeem-lent-requires c =
    let joined = c.join.ensures in may_redeem c.args.self.now c.args.slot.now c.args.pass.now c.join.new.self c.requires.book.0 c.requires.book.1 joined.0 joined.2 c.requires.soon c.requires.lent

pub returns-clause-still : goal.returns-clause-still
returns-clause-still c =
    (c.redeem-lent.ensures.0, others_still c.args.self.now.keys c.args.slot.now.keys c.join.new.self c.join.new.other c.redeem-lent.new.self c.part.new.self c.part.new.other c.redeem-lent.result.0 c.redeem-lent.result.1 c.args.self.now.one c.join.ensures c.redeem-lent.ensures.1 c.part.ensures (c.requires.book.1 ∙ sym c.requires.book.0))

pub returns-clause-value : goal.returns-clause-value
returns-clause-value c =
    let a = c.args.self.now.keys in let b = c.args.slot.now.keys in let all = c.join.new.self in let lent = c.redeem-lent.new.self in let out = c.redeem-lent.result in let part = c.part.new in
    next_after c.args.self.now part.self (renames_first a b all c.join.new.other lent part.self part.other out.0 out.1 c.args.self.now.one c.join.ensures c.redeem-lent.ensures.1 c.part.ensures) c.requires.last

pub returns-clause-block : goal.returns-clause-block
returns-clause-block c =
    let a = c.args.self.now.keys in let b = c.args.slot.now.keys in let all = c.join.new.self in let lent = c.redeem-lent.new.self in let out = c.redeem-lent.result in let part = c.part.new in
    let is = renames_first a b all c.join.new.other lent part.self part.other out.0 out.1 c.args.self.now.one c.join.ensures c.redeem-lent.ensures.1 c.part.ensures in (is.book, renamed_home c.args.self.now part.self is, renamed_cell c.args.self.now part.self is)

pub returns-clause-free : goal.returns-clause-free
returns-clause-free c =
    let a = c.args.self.now.keys in let b = c.args.slot.now.keys in let all = c.join.new.self in let lent = c.redeem-lent.new.self in let out = c.redeem-lent.result in let part = c.part.new in
    renamed_free c.args.self.now part.self (renames_first a b all c.join.new.other lent part.self part.other out.0 out.1 c.args.self.now.one c.join.ensures c.redeem-lent.ensures.1 c.part.ensures)

pub returns-clause-place : goal.returns-clause-place
returns-clause-place c =
    let a = c.args.self.now.keys in let b = c.args.slot.now.keys in let all = c.join.new.self in let lent = c.redeem-lent.new.self in let out = c.redeem-lent.result in let part = c.part.new in
    renamed_place c.args.self.now part.self (renames_first a b all c.join.new.other lent part.self part.other out.0 out.1 c.args.self.now.one c.join.ensures c.redeem-lent.ensures.1 c.part.ensures)

pub returns-clause-content : goal.returns-clause-content
returns-clause-content c =
    (c.redeem-lent.ensures.1.1, was_lent c.args.self.now.keys c.args.slot.now.keys c.join.new.self c.join.new.other c.redeem-lent.new.self c.part.new.self c.part.new.other c.redeem-lent.result.0 c.redeem-lent.result.1 c.args.self.now.one c.join.ensures c.redeem-lent.ensures.1 c.part.ensures)
