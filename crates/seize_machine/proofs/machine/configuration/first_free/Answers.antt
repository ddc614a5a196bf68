use Rattle.std.proofs.Common.{sym, arith}
use Rattle.seize_machine.proofs.Words.{free_is, none_is}
use Rattle.seize_machine.proofs.machine.configuration.first_free.Goals as goal

pub returns-then-not-is_used-clause-least : goal.returns-then-not-is_used-clause-least
returns-then-not-is_used-clause-least c = free_is c.args.slots.now c.loop-n.n c.index-slots-n.result c.loop-n-test.true c.loop-n.invariant c.index-slots-n.is (sym c.if-not-is_used.ensures)

pub returns-clause-least : goal.returns-clause-least
returns-clause-least c = none_is c.args.slots.now c.loop-n.n (omega arith) c.loop-n.invariant
