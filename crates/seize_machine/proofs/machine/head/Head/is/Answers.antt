use Rattle.std.proofs.Common.{◌∙◌}
use Rattle.seize_machine.proofs.Words.{same_list-is}
use Rattle.seize_machine.proofs.machine.head.Head.is.Goals as goal

pub returns-in-Some : goal.returns-in-Some
returns-in-Some c = rw (← c.self.view_is, c.in-Some.is) (c.eq.ensures ∙ same_list-is c.in-Some.waiting.items c.args.list.now.items)
