use Rattle.std.proofs.Common.{◌∙◌, ap, subst, sym}
use Rattle.seize_machine.specs.Machine.State.{linked_values, opening}
use Rattle.seize_machine.specs.Machine.History.{IsReached}
use Rattle.seize_machine.proofs.Invariants.Reached.{linked-replicate, opening_reached}
use Rattle.seize_machine.proofs.machine.Machine.new.Goals as goal

pub new-requires : goal.new-requires
new-requires c = ap linked_values c.in_ok-links.ensures ∙ linked-replicate c.args.links

pub invariant_of-result : goal.invariant_of-result
invariant_of-result c = subst IsReached (sym (c.new.ensures ∙ ap (opening 0) c.in_ok-links.ensures)) (opening_reached c.args.links)
