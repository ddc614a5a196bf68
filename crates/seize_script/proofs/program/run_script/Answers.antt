use Rattle.std.proofs.Common.{refl}
use Rattle.seize_script.proofs.Ranging.{group_taken}
use Rattle.seize_script.proofs.program.run_script.Goals as goal

pub run_group-requires : goal.run_group-requires
run_group-requires g c =
    let now = c.loop-group.alone in
    (group_taken now now c.loop-group.group-iterator.rest.items c.next.new.self.rest.items c.in-Some.group
    c.in-Some.ensures.steps.0 c.loop-group.invariant (refl, refl, refl, refl, refl)).0

pub loop-group-preserved : goal.loop-group-preserved
loop-group-preserved g c =
    (group_taken c.loop-group.alone c.run_group.new.alone
    c.loop-group.group-iterator.rest.items c.next.new.self.rest.items c.in-Some.group
    c.in-Some.ensures.steps.0 c.loop-group.invariant c.run_group.ensures).1
