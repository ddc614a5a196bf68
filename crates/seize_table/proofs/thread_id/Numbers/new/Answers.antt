use Rattle.std.proofs.Common.{◌∙◌, ap}
use Rattle.seize_table.specs.Free.{in_use}
use Rattle.seize_table.proofs.FreeNumbers.{none_in_use, roomy-new}
use Rattle.seize_table.proofs.thread_id.Numbers.new.Goals as goal

pub invariant_of-result : goal.invariant_of-result
invariant_of-result c = roomy-new _ _ c.new.ensures.items c.new.ensures.heap_order

pub returns : goal.returns
returns c = ap (in_use 0) c.new.ensures.items ∙ none_in_use
