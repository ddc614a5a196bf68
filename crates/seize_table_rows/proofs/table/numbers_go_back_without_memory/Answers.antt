use Rattle.std.proofs.Common.{rules}
use Rattle.std.specs.FinSet.{members}
use Rattle.seize_table_rows.proofs.table.numbers_go_back_without_memory.Goals as goal

pub give-requires : goal.give-requires
give-requires g c = let first = c.in_ok-first.ensures.taken in grind (members, rules, first)
