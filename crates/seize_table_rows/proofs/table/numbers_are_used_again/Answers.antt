use Rattle.std.proofs.Common.{rules}
use Rattle.std.specs.FinSet.{members}
use Rattle.seize_table_rows.proofs.table.numbers_are_used_again.Goals as goal

pub give-requires : goal.give-requires
give-requires g c = let second = c.in_ok-second.ensures.taken in let third = c.in_ok-third.ensures.taken in grind (members, rules, second, third)
