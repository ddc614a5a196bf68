use Rattle.std.proofs.Common.{rules}
use Rattle.std.specs.FinSet.{members}
use Rattle.seize_table_rows.proofs.table.others_are_in_use_or_not.Goals as goal

pub give-requires : goal.give-requires
give-requires g c = let first = c.in_ok-first.ensures.taken in let second = c.in_ok-second.ensures.taken in let third = c.in_ok-third.ensures.taken in grind (members, rules, first, second, third)

pub give-requires-2 : goal.give-requires-2
give-requires-2 g c =
    let first = c.in_ok-first.ensures.taken in let second = c.in_ok-second.ensures.taken in let third = c.in_ok-third.ensures.taken in
    let apart = c.in_ok-third.ensures.least.unused in let gone = c.give.ensures in
    grind (members, rules, first, second, third, apart, gone)

pub give-requires-3 : goal.give-requires-3
give-requires-3 g c =
    let first = c.in_ok-first.ensures.taken in let second = c.in_ok-second.ensures.taken in let third = c.in_ok-third.ensures.taken in
    let apart = c.in_ok-third.ensures.least.unused in let apart2 = c.in_ok-second.ensures.least.unused in let gone = c.give.ensures in let gone2 = c.give-2.ensures in
    grind (members, rules, first, second, third, apart, apart2, gone, gone2)
