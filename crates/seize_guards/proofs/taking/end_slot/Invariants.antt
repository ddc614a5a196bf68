use Rattle.std.proofs.Common.{◌≡◌}
use Rattle.seize_book.specs.declared.book.pass.Pass.{Pass}
use Rattle.seize_calls.specs.Slots.{IsPassOf, its_number}
use Rattle.seize_parts.specs.Makes.{GivesNumber}
use Rattle.seize_parts.specs.Numbers.{MayEnd}
use Rattle.seize_parts.specs.Puts.{PutBy}
use Rattle.seize_guards.proofs.taking.end_slot.Given as goal

-- it is the same slot, and once its number goes back from here, it went back from the start
abbrev pub invariant-loop : goal.invariant-loop
invariant-loop g l =
    IsPassOf l.parts.words l.pass × MayEnd l.parts.words l.slot × (its_number l.slot ≡ its_number l.initial.slot)
    × ((q : Pass) → GivesNumber (PutBy g.row.T.coded.code g.R.Puts.puts) (its_number l.initial.slot) l.pass q → GivesNumber (PutBy g.row.T.coded.code g.R.Puts.puts) (its_number l.initial.slot) l.initial.pass q)
