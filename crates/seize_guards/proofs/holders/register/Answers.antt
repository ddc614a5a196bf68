use Rattle.std.proofs.Common.{ℕ, sym, subst}
use Rattle.seize_calls.specs.Slots.{its_number}
use Rattle.seize_parts.specs.Makes.{TakesNumber}
use Rattle.seize_parts.specs.Puts.{PutBy}
use Rattle.seize_guards.proofs.Later.{takes_later}
use Rattle.seize_parts.proofs.Made.{none_prepared}
use Rattle.seize_guards.proofs.holders.register.Goals as goal

-- the look for the head makes nothing
pub returns-clause-made : goal.returns-clause-made
returns-clause-made g c =
    let made = c.of.ensures.of in let slot = c.in_ok-slot.slot in
    let takes = takes_later g.row.T.coded.code g.R.Puts.puts (its_number slot) c.in_ok-slot.ensures.takes (none_prepared slot c.take_slot.new.pass c.of.new.pass c.of.ensures.looks) in
    (made.0, made.2, subst (λ (s : ℕ). TakesNumber (PutBy g.row.T.coded.code g.R.Puts.puts) s c.args.pass.now c.of.new.pass) (sym made.1) takes)
