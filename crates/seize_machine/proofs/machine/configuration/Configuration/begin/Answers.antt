use Rattle.std.proofs.Common.{◌≡◌, length, ap, arith}
use Rattle.seize_machine.proofs.Words.{illegal, past_begin}
use Rattle.seize_machine.proofs.machine.configuration.Configuration.begin.Goals as goal

pub returns-then-s-len-clause-step : goal.returns-then-s-len-clause-step
returns-then-s-len-clause-step c =
    let slots_is : c.self.inside.slots.items ≡ c.args.self.now.slots = ap (λ st. st.slots) c.self.view_is in
    illegal _ c.args.self.now (past_begin c.args.self.now c.args.s c.args.job (omega (arith, ap length slots_is, c.if-s-len.true, c.len.ensures)))
