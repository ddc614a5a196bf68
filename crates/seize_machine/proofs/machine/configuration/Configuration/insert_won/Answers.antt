use Rattle.std.proofs.Common.{◌≡◌, length, ap, arith}
use Rattle.seize_machine.proofs.Words.{illegal, past_insert}
use Rattle.seize_machine.proofs.machine.configuration.Configuration.insert_won.Goals as goal

pub returns-then-m-len-clause-step : goal.returns-then-m-len-clause-step
returns-then-m-len-clause-step c =
    let heads_is : c.self.inside.heads.items ≡ c.args.self.now.heads = ap (λ st. st.heads) c.self.view_is in
    illegal _ c.args.self.now (past_insert c.args.self.now c.args.s c.args.m _ (omega (arith, ap length heads_is, c.if-m-len.true, c.len-2.ensures)))
