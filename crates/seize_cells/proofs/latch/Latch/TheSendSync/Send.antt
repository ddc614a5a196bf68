use denote.Param.Send.{IsSend}
use Rattle.seize_cells.proofs.Sends.{latch_sent}
use Rattle.seize_cells.specs.contracts.latch.Latch.{the_row}

pub send : IsSend the_row
send = record { owned = λ γ vs. ((λ _. tt), λ w. ((λ vss. (tt, ((tt, tt), tt))), latch_sent γ w)); leaving = λ k f vs. tt }
