use denote.Param.Send.{IsSync}
use Rattle.seize_cells.proofs.Sends.{latch_seen}
use Rattle.seize_cells.specs.contracts.latch.Latch.{the_row}

pub sync : IsSync the_row
sync = record { shared = λ γ b o κ. latch_seen γ b o κ }
