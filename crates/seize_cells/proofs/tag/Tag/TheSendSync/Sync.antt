use denote.Param.Send.{IsSync, part_keyless}
use Rattle.seize_cells.specs.contracts.tag.Tag.{the_row}
use Rattle.seize_cells.proofs.tag.Tag.TheSendSync.Send.{send}

pub sync : IsSync the_row
sync = record { shared = λ d b o κ q. part_keyless the_row send q d b o }
