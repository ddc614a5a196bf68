use denote.Param.Send.{IsSync, part_keyless}
use Rattle.seize_content.specs.contracts.ticket.Start.{the_row}
use Rattle.seize_content.proofs.ticket.Start.TheSendSync.Send.{send}

pub sync : IsSync the_row
sync = record { shared = λ m b o κ q. part_keyless the_row send q m b o }
