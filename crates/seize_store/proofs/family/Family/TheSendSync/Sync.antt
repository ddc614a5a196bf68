use denote.Param.Send.{IsSync, part_keyless}
use Rattle.seize_store.specs.contracts.family.Family.{the_row}
use Rattle.seize_store.proofs.family.Family.TheSendSync.Send.{send}

pub sync : IsSync the_row
sync = record { shared = λ m b o κ q. part_keyless the_row send q m b o }
