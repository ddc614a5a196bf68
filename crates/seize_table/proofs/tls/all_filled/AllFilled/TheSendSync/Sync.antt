use denote.Param.Send.{IsSync, sendable}
use denote.Struct.Struct.{Struct}
use denote.Struct.Owning.{shape}
use Rattle.seize_table.specs.contracts.tls.all_filled.AllFilled.{the_row, the_type}
use Rattle.seize_table.proofs.tls.all_filled.AllFilled.TheSendSync.Send.{all_keyless}

pub sync : IsSync the_row
sync = let fields : IsSync (Struct (shape the_type)) = search sendable depth 20 in record { shared = λ d b o ν. (fields.shared (tt, tt) b o ν, all_keyless d.table 0 d.labels) }
