use denote.Param.Send.{IsSync, sendable}
use denote.Struct.Struct.{Struct}
use denote.Struct.Owning.{shape}
use Rattle.seize_book.specs.contracts.book.sizes.Sizes.{the_row, the_type}
use Rattle.seize_book.proofs.Sent.{sizes_shown}

pub sync : IsSync the_row
sync = let fields : IsSync (Struct (shape the_type)) = search sendable depth 20 in record { shared = λ d b o ν. (fields.shared (tt, tt) b o ν, sizes_shown d.name.gate.sizes d.most ν) }
