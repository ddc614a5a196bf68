use denote.Param.Send.{IsSync, sendable}
use denote.Ref.{NamedLft}
use denote.Struct.Struct.{Struct}
use denote.Struct.Owning.{shape}
use Rattle.seize_words.specs.contracts.lasting.Lasting.{the_row, the_type}
use Rattle.seize_words.proofs.Lasted.{lasting_keyless}

pub sync : (a : NamedLft) → IsSync (the_row a)
sync a = let fields : IsSync (Struct (shape (the_type a))) = search sendable depth 20 in record { shared = λ d b o ν. (fields.shared (tt, tt) b o ν, lasting_keyless a.lft d.name d.life d.seen) }
