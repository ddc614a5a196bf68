use denote.Param.Send.{IsSync, struct_sync, sendable}
use denote.Struct.Field.{u64-field}
use denote.Struct.Owning.{shape, to}
use Rattle.seize_words.specs.contracts.link.still.StillWord.{the_row, the_type}
use Rattle.seize_book.proofs.Sent.{keys_shown}

pub sync : IsSync the_row
sync = let my : IsSync u64-field.row = search sendable depth 30 in
    record { shared = λ d b o κ. ((struct_sync (shape the_type) (my, tt)).shared (to the_type d) b o κ, keys_shown d.name d.held κ) }
