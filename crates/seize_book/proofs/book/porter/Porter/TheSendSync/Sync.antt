use denote.Builtin.{unit}
use denote.Param.Send.{IsSync, struct_sync, sendable}
use denote.Struct.Owning.{shape, to}
use Rattle.core.specs.contracts.marker.PhantomData as marker
use Rattle.seize_book.specs.contracts.book.porter.Porter.{the_row, the_type}
use Rattle.seize_book.proofs.Sent.{porter_all_shown}

pub sync : IsSync the_row
sync = let my : IsSync (marker.the_field unit).row = search sendable depth 30 in
    record { shared = λ d b o κ. ((struct_sync (shape the_type) (my, tt)).shared (to the_type d) b o κ, porter_all_shown d.name d.size d.home d.seen κ) }
