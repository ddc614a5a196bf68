use denote.RattleType.{RattleType}
use denote.Param.Send.{IsSync, struct_sync, sendable}
use denote.Struct.Owning.{shape, to}
use Rattle.core.specs.contracts.marker.PhantomData as marker
use Rattle.seize_book.specs.declared.book.permit.Condition.{Ghosts}
use Rattle.seize_book.specs.contracts.book.permit.Permits.{the_row, the_type}
use Rattle.seize_book.proofs.Sent.{list_keyless}

pub sync : (T : RattleType) (g : Ghosts T.Denot) → IsSync (the_row T g)
sync T g = let my : IsSync (marker.the_field T).row = search sendable depth 30 in
    record { shared = λ d b o κ. ((struct_sync (shape (the_type T g)) (my, tt)).shared (to (the_type T g) d) b o κ, list_keyless (g.holds d.store) d.list) }
