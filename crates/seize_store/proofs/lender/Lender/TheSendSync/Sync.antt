use denote.RattleType.{RattleType}
use denote.Param.Send.{IsSend, IsSync, struct_sync, sendable}
use denote.Builtin.{RawPtr}
use denote.Struct.Owning.{shape, to}
use Rattle.core.specs.contracts.marker.PhantomData as marker
use Rattle.seize_table.specs.declared.labelled.Labelled.{Ghosts}
use Rattle.seize_store.specs.contracts.lender.Lender.{the_row, the_type}
use Rattle.seize_store.proofs.Lenders.{lender_seen}

pub sync : (X U T : RattleType) (g : Ghosts U.Denot) → IsSend U → IsSend T → IsSync T → IsSync (the_row X U T g)
sync X U T g u s y = let my : IsSync (marker.the_field RawPtr).row = search sendable depth 30 in
    record { shared = λ d b o κ. ((struct_sync (shape (the_type X U T g)) (my, tt)).shared (to (the_type X U T g) d) b o κ, lender_seen X U T g.label d.at d.tag u s y κ) }
