use denote.RattleType.{RattleType}
use denote.Param.Send.{IsSend, IsSync, owning_send, struct_send, sendable}
use denote.Builtin.{RawPtr}
use denote.Struct.Struct.{exits_of}
use denote.Struct.Owning.{shape, fields, to}
use Rattle.core.specs.contracts.marker.PhantomData as marker
use Rattle.std_alloc.proofs.SendSync.{quiet}
use Rattle.seize_table.specs.declared.labelled.Labelled.{Ghosts}
use Rattle.seize_store.specs.contracts.lender.Lender.{the_row, the_type}
use Rattle.seize_store.proofs.Lenders.{lender_sent}

pub send : (X U T : RattleType) (g : Ghosts U.Denot) → IsSend U → IsSend T → IsSync T → IsSend (the_row X U T g)
send X U T g u s y = let O = the_type X U T g in let ms : IsSend (marker.the_field RawPtr).row = search sendable depth 30 in owning_send O (ms, tt) (λ d. lender_sent X U T g.label d.at d.tag u s y)
    (λ k. quiet (to O) (exits_of k (fields O)) ((struct_send (shape O) (ms, tt)).leaving k))
