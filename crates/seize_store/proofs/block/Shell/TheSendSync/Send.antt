use denote.RattleType.{RattleType}
use denote.Param.Send.{IsSend, owning_send, struct_send, sendable}
use denote.Builtin.{RawPtr}
use denote.Struct.Struct.{exits_of}
use denote.Struct.Owning.{shape, fields, to}
use Rattle.std_alloc.proofs.SendSync.{quiet}
use Rattle.seize_table.specs.declared.labelled.Labelled.{Ghosts}
use Rattle.seize_store.specs.contracts.block.Shell.{the_row, the_type}
use Rattle.seize_store.proofs.Sends.{shell_owned}

pub send : (X U T : RattleType) (g : Ghosts U.Denot) → IsSend U → IsSend (the_row X U T g)
send X U T g u = let O = the_type X U T g in let ps : IsSend RawPtr = search sendable in owning_send O (ps, tt) (λ d. shell_owned X U T g.label u d.at d.tag)
    (λ k. quiet (to O) (exits_of k (fields O)) ((struct_send (shape O) (ps, tt)).leaving k))
