use denote.RattleType.{RattleType}
use denote.Param.Send.{IsSend, owning_send, struct_send, sendable}
use denote.Builtin.{RawPtr}
use denote.Struct.Struct.{exits_of}
use denote.Struct.Owning.{shape, fields, to}
use Rattle.std_alloc.proofs.SendSync.{quiet}
use Rattle.seize_store.specs.contracts.chunk.Base.{the_row, the_type}

pub send : (X U T : RattleType) → IsSend (the_row X U T)
send X U T = let O = the_type X U T in let ps : IsSend RawPtr = search sendable in owning_send O (ps, tt) (λ d so. tt)
    (λ k. quiet (to O) (exits_of k (fields O)) ((struct_send (shape O) (ps, tt)).leaving k))
