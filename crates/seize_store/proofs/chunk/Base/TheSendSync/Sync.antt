use denote.RattleType.{RattleType}
use denote.Param.Send.{IsSync, struct_sync, sendable}
use denote.Builtin.{RawPtr}
use denote.Struct.Owning.{shape, to}
use Rattle.seize_store.specs.contracts.chunk.Base.{the_row, the_type}

pub sync : (X U T : RattleType) → IsSync (the_row X U T)
sync X U T = let py : IsSync RawPtr = search sendable in
    record { shared = λ d b o κ. ((struct_sync (shape (the_type X U T)) (py, tt)).shared (to (the_type X U T) d) b o κ, λ so. tt) }
