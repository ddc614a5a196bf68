use denote.RattleType.{RattleType}
use denote.Param.Send.{IsSend, IsSync, struct_sync, sendable}
use denote.Builtin.{RawPtr}
use denote.Struct.Owning.{shape, to}
use Rattle.seize_table.specs.declared.labelled.Labelled.{Ghosts}
use Rattle.seize_store.specs.contracts.chunk.Chunk.{the_row, the_type}
use Rattle.seize_store.proofs.Sends.{chunk_seen}

pub sync : (X U T : RattleType) (g : Ghosts U.Denot) → IsSend U → IsSync X → IsSync (the_row X U T g)
sync X U T g u y = let py : IsSync RawPtr = search sendable in
    record { shared = λ d b o κ. ((struct_sync (shape (the_type X U T g)) (py, tt)).shared (to (the_type X U T g) d) b o κ, chunk_seen X U T g.label y u d.tag d.life d.out d.home d.at d.header κ) }
