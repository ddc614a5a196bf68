use denote.RattleType.{RattleType}
use denote.Param.Send.{IsSync, struct_sync, sendable}
use denote.Builtin.{RawPtr}
use denote.Struct.Owning.{shape, to}
use Rattle.seize_table.specs.declared.labelled.Labelled.{Ghosts}
use Rattle.seize_store.specs.contracts.block.Block.{the_row, the_type}
use Rattle.seize_store.specs.contracts.row_token.Title as title
use Rattle.seize_store.specs.Titled.{title_tag}
use Rattle.seize_store.proofs.Sends.{block_seen}

pub sync : (X U T : RattleType) (g : Ghosts U.Denot) → IsSync U → IsSync T → IsSync (the_row X U T g)
sync X U T g u y = let py : IsSync RawPtr = search sendable in let ny : IsSync title.the_field.row = search sendable depth 30 in
    record { shared = λ d b o κ. ((struct_sync (shape (the_type X U T g)) (py, (ny, tt))).shared (to (the_type X U T g) d) b o κ, block_seen X U T g.label u y (title_tag d.title) d.at d.value κ) }
