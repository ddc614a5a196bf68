use denote.RattleType.{RattleType}
use denote.Param.Send.{IsSend, owning_send, struct_send, sendable}
use denote.Builtin.{RawPtr}
use denote.Struct.Struct.{exits_of}
use denote.Struct.Owning.{shape, fields, to}
use Rattle.std_alloc.proofs.SendSync.{quiet}
use Rattle.seize_store.specs.Titled.{title_tag, title_place}
use Rattle.seize_table.specs.declared.labelled.Labelled.{Ghosts}
use Rattle.seize_store.specs.contracts.block.Block.{the_row, the_type}
use Rattle.seize_store.specs.contracts.row_token.Title as title
use Rattle.seize_store.proofs.Sends.{block_owned}

pub send : (X U T : RattleType) (g : Ghosts U.Denot) → IsSend U → IsSend T → IsSend (the_row X U T g)
send X U T g u s = let O = the_type X U T g in let ps : IsSend RawPtr = search sendable in let ns : IsSend title.the_field.row = search sendable depth 30 in
    owning_send O (ps, (ns, tt)) (λ d. block_owned X U T g.label u s (title_place d.title) (title_tag d.title) d.at d.value) (λ k. quiet (to O) (exits_of k (fields O)) ((struct_send (shape O) (ps, (ns, tt))).leaving k))
