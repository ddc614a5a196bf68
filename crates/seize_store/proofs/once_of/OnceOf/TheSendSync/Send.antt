use Rattle.std.proofs.Common.{[], ◌∷◌}
use denote.RattleType.{RattleType}
use denote.Param.Send.{IsSend, struct_send, sendable}
use denote.Struct.Parts.{shape_of}
use Rattle.once_cell.proofs.race.once_box.OnceBox.TheSendSync as once
use Rattle.seize_store.specs.Kept.{of_kin, member}
use Rattle.seize_store.specs.declared.kin.Kin.{Ghosts}
use Rattle.seize_store.specs.contracts.once_of.OnceOf.{the_row}

pub send : (T : RattleType) (g : Ghosts T.Denot) → IsSend T → IsSend (the_row T g)
send T g s = record {
  owned = λ c vs. let k : IsSend (of_kin T g c.0) = search sendable depth 30 in ((λ _. tt), (struct_send (shape_of [] (member T g c.0 ∷ [])) (once.the_send (of_kin T g c.0) k, tt)).owned (c.1, tt) vs);
  leaving = λ k d w. tt;
}
