use Rattle.std.proofs.Common.{◌+◌}
use denote.RattleType.{RattleType}
use denote.Param.Send.{IsSend, IsSync, sendable}
use Rattle.once_cell.proofs.race.once_box.OnceBox.TheSendSync as once
use Rattle.seize_store.specs.Kept.{of_kin}
use Rattle.seize_store.specs.declared.kin.Kin.{Ghosts}
use Rattle.seize_store.specs.contracts.once_of.OnceOf.{the_row}

pub sync : (T : RattleType) (g : Ghosts T.Denot) → IsSend T → IsSync T → IsSync (the_row T g)
sync T g s y = record {
  shared = λ c b o κ. let k : IsSend (of_kin T g c.0) = search sendable depth 30 in let j : IsSync (of_kin T g c.0) = search sendable depth 30 in (once.the_sync (of_kin T g c.0) k j).shared c.1 b (o + 0) κ;
}
