use Rattle.std.proofs.Common.{◌≡◌}
use Rattle.seize_model.specs.Waiting.Calls.{reclaim_all}
use Rattle.seize_alone.specs.Holding.{Holds}
use Rattle.seize.proofs.alone.Alone.reclaim_all.Given as goal

abbrev pub ghosts-of : goal.ghosts-of
ghosts-of g a = record {
  are = λ st names kinds held. (st ≡ (reclaim_all g.R.Puts.puts g.R.Puts.weight a._hands.now.state).0) × Holds g.row.T.coded.code st names kinds a._pass.now.name a._pass.now.seen
      × (held ≡ a._hands.now.held);
}
