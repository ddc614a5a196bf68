use Rattle.std.proofs.Common.{◌≡◌}
use Rattle.seize_model.specs.Waiting.Calls.{retire}
use Rattle.seize_alone.specs.Holding.{Holds}
use Rattle.seize.proofs.alone.Alone.retire_in.Given as goal

abbrev pub ghosts-of : goal.ghosts-of
ghosts-of g a = record {
  are = λ st names kinds held. (st ≡ (retire g.R.Puts.puts g.R.Puts.weight a._hands.now.state a._said.now.0 a._said.now.2.value a._said.now.1).1.0)
      × Holds g.row.T.coded.code st names kinds a._pass.now.name a._pass.now.seen
      × (held ≡ a._hands.now.held);
}
