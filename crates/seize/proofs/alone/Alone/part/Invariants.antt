use Rattle.std.proofs.Common.{◌≡◌}
use Rattle.seize_model.specs.Waiting.Calls.{one_guard_less}
use Rattle.seize_model.specs.Waiting.Further.{with_further}
use Rattle.seize_alone.specs.Holding.{Holds}
use Rattle.seize.proofs.alone.Alone.part.Given as goal

abbrev pub ghosts-of : goal.ghosts-of
ghosts-of g a = record {
  are = λ st names kinds held. (st ≡ (with_further g.R.Puts.puts g.R.Puts.weight a._said.now (one_guard_less a._hands.now.state a._said.now)).0) × Holds g.row.T.coded.code st names kinds a._pass.now.name a._pass.now.seen
      × (held ≡ a._hands.now.held);
}
