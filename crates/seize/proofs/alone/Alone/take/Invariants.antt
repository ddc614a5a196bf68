use Rattle.std.proofs.Common.{◌≡◌}
use Rattle.seize_model.specs.Waiting.Calls.{taking}
use Rattle.seize_alone.specs.Holding.{Holds}
use Rattle.seize_parts.specs.Kinds.{kind_if_owned}
use Rattle.seize.proofs.alone.Alone.take.Given as goal

abbrev pub ghosts-of : goal.ghosts-of
ghosts-of g a = record {
  are = λ st names kinds held. (st ≡ (taking g.R.Puts.puts g.R.Puts.weight a._hands.now.state a._said.now.0 (kind_if_owned a._said.now.1)).0) × Holds g.row.T.coded.code st names kinds a._pass.now.name a._pass.now.seen × (held ≡ a._hands.now.held);
}
