use Rattle.std.proofs.Common.{◌≡◌}
use Rattle.seize_alone.specs.Holding.{Holds}
use Rattle.seize.proofs.alone.Alone.batch_size.Given as goal

abbrev pub ghosts-of : goal.ghosts-of
ghosts-of g a = record {
  are = λ st names kinds held. (st ≡ record a._hands.now.state { size = a._said.now }) × Holds g.row.T.coded.code st names kinds a._pass.now.name a._pass.now.seen × (held ≡ a._hands.now.held);
}
