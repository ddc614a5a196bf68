use Rattle.std.proofs.Common.{◌≡◌, if◌then◌else◌}
use Rattle.seize_model.specs.Waiting.Calls.{gathering, with_number_free}
use Rattle.seize_alone.specs.Holding.{Holds}
use Rattle.seize.proofs.alone.Alone.end_once.Given as goal

abbrev pub ghosts-of : goal.ghosts-of
ghosts-of g a = record {
  are = λ st names kinds held.
      (st ≡ (if a._said.now.1 then with_number_free a._hands.now.state a._said.now.0 else (gathering g.R.Puts.puts g.R.Puts.weight a._hands.now.state a._said.now.0).0))
      × Holds g.row.T.coded.code st names kinds a._pass.now.name a._pass.now.seen × (held ≡ a._hands.now.held);
}
