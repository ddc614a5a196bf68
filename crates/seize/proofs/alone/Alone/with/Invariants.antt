use Rattle.std.proofs.Common.{◌≡◌, length}
use Rattle.seize_model.specs.Waiting.State.{new}
use Rattle.seize_alone.specs.Holding.{Holds}
use Rattle.seize_book.specs.Homesteads.{state_seen}
use Rattle.seize.proofs.Still.{names_from}
use Rattle.seize.proofs.alone.Alone.with.Given as goal

abbrev pub ghosts-first : goal.ghosts-first
ghosts-first g a = record {
  are = λ st names kinds held. (st ≡ new a._said.now.0 a._said.now.1) × Holds g.row.T.coded.code st names kinds a._pass.now.name a._pass.now.seen × (held ≡ names_from (state_seen a._pass.now) 0 (length a._pass.now.name.links));
}
