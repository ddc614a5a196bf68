use Rattle.std.proofs.Common.{◌≡◌, length}
use Rattle.seize_parts.proofs.Homing.{StartsAt}
use Rattle.seize_book.specs.Homesteads.{state_seen}
use Rattle.seize.proofs.Still.{names_from}
use Rattle.seize.proofs.collector.Collector.alone.Given as goal

abbrev pub ghosts-first : goal.ghosts-first
ghosts-first g a = record {
  are = λ st names kinds held. StartsAt g.row.T.coded.code a._pass.now a._said.now.items st names kinds × (held ≡ names_from (state_seen a._pass.now) 0 (length a._pass.now.name.links));
}
