use Rattle.std.proofs.Common.{◌≡◌, Option, set}
use Rattle.seize_machine.specs.Machine.State.{link_at as held_at}
use Rattle.seize_alone.specs.Holding.{Holds}
use Rattle.seize.specs.Looks.{with_link}
use Rattle.seize_book.specs.Homesteads.{state_seen}
use Rattle.seize.proofs.alone.Alone.exchange.Given as goal

abbrev pub ghosts-of : goal.ghosts-of
ghosts-of g a = record { are = λ st names kinds held. ((new : Option g.row.T.Denot) × (st ≡ with_link a._hands.now.state a._said.now new)) × Holds g.row.T.coded.code st names kinds a._pass.now.name a._pass.now.seen × (held ≡ set a._hands.now.held a._said.now (held_at (state_seen a._pass.now) a._said.now)) }
