-- Which watch is told, and what it had seen when the call began.
use Rattle.seize_parts.proofs.alone.calls.retire_in.Given as goal

abbrev pub ghosts-retire_telling : goal.ghosts-retire_telling
ghosts-retire_telling g a = record { name = a.tells.now.watch.ghost_name; first = g.W.Watch.coded.code (g.W.Watch.seen a.tells.now.watch.now) }
