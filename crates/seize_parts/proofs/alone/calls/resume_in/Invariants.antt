-- Which watch is told, and what it had seen when the call began.
use Rattle.seize_parts.proofs.alone.calls.resume_in.Given as goal

abbrev pub ghosts-resume_telling : goal.ghosts-resume_telling
ghosts-resume_telling g a = record { name = a.tells.now.watch.ghost_name; first = g.W.Watch.coded.code (g.W.Watch.seen a.tells.now.watch.now) }
