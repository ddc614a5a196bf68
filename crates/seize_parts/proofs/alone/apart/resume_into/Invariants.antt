-- Which watch is told, where values wait, and how both were when the call began.
use Rattle.seize_book.specs.Kept.{kepts_of}
use Rattle.seize_book.specs.Values.{values_of}
use Rattle.seize_calls.specs.Furthers.{further_in}
use Rattle.seize_parts.proofs.alone.apart.resume_into.Given as goal

abbrev pub ghosts-resume_apart : goal.ghosts-resume_apart
ghosts-resume_apart g a = record {
  name = a.apart.now.aside.ghost_name;
  watch = a.apart.now.aside.now.watch.ghost_name;
  first = g.W.Watch.coded.code (g.W.Watch.seen a.apart.now.aside.now.watch.now);
  values = values_of (further_in a.apart.now.aside.now.queue);
  words = kepts_of (further_in a.apart.now.aside.now.queue);
}
