use Rattle.std.proofs.Common.{◌≡◌, length}
use Rattle.seize_alone_rows.proofs.random.run.Given as goal

abbrev pub invariant-loop-n : goal.invariant-loop-n
invariant-loop-n g l = (l.alone.links ≡ 3) × (length l.alone.book.links ≡ 3)
