use Rattle.std.proofs.Common.{◌≡◌, ◌≤◌, length, All}
use Rattle.seize.specs.Blocks.{Belongs}
use Rattle.seize_script.specs.Values.{owners_of}
use Rattle.seize_script.proofs.call.CallReader.+block.Given as goal

abbrev pub decreases-block : goal.decreases-block
decreases-block l = l.deepest

abbrev pub invariant-loop-inside : goal.invariant-loop-inside
invariant-loop-inside l = record {
  own : All (Belongs owners_of l.fn.self.alone.book.store) l.inside.items;
  same : l.self.alone ≡ l.fn.self.alone;
  shorter : length l.line ≤ length l.fn.line;
}

abbrev pub decreases-loop-inside : goal.decreases-loop-inside
decreases-loop-inside l = length l.line
