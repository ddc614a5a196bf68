use Rattle.std.proofs.Common.{◌≡◌}
use Rattle.seize_script.specs.Ranges.{IsReady}
use Rattle.seize_script.proofs.parser.later_lines.Given as goal

abbrev pub invariant-loop-bytes : goal.invariant-loop-bytes
invariant-loop-bytes l = record {
  ready : IsReady l.parser;
  same : l.parser.reader.alone ≡ l.fn.alone;
}
