use Rattle.std.proofs.Common.{sym, ◌∙◌}
use Rattle.seize_script.proofs.Prefixes.{begins}
use Rattle.seize_script.proofs.line.Line.take.Goals as goal

pub returns-in-Some : goal.returns-in-Some
returns-in-Some c =
    let t = c.in-Some.ensures.cases in
    sym c.self.view_is ∙ begins c.args.bytes.now c.self.inside.rest.now c.in-Some.rest.now t.0 t.1
