use Rattle.std.proofs.Common.{ap}
use Rattle.seize_words.specs.Words.{Site}
use Rattle.seize_words.proofs.Stands.{rested}
use Rattle.seize_words.proofs.link.Link.rest.Goals as goal

pub returns-clause-pass : goal.returns-clause-pass
returns-clause-pass c =
    let w = c.args.self.now.word in let pass = c.args.pass.now in
    (rested w c.rest.new.self c.look.new.self pass c.look.new.pass c.args.self.now.link c.requires.alone.0 c.requires.alone.1 c.rest.ensures c.look.ensures).same.0

pub returns-clause-stands : goal.returns-clause-stands
returns-clause-stands c =
    let w = c.args.self.now.word in let pass = c.args.pass.now in
    let told = rested w c.rest.new.self c.look.new.self pass c.look.new.pass c.args.self.now.link c.requires.alone.0 c.requires.alone.1 c.rest.ensures c.look.ensures in (
      record { keys = told.keys; stands = told.stands; holds = told.holds; lent = told.lent },
      (ap (λ (s : Site). s.name) told.same.1, ap (λ (s : Site). s.number) told.same.1),
    )
