use Rattle.std.proofs.Common.{ap, ◌∙◌}
use Rattle.seize_book.specs.Tokens.{Name}
use Rattle.seize_parts.proofs.Unattempted.{retired_or_back}
use Rattle.seize_guards.proofs.works.RetiringShortLockWorkReservationPassResultUnitLoose.work.Goals as goal

pub agree-requires : goal.agree-requires
agree-requires g c = ap (λ (n : Name). n.family) c.seen.ensures.0 ∙ c.requires.1.0

pub returns : goal.returns
returns g c =
    let self = c.args.self in let short = c.retire_short in
    retired_or_back self.words.now c.args.r.now c.args.pass.now self.loose self.kind short.new.self short.new.pass c.requires.0 c.requires.1.1 short.ensures.of.0 short.ensures.of.1 short.result short.ensures.retires short.ensures.back
