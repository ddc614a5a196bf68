use Rattle.std.proofs.Common.{ℕ, sym, subst, ◌∙◌}
use Rattle.seize_machine.specs.Machine.Event.{Enter}
use Rattle.seize_alone.specs.Events.{MakesAlone}
use Rattle.seize_book.specs.Tokens.{IsSole}
use Rattle.seize_words.specs.Joined.{words_book}
use Rattle.seize_parts.specs.Reservations.{IsUnit}
use Rattle.seize_parts.proofs.Placed.{label_same}
use Rattle.seize_parts.proofs.Stilled.{alone_from, still_looked, still_prepared, still_then}
use Rattle.seize_parts.proofs.alone.calls.begin_in.Goals as goal

pub returns-clause-keeps : goal.returns-clause-keeps
returns-clause-keeps g c =
    let r = c.args.r.now in let follows = c.enter-unit.ensures.follows in (follows.0 ∙ label_same r.slot c.look.new.self r.most c.look.ensures.looks.0.same, follows.1)

pub returns-clause-enters : goal.returns-clause-enters
returns-clause-enters g c =
    let r = c.args.r.now in let pass = c.args.pass.now in let looks = c.look.ensures.looks in let sole = c.requires.r.1.3 in
    let still = still_then (still_looked r.slot c.look.new.self looks) (still_prepared c.look.new.self c.head-head.ensures.pass) in
    let entered = c.enter-unit.ensures.alone (subst IsSole (sym still.same.1) sole) in
    (entered.0, subst (λ (k : ℕ). MakesAlone pass c.enter-unit.new.pass (Enter k) entered.0) looks.0.same.0 (alone_from sole still entered.1))

pub returns-clause-unit : goal.returns-clause-unit
returns-clause-unit g c =
    let at = c.look.ensures.looks.0.same.0 in
    (subst (λ (k : ℕ). IsUnit (words_book c.args.words.now) k c.enter-unit.result.0 c.enter-unit.result.1) at c.enter-unit.ensures.unit, c.number-number.ensures ∙ at)
