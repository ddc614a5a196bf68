use Rattle.std.proofs.Common.{ℕ, subst, sym}
use Rattle.seize_words.specs.Joined.{words_book}
use Rattle.seize_parts.specs.Reservations.{IsUnit}
use Rattle.seize_parts_rows.proofs.Kept.{kept, same_number}
use Rattle.seize_parts_rows.proofs.place.Place.enter.Goals as goal

pub returns-in_err-activation-clause-place : goal.returns-in_err-activation-clause-place
returns-in_err-activation-clause-place c = kept c.args.self.now c.work.new.r c.requires.place c.work.ensures.0.0 c.work.ensures.0.1

pub returns-clause-place : goal.returns-clause-place
returns-clause-place c = kept c.args.self.now c.work.new.r c.requires.place c.work.ensures.0.0 c.work.ensures.0.1

pub returns-clause-unit : goal.returns-clause-unit
returns-clause-unit c =
    let self = c.args.self.now in
    let number = same_number self c.work.new.r c.requires.place c.work.ensures.0.0 in
    let made = c.in_ok-activation.ensures in
    subst (λ (s : ℕ). IsUnit (words_book self.words.now) s c.in_ok-activation.activation c.in_ok-activation.seen) (sym number) made.1.0.1
