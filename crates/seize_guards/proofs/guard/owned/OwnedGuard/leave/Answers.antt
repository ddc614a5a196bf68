use Rattle.std.proofs.Common.{ℕ, ap, arith, refl, sym, subst, ◌∙◌}
use Rattle.seize_machine.specs.declared.machine.event.Job.TheVariants.{Leave}
use Rattle.seize_book.specs.Tokens.{Name}
use Rattle.seize_calls.specs.Slots.{its_number}
use Rattle.seize_words.specs.Joined.{words_book}
use Rattle.seize_parts.specs.Puts.{PutBy}
use Rattle.seize_parts.specs.Makes.{GivesNumber, MakesCall}
use Rattle.seize_parts.proofs.Placed.{at_none, placed_slot, still_for, unit_as}
use Rattle.seize_parts.proofs.Places.{first_of_two, head_for, in_place}
use Rattle.seize_guards.proofs.Same.{same_given}
use Rattle.seize_guards.proofs.guard.owned.OwnedGuard.leave.Goals as goal

pub work-requires : goal.work-requires
work-requires g c =
    let self = c.args.self in let core = self.core in let n = words_book core.parts.now.words in let r = c.into_value-reservation.result in let kept = c.into_value-reservation.ensures in
    let at = in_place n core.number 1 r (kept.0 ∙ self.at) in
    (kept.1, (at.0, c.requires.of, unit_as n core.number (its_number r.slot) core.unit core.unit core.seen at.1 refl (core.its, core.known), head_for n core.number (its_number r.slot) self.head.now self.headed at.1, c.ender.ensures))

pub agree-requires : goal.agree-requires
agree-requires g c =
    let self = c.args.self in let core = self.core in let kept = c.into_value-reservation.ensures in
    ap (λ (n : Name). n.family) c.seen.ensures.0 ∙ (in_place (words_book core.parts.now.words) core.number 1 c.work.new.r (c.work.ensures.0.0 ∙ kept.0 ∙ self.at)).0

pub end_slot-requires : goal.end_slot-requires
end_slot-requires g c =
    let self = c.args.self in let words = self.core.parts.now.words in let r = c.into_value-reservation.result in let is = c.into_value-reservation.ensures.1 in let r' = c.work.new.r in let is' = c.work.ensures.0.1 in
    let at = in_place (words_book words) self.core.number 1 r (c.into_value-reservation.ensures.0 ∙ self.at) in
    let call = first_of_two r.guards r.most is.fits at.2 c.work.ensures.1.0 in (
      omega arith,
      (
        still_for words c.args.pass.now c.work.new.pass c.requires.of call.made.same,
        (placed_slot words r' is' (sym c.seen.ensures.0 ∙ c.agree.ensures), (at_none r'.slot r'.rest r'.guards (omega (arith, c.work.ensures.1.1, is.fits, at.2)) is'.at).0),
      ),
    )

pub returns-clause-leaves : goal.returns-clause-leaves
returns-clause-leaves g c =
    let self = c.args.self in let n = words_book self.core.parts.now.words in let r = c.into_value-reservation.result in let kept = c.into_value-reservation.ensures in let pass = c.args.pass.now in let left = c.work.new.pass in
    let at = in_place n self.core.number 1 r (kept.0 ∙ self.at) in let at' = in_place n self.core.number 1 c.work.new.r (c.work.ensures.0.0 ∙ kept.0 ∙ self.at) in (
      left,
      subst (λ (s : ℕ). MakesCall (PutBy g.row.T.coded.code g.R.Puts.puts) s Leave pass left) at.1 (first_of_two r.guards r.most kept.1.fits at.2 c.work.ensures.1.0),
      subst (λ (s : ℕ). GivesNumber (PutBy g.row.T.coded.code g.R.Puts.puts) s left c.end_slot.new.pass) at'.1 c.end_slot.ensures.gives,
    )

pub returns-clause-pass : goal.returns-clause-pass
returns-clause-pass g c =
    let self = c.args.self in let r = c.into_value-reservation.result in let kept = c.into_value-reservation.ensures in let at = in_place (words_book self.core.parts.now.words) self.core.number 1 r (kept.0 ∙ self.at) in
    let left = (first_of_two r.guards r.most kept.1.fits at.2 c.work.ensures.1.0).made.same in let gave = (same_given _ _ _ _ c.end_slot.ensures.gives).0 in (c.requires.of.0 ∙ sym (gave.0 ∙ left.0), c.requires.of.1 ∙ sym (gave.2 ∙ left.2))
