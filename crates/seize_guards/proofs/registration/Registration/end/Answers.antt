use Rattle.std.proofs.Common.{ℕ, ◌-◌, ◌^◌, ap, arith, sym, subst, ◌∙◌}
use Rattle.seize_book.specs.Tokens.{Name}
use Rattle.seize_words.specs.Joined.{words_book}
use Rattle.seize_parts.specs.Makes.{GivesNumber, IsActiveIn}
use Rattle.seize_parts.specs.Puts.{PutBy}
use Rattle.seize_parts.proofs.Placed.{at_none, placed_slot}
use Rattle.seize_parts.proofs.Places.{in_place}
use Rattle.seize_guards.proofs.Same.{same_given}
use Rattle.seize_guards.proofs.registration.Registration.end.Goals as goal

pub agree-requires : goal.agree-requires
agree-requires g c =
    let self = c.args.self in let r = c.into_value-reservation.result in
    ap (λ (n : Name). n.family) c.seen.ensures.0 ∙ (in_place (words_book self.parts.now.words) self.number (2 ^ 64 - 1) r (c.into_value-reservation.ensures.0 ∙ self.at)).0

pub end_slot-requires : goal.end_slot-requires
end_slot-requires g c =
    let self = c.args.self in let words = self.parts.now.words in let r = c.into_value-reservation.result in let is = c.into_value-reservation.ensures.1 in (
      omega arith,
      (c.requires.pass, (placed_slot words r is (sym c.seen.ensures.0 ∙ c.agree.ensures), (at_none r.slot r.rest r.guards (omega (arith, c.if-reservation-gt0.false)) is.at).0)),
    )

pub look-requires : goal.look-requires
look-requires g c =
    let self = c.args.self in let r = c.into_value-reservation.result in let kept = c.into_value-reservation.ensures in
    let at = in_place (words_book self.parts.now.words) self.number (2 ^ 64 - 1) r (kept.0 ∙ self.at) in
    (omega arith, ((kept.1, at.0, c.requires.pass), omega (arith, c.if-reservation-gt0.true)))

pub returns-then-reservation-gt0-clause-ends : goal.returns-then-reservation-gt0-clause-ends
returns-then-reservation-gt0-clause-ends g c =
    let self = c.args.self in let at = in_place (words_book self.parts.now.words) self.number (2 ^ 64 - 1) c.into_value-reservation.result (c.into_value-reservation.ensures.0 ∙ self.at) in
    (c.look.ensures.active.0, subst (IsActiveIn c.look.new.pass) at.1 c.look.ensures.active.1)

pub returns-clause-ends : goal.returns-clause-ends
returns-clause-ends g c =
    let self = c.args.self in let at = in_place (words_book self.parts.now.words) self.number (2 ^ 64 - 1) c.into_value-reservation.result (c.into_value-reservation.ensures.0 ∙ self.at) in
    subst (λ (s : ℕ). GivesNumber (PutBy g.row.T.coded.code g.R.Puts.puts) s c.args.pass.now c.end_slot.new.pass) at.1 c.end_slot.ensures.gives

pub returns-then-reservation-gt0-clause-pass : goal.returns-then-reservation-gt0-clause-pass
returns-then-reservation-gt0-clause-pass g c = let same = c.look.ensures.active.0.same in (c.requires.pass.0 ∙ sym same.0, c.requires.pass.1 ∙ sym same.2)

pub returns-clause-pass : goal.returns-clause-pass
returns-clause-pass g c = let same = (same_given _ _ _ _ c.end_slot.ensures.gives).0 in (c.requires.pass.0 ∙ sym same.0, c.requires.pass.1 ∙ sym same.2)
