use Rattle.std.proofs.Common.{ap, arith, refl, sym, ◌∙◌}
use Rattle.seize_book.specs.Tokens.{Name}
use Rattle.seize_calls.specs.Slots.{its_number}
use Rattle.seize_words.specs.Joined.{words_book}
use Rattle.seize_parts.proofs.Current.{looks_active, slot_looks}
use Rattle.seize_parts.proofs.Made.{none_learned, none_then}
use Rattle.seize_parts.proofs.Placed.{active_some, at_some, begun_learned, label_same, placed, placed_slot, some_at, still_for}
use Rattle.seize_parts.proofs.reservation.Reservation.current.Goals as goal

pub agree-requires : goal.agree-requires
agree-requires g c = ap (λ (n : Name). n.family) c.seen.ensures.0 ∙ c.requires.of.1

pub current-requires : goal.current-requires
current-requires g c =
    let words = c.args.words.now in let r = c.args.self.now in let unit = c.requires.unit in let pass = c.args.pass.now in let learned = c.learn.new.self in (
      omega arith,
      (
        (placed_slot words r c.requires.of.0 (sym c.seen.ensures.0 ∙ c.agree.ensures), still_for words pass learned c.requires.of.2 c.learn.ensures.0),
        (unit.0.slot, begun_learned (words_book words) (its_number r.slot) c.args.unit.now c.args.seen.now pass learned unit c.learn.ensures (unit.0.book ∙ c.requires.of.2.0)),
      ),
    )

pub returns-clause-follows : goal.returns-clause-follows
returns-clause-follows g c =
    let words = c.args.words.now in let r = c.args.self.now in let is = c.requires.of.0 in let slot' = c.current.new.self in let current = c.current.ensures in
    let some = active_some r.slot r.rest r.guards current.within.0 is.at in (
      (
        label_same r.slot slot' r.most current.looks.0.same,
        placed words slot' r.rest r.guards r.most current.of.0 (some_at slot' r.rest r.guards some (current.of.1 r.rest (at_some r.slot r.rest r.guards some is.at))) is.units is.fits,
      ),
      refl,
      refl,
    )

pub returns-clause-active : goal.returns-clause-active
returns-clause-active g c =
    let r = c.args.self.now in let current = c.current.ensures in
    (active_some r.slot r.rest r.guards current.within.0 c.requires.of.0.at, current.of.0, current.within.1)

pub returns-clause-same : goal.returns-clause-same
returns-clause-same g c = c.current.ensures.looks.0.same.0

pub returns-clause-active_still : goal.returns-clause-active_still
returns-clause-active_still g c =
    let words = c.args.words.now in let r = c.args.self.now in let pass = c.args.pass.now in let learned = c.learn.new.self in let current = c.current.ensures in
    let of = placed_slot words r c.requires.of.0 (sym c.seen.ensures.0 ∙ c.agree.ensures) in (
      none_then (none_learned pass c.args.seen.now learned c.learn.ensures) (slot_looks r.slot learned c.current.new.self c.current.new.pass current.looks),
      looks_active r.slot learned c.current.new.self c.current.new.pass words of.0 (still_for words pass learned c.requires.of.2 c.learn.ensures.0) current.looks current.within.0,
    )
