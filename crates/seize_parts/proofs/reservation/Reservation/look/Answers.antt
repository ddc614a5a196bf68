use Rattle.std.proofs.Common.{ap, arith, refl, sym, ◌∙◌}
use Rattle.seize_book.specs.Tokens.{Name}
use Rattle.seize_calls.proofs.Slots.{begun_later}
use Rattle.seize_calls.specs.Together.{what_saw}
use Rattle.seize_parts.proofs.Placed.{at_some, label_same, placed, placed_slot, some_at, still_active, still_for}
use Rattle.seize_parts.proofs.reservation.Reservation.look.Goals as goal

pub agree-requires : goal.agree-requires
agree-requires g c = ap (λ (n : Name). n.family) c.seen.ensures.0 ∙ c.requires.of.1

pub current-requires : goal.current-requires
current-requires g c =
    let words = c.args.words.now in let r = c.args.self.now in let is = c.requires.of.0 in let for = c.requires.of.2 in let ready = c.teach.new.pass in let prepares = c.teach.ensures in
    let book = sym c.seen.ensures.0 ∙ c.agree.ensures in let within = at_some r.slot r.rest r.guards c.requires.some is.at in (
      omega arith,
      (
        (placed_slot words r is book, still_for words c.args.pass.now ready for prepares.same),
        (within.its.1 ∙ r.slot.together.numbered, begun_later r.rest (what_saw r.slot.seen) ready (prepares.same.0 ∙ sym for.0 ∙ sym book) prepares.grows.1 within.begun),
      ),
    )

pub returns-clause-follows : goal.returns-clause-follows
returns-clause-follows g c =
    let words = c.args.words.now in let r = c.args.self.now in let is = c.requires.of.0 in let current = c.current.ensures in let slot' = c.current.new.self in (
      (label_same r.slot slot' r.most current.looks.0.same, placed words slot' r.rest r.guards r.most current.of.0 (some_at slot' r.rest r.guards c.requires.some current.within.1) is.units is.fits),
      refl,
      refl,
    )

pub returns-clause-slot : goal.returns-clause-slot
returns-clause-slot g c = (c.current.ensures.of.0, c.current.ensures.within.1)

pub returns-clause-same : goal.returns-clause-same
returns-clause-same g c = c.current.ensures.looks.0.same.0

pub returns-clause-active : goal.returns-clause-active
returns-clause-active g c =
    let words = c.args.words.now in let r = c.args.self.now in let current = c.current.ensures in
    still_active words r.slot c.args.pass.now c.teach.new.pass c.current.new.self c.current.new.pass (placed_slot words r c.requires.of.0 (sym c.seen.ensures.0 ∙ c.agree.ensures))
    c.requires.of.2 c.teach.ensures current.looks current.within.0
