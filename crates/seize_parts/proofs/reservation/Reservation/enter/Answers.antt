use Rattle.std.proofs.Common.{ap, arith, refl, sym, subst, ◌∙◌}
use Rattle.seize_book.specs.Tokens.{IsSole, Name}
use Rattle.seize_calls.specs.Slots.{its_number}
use Rattle.seize_words.specs.Joined.{words_book}
use Rattle.seize_alone.proofs.Ready.{entry_alone}
use Rattle.seize_parts.proofs.Made.{slot_enters}
use Rattle.seize_parts.proofs.Placed.{at_none, label_same, placed, placed_slot, some_at, unit_in, units_within}
use Rattle.seize_parts.proofs.Places.{own_head}
use Rattle.seize_parts.proofs.Stilled.{alone_from, still_prepared}
use Rattle.seize_parts.proofs.reservation.Reservation.enter.Goals as goal

pub agree-requires : goal.agree-requires
agree-requires g c = ap (λ (n : Name). n.family) c.seen.ensures.0 ∙ c.requires.of.1

pub enter-requires : goal.enter-requires
enter-requires g c =
    let words = c.args.words.now in let r = c.args.self.now in let is = c.requires.of.0 in
    let book = sym c.seen.ensures.0 ∙ c.agree.ensures in
    (omega arith, ((placed_slot words r is book, c.requires.of.2), (own_head r.slot (words_book words) (its_number r.slot) c.args.head.now c.requires.head book refl, at_none r.slot r.rest r.guards c.requires.first.0 is.at)))

pub returns-clause-follows : goal.returns-clause-follows
returns-clause-follows g c =
    let words = c.args.words.now in let r = c.args.self.now in let slot' = c.enter.new.self in let rest = c.enter.new.activation in let rest' = c.split-unit.new.self in
    let enters = c.enter.ensures in let split = c.split-unit.ensures in (
      label_same r.slot slot' r.most enters.enters.same,
      placed words slot' rest' 1 r.most enters.of (some_at slot' rest' 1 (omega arith) (units_within slot' rest rest' rest'.units split.1 enters.activation.0)) (split.2 ∙ enters.activation.1) c.requires.first.1,
    )

pub returns-clause-unit : goal.returns-clause-unit
returns-clause-unit g c =
    let words = c.args.words.now in let r = c.args.self.now in let enters = c.enter.ensures in
    unit_in (words_book words) (its_number r.slot) c.enter.new.self c.enter.new.activation c.split-unit.result c.seen-2.result enters.of.0.book enters.enters.same.0 enters.activation.0
    c.split-unit.ensures.0 c.seen-2.ensures.0 c.seen-2.ensures.1

pub returns-clause-enters : goal.returns-clause-enters
returns-clause-enters g c = slot_enters c.args.self.now.slot c.args.pass.now c.enter.new.self c.enter.new.pass c.enter.new.activation c.enter.ensures.enters

pub returns-clause-alone : goal.returns-clause-alone
returns-clause-alone g c sole =
    let enters = c.enter.ensures.enters in let still = still_prepared c.args.self.now.slot enters.prepares in
    (enters.does.2.0.answer, alone_from sole still (entry_alone (subst IsSole (sym still.same.1) sole) enters.does refl))
