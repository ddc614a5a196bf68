use Rattle.std.proofs.Common.{ℕ, ◌+◌, arith}
use Rattle.seize_calls.specs.Slots.{its_number}
use Rattle.seize_words.specs.Joined.{words_book}
use Rattle.seize_parts.proofs.Placed.{placed, some_at, unit_in, units_within}
use Rattle.seize_parts.proofs.reservation.Reservation.enter_beside.Goals as goal

pub returns-clause-follows : goal.returns-clause-follows
returns-clause-follows g c =
    let words = c.args.words.now in let r = c.args.self.now in let r' = c.look.new.self in let look = c.look.ensures in let is = look.follows.0.1 in let rest' = c.split-unit.new.self in let split = c.split-unit.ensures in
    let guards : ℕ = r'.guards + 1 in (
      look.follows.0.0,
      placed words r'.slot rest' guards r'.most look.slot.0 (some_at r'.slot rest' guards (omega arith) (units_within r'.slot r'.rest rest' rest'.units split.1 look.slot.1))
          (omega (arith, split.2, is.units)) (omega (arith, look.follows.1, look.follows.2, c.requires.beside.1)),
    )

pub returns-clause-unit : goal.returns-clause-unit
returns-clause-unit g c =
    let words = c.args.words.now in let r = c.args.self.now in let r' = c.look.new.self in let look = c.look.ensures in
    unit_in (words_book words) (its_number r.slot) r'.slot r'.rest c.split-unit.result c.seen.result look.slot.0.0.book look.same look.slot.1 c.split-unit.ensures.0 c.seen.ensures.0 c.seen.ensures.1
