use Rattle.std.proofs.Common.{ap, arith, refl}
use Rattle.seize_book.specs.Tokens.{Name}
use Rattle.seize_calls.specs.Slots.{its_number}
use Rattle.seize_parts.specs.Reservations.{place_label}
use Rattle.seize_parts.proofs.Placed.{placed}
use Rattle.seize_parts.proofs.reservation.Reservation.new.Goals as goal

pub returns : goal.returns
returns g c =
    let slot = c.args.slot in let of = c.requires.0 in let rest = c.activation-rest.result in let whole = c.activation-rest.ensures in (
      placed c.args._words.now slot rest 0 c.args.most of (c.requires.1, whole) (omega (arith, whole.2)) (omega arith),
      ap (λ (n : Name). place_label n (its_number slot) c.args.most) of.0.book,
      refl,
    )
