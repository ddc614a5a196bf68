use Rattle.std.proofs.Common.{Some, inl, inr, ⊎_elim, refl, arith}
use Rattle.seize_calls.specs.Slots.{its_number}
use Rattle.seize_parts.proofs.InUse.{some_set}
use Rattle.seize_parts.proofs.Recovered.{found_below, found_numbers, found_on}
use Rattle.seize_parts.proofs.numbers.Numbers.recover_at.Goals as goal

pub index_mut-requires : goal.index_mut-requires
index_mut-requires g c =
    let looked = c.look-in-Some-into_slot in let known = c.look.ensures in
    let below = found_below c.args.words.now c.args.self.now c.requires.numbers.0 c.requires.numbers.1 c.in-Some-into_slot.slot looked.new.self c.args.pass.now c.into_slot.new.pass c.look.new.pass looked.new.pass c.requires.pass.0 c.requires.pass.1
    (its_number c.in-Some.reservation.slot) c.into_slot.ensures.led c.in-Some-into_slot.ensures.slot c.look.new.self known.looks known.used.1 looked.ensures.of.0 looked.ensures.looks in let number = c.number-n.ensures in let ok = c.args.self.now.kept.ok in omega (arith, below, number, ok.0)

pub returns-in-Some-into_slot-clause-numbers : goal.returns-in-Some-into_slot-clause-numbers
returns-in-Some-into_slot-clause-numbers g c =
    let looked = c.look-in-Some-into_slot in let known = c.look.ensures in
    let n = c.number-n.result in let kept = c.args.self.now.kept.items in (
      found_numbers c.args.words.now c.args.self.now c.requires.numbers.0 c.requires.numbers.1 c.in-Some-into_slot.slot looked.new.self c.args.pass.now c.into_slot.new.pass c.look.new.pass looked.new.pass c.requires.pass.0 c.requires.pass.1
          (its_number c.in-Some.reservation.slot) c.into_slot.ensures.led c.in-Some-into_slot.ensures.slot c.look.new.self known.looks known.used.1 looked.ensures.of.0 looked.ensures.looks c.number-n.result c.number-n.ensures known.rest.1 _ refl refl refl refl refl refl refl,
      (refl, refl, λ i. ⊎_elim (λ lies. inl lies) (λ held. inr (some_set kept n i (Some looked.new.self) refl held))),
      (refl, refl, refl),
    )

pub returns-in-Some-into_slot-clause-on : goal.returns-in-Some-into_slot-clause-on
returns-in-Some-into_slot-clause-on g c =
    let looked = c.look-in-Some-into_slot in let known = c.look.ensures in
    found_on c.args.words.now c.args.self.now c.requires.numbers.0 c.requires.numbers.1 c.in-Some-into_slot.slot looked.new.self c.args.pass.now c.into_slot.new.pass c.look.new.pass looked.new.pass c.requires.pass.0 c.requires.pass.1
    (its_number c.in-Some.reservation.slot) c.into_slot.ensures.led c.in-Some-into_slot.ensures.slot c.look.new.self known.looks known.used.1 looked.ensures.of.0 looked.ensures.looks
