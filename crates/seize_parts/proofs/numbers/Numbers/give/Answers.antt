use Rattle.std.proofs.Common.{◌<◌, ℕ, None, Some, false, is_some, get_or, length, refl, sym, ap, subst, slice_set, ◌∙◌, arith}
use Rattle.seize_book.specs.Tokens.{IsSole}
use Rattle.seize_calls.specs.Slots.{IsRestIn}
use Rattle.seize_alone.proofs.Ready.{entry_alone}
use Rattle.seize_parts.specs.Numbers.{IsFreeAt}
use Rattle.seize_parts.proofs.Made.{slot_gives}
use Rattle.seize_parts.proofs.Stilled.{alone_from, still_prepared}
use Rattle.seize_parts.proofs.Numbered.{count_laid, given_ended, given_place, slots_set, some_same}
use Rattle.seize_parts.proofs.numbers.Numbers.give.Goals as goal

-- the slot is one of those that were made, so its place is there
pub index_mut-requires : goal.index_mut-requires
index_mut-requires g c =
    let self = c.args.self.now in let one = c.give in let number = c.number-n.ensures in let ok = self.slots.ok in
    let place = given_place self c.requires.numbers.0 c.args.slot one.new.self c.args.pass.now one.new.pass one.new.numbers one.ensures.gives one.ensures.numbers.0 one.ensures.was in let below = place.0 in
    omega (arith, below, number, ok.0)

pub returns-clause-numbers : goal.returns-clause-numbers
returns-clause-numbers g c =
    let self = c.args.self.now in let are = c.requires.numbers.0 in let slot = c.args.slot in let one = c.give in let n = c.number-n.result in let slot' = one.new.self in let number = c.number-n.ensures in
    let place = given_place self are slot slot' c.args.pass.now one.new.pass one.new.numbers one.ensures.gives one.ensures.numbers.0 one.ensures.was in
    let more = count_laid self.slots.items n slot' (subst (λ (k : ℕ). k < length self.slots.items) (sym number) place.0) (ap (λ (k : ℕ). is_some (get_or self.slots.items k None)) number ∙ place.1) in let free = are.free in (
      slots_set self are _ one.new.pass slot false one.ensures.numbers.0 n (sym number) (Some slot') refl
          (λ s is. subst (IsFreeAt self.book.name n) (some_same slot' s is) (subst (λ k. IsFreeAt self.book.name k slot') (one.ensures.gives.same.0 ∙ sym number) (given_ended self c.args.words.now slot' c.requires.numbers.1 one.ensures.of)))
          refl (omega (arith, free, more)) refl (subst (λ n. IsRestIn n one.new.numbers one.new.rest) (sym c.requires.numbers.1) one.ensures.numbers.1) refl refl,
      refl,
      refl,
    )

pub returns-clause-place : goal.returns-clause-place
returns-clause-place g c = (c.give.new.self, ap (λ (k : ℕ). slice_set c.args.self.now.slots.items k (Some c.give.new.self)) c.number-n.ensures)

pub returns-clause-gives : goal.returns-clause-gives
returns-clause-gives g c = slot_gives c.args.slot c.args.pass.now c.give.new.self c.give.new.pass c.give.ensures.gives

pub returns-clause-alone : goal.returns-clause-alone
returns-clause-alone g c sole =
    let gives = c.give.ensures.gives in let still = still_prepared c.args.slot gives.prepares in
    (gives.does.2.0.answer, alone_from sole still (entry_alone (subst IsSole (sym still.same.1) sole) gives.does refl))
