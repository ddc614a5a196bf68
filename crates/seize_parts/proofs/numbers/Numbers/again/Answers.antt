use Rattle.std.proofs.Common.{◌≡◌, ℕ, None, true, false, is_some, get_or, slice_set, refl, sym, ap, subst, ◌∙◌, arith}
use Rattle.std.specs.Option.{is_none}
use Rattle.std.specs.List.{count_by}
use Rattle.std.proofs.lemmas.List.{get_or_default}
use Rattle.seize_machine.specs.Machine.Event.{Take}
use Rattle.seize_machine.specs.declared.machine.event.Answer.TheVariants.{Done}
use Rattle.seize_machine.specs.declared.machine.event.Answer.{Answer}
use Rattle.seize_book.specs.Tokens.{IsSole}
use Rattle.seize_calls.specs.Slots.{IsOfList, IsRestIn}
use Rattle.seize_alone.proofs.Ready.{entry_alone}
use Rattle.seize_alone.specs.Events.{MakesAlone}
use Rattle.seize_parts.specs.Makes.{MakesOne}
use Rattle.seize_parts.proofs.Made.{slot_takes}
use Rattle.seize_parts.proofs.Numbered.{count_taken, ended, first_below, first_some, may_take_first, none_taken, nothing_after, slots_set}
use Rattle.seize_parts.proofs.Stilled.{alone_from, still_prepared}
use Rattle.seize_parts.proofs.numbers.Numbers.again.Goals as goal

pub unreachable-requires : goal.unreachable-requires
unreachable-requires g c =
    let items = c.args.self.now.slots.items in let there = c.index_mut.ensures.value in let found = c.requires.first in
    let some : is_some (get_or items c.args.n None) ≡ true = first_some items c.args.n found in
    let same = get_or_default items c.args.n None c.index_mut.result.now (first_below items c.args.n found) in
    let none : is_some (get_or items c.args.n None) ≡ false = ap is_some (same ∙ sym there ∙ sym c.take.ensures.value ∙ c.in_default.is) in
    cc

pub take_again-begun-requires : goal.take_again-begun-requires
take_again-begun-requires g c =
    let self = c.args.self.now in let items = self.slots.items in let found = c.requires.first in let numbers = c.requires.numbers in
    let is = get_or_default items c.args.n None c.index_mut.result.now (first_below items c.args.n found) ∙ sym c.index_mut.ensures.value ∙ sym c.take.ensures.value ∙ c.in-Some.is in
    let slot = c.in-Some.slot in let its = ended self numbers.0 c.args.n found slot is in (
      omega arith,
      (
        ((subst (λ n. IsOfList n slot) numbers.1 its.its, its.free, its.inactive), c.requires.pass),
        (
          (numbers.0.book ∙ numbers.1 ∙ c.requires.pass.0, subst (λ n. IsRestIn n self.key self.rest) numbers.1 numbers.0.rest),
          may_take_first self numbers.0 c.args.n found slot is,
        ),
      ),
    )

-- a slot lies there, so they are not none
pub overflow_sub-self : goal.overflow_sub-self
overflow_sub-self g c =
    let self = c.args.self.now in let free = c.requires.numbers.0.free in
    let one = count_taken self.slots.items c.args.n (first_some self.slots.items c.args.n c.requires.first) in omega (arith, free, one)

pub returns-clause-numbers : goal.returns-clause-numbers
returns-clause-numbers g c =
    let self = c.args.self.now in let items = self.slots.items in let found = c.requires.first in let numbers = c.requires.numbers in
    let is = get_or_default items c.args.n None c.index_mut.result.now (first_below items c.args.n found) ∙ sym c.index_mut.ensures.value ∙ sym c.take.ensures.value ∙ c.in-Some.is in
    let slot = c.in-Some.slot in let none = c.take.ensures.after in let one = c.take_again-begun in let ensured = one.ensures.numbers in
    let fewer = count_taken items c.args.n (first_some items c.args.n found) in let free = numbers.0.free in (
      slots_set self numbers.0 _ one.new.pass slot true ensured.0 c.args.n (ended self numbers.0 c.args.n found slot is).number c.take.new.self (ap is_none none)
          (λ s some. absurd (cc)) refl (omega (arith, free, fewer) ∙ ap (λ o. count_by is_some (slice_set items c.args.n o)) (sym none)) refl
          (subst (λ n. IsRestIn n one.new.numbers one.new.rest) (sym numbers.1) ensured.1) refl refl,
      refl,
      none_taken items c.args.n c.take.new.self found none,
      nothing_after slot one.new.self c.args.pass.now one.new.pass self.key one.new.numbers (numbers.0.book ∙ numbers.1 ∙ c.requires.pass.0) one.ensures.takes ensured.0.0,
    )

pub returns-clause-made : goal.returns-clause-made
returns-clause-made g c =
    let self = c.args.self.now in let items = self.slots.items in let found = c.requires.first in let numbers = c.requires.numbers in
    let is = get_or_default items c.args.n None c.index_mut.result.now (first_below items c.args.n found) ∙ sym c.index_mut.ensures.value ∙ sym c.take.ensures.value ∙ c.in-Some.is in
    let slot = c.in-Some.slot in let one = c.take_again-begun in let its = ended self numbers.0 c.args.n found slot is in (
      record {
        its = one.ensures.of.0;
        inactive = one.ensures.of.1;
        takes = subst (λ (s : ℕ). MakesOne c.args.pass.now one.new.pass (Take s) Done) (sym one.ensures.takes.same.0) (slot_takes slot c.args.pass.now one.new.self one.new.pass one.ensures.takes);
        alone = λ sole.
            let takes = one.ensures.takes in let still = still_prepared slot takes.prepares in let answer : Answer = takes.does.2.0.answer in
            (answer, subst (λ (s : ℕ). MakesAlone c.args.pass.now one.new.pass (Take s) answer) (sym takes.same.0) (alone_from sole still (entry_alone (subst IsSole (sym still.same.1) sole) takes.does refl)));
        took = λ begun. (slot, subst (λ n. IsOfList n slot) (sym its.its.book ∙ sym one.ensures.takes.same.1) its.its, sym one.ensures.takes.same.0, one.ensures.takes);
        sees = one.ensures.takes.does.1.2;
      },
      one.ensures.takes.same.0 ∙ its.number,
    )
