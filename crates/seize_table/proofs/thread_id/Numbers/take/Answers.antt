use Rattle.std.proofs.Common.{◌≡◌, sym, ◌∙◌, ap, subst, arith, false, heap_items, ◌+◌, Err}
use Rattle.std.specs.Result.{IsErrAnd}
use Rattle.seize_table.specs.declared.refusal.Refusal.TheVariants.{NoMemory, NoNumbers}
use Rattle.std.specs.FinSet as set
use Rattle.std.proofs.lemmas.Bool.{both_ways}
use Rattle.seize_table.specs.Free.{in_use, Least}
use Rattle.seize_table.proofs.FreeNumbers.{roomy-pop, least-pop, in_use-pop, in_table-pop, least-made, in_use-made, none_free}
use Rattle.seize_table.proofs.thread_id.Numbers.take.Goals as goal

pub invariant_of-self : goal.invariant_of-self
invariant_of-self c =
    rw c.in-Some.ensures.capacity (roomy-pop _ _ _ _ c.in-Some.ensures.permutation _ c.self.invariant (c.in-Some.ensures.heap_order c.self.invariant.ordered).0)

pub returns-in-Some-clause-in_table : goal.returns-in-Some-clause-in_table
returns-in-Some-clause-in_table c =
    let below = in_table-pop _ _ _ _ c.in-Some.ensures.permutation _ c.self.invariant in
    let top = c.self.invariant.in_table in omega arith

pub returns-in_err-reserve-clause-no_numbers : goal.returns-in_err-reserve-clause-no_numbers
returns-in_err-reserve-clause-no_numbers c =
    let none = none_free (heap_items c.self.inside.free) (sym c.self.inside.free.data.ok.0 ∙ c.in_default.ensures.none) in
    let least = least-made c.self.inside.made (heap_items c.self.inside.free) none in
    let unused : set.contains c.args.self.now c.self.inside.made ≡ false = sym (ap (λ s. set.contains s c.self.inside.made) c.self.view_is) ∙ least.unused in
    let top = c.if-number-gt-MAX_INDEX.false in
    let differ : c.from_residual.result ≡ Err NoNumbers → NoNumbers ≡ NoMemory = λ e. subst (λ r. IsErrAnd r (λ w. w ≡ NoMemory)) e c.from_residual.ensures.1 in
    (λ e. let w = differ e in cc, λ all. absurd (both_ways (set.contains c.args.self.now c.self.inside.made) unused (all c.self.inside.made top)))

pub returns-in-Some-clause-least : goal.returns-in-Some-clause-least
returns-in-Some-clause-least c = subst (λ s. Least s c.in-Some.field-0.0) c.self.view_is (least-pop _ _ _ _ c.in-Some.ensures.permutation _ c.self.invariant (c.in-Some.ensures.below_top c.self.invariant.ordered))

pub returns-in-Some-clause-taken : goal.returns-in-Some-clause-taken
returns-in-Some-clause-taken c = in_use-pop _ _ _ _ c.in-Some.ensures.permutation _ c.self.invariant ∙ ap (λ s. set.insert s c.in-Some.field-0.0) c.self.view_is

pub returns-in-Some-clause-no_numbers : goal.returns-in-Some-clause-no_numbers
returns-in-Some-clause-no_numbers c =
    let least = least-pop _ _ _ _ c.in-Some.ensures.permutation _ c.self.invariant (c.in-Some.ensures.below_top c.self.invariant.ordered) in
    let unused : set.contains c.args.self.now c.in-Some.field-0.0 ≡ false = sym (ap (λ s. set.contains s c.in-Some.field-0.0) c.self.view_is) ∙ least.unused in
    let below = in_table-pop _ _ _ _ c.in-Some.ensures.permutation _ c.self.invariant in
    let top = c.self.invariant.in_table in
    (λ e. cc, λ all. absurd (both_ways (set.contains c.args.self.now c.in-Some.field-0.0) unused (all c.in-Some.field-0.0 (omega arith))))

pub returns-clause-least : goal.returns-clause-least
returns-clause-least c =
    let none = none_free (heap_items c.self.inside.free) (sym c.self.inside.free.data.ok.0 ∙ c.in_default.ensures.none) in
    subst (λ s. Least s c.self.inside.made) c.self.view_is (least-made _ _ none)

pub returns-clause-taken : goal.returns-clause-taken
returns-clause-taken c =
    let none = none_free (heap_items c.self.inside.free) (sym c.self.inside.free.data.ok.0 ∙ c.in_default.ensures.none) in
    ap (in_use (c.self.inside.made + 1)) (c.in_ok-reserve.ensures.items ∙ c.in_default.ensures.unchanged.0) ∙ in_use-made _ _ none ∙ ap (λ s. set.insert s c.self.inside.made) c.self.view_is

pub returns-clause-no_numbers : goal.returns-clause-no_numbers
returns-clause-no_numbers c =
    let none = none_free (heap_items c.self.inside.free) (sym c.self.inside.free.data.ok.0 ∙ c.in_default.ensures.none) in
    let least = least-made c.self.inside.made (heap_items c.self.inside.free) none in
    let unused : set.contains c.args.self.now c.self.inside.made ≡ false = sym (ap (λ s. set.contains s c.self.inside.made) c.self.view_is) ∙ least.unused in
    let top = c.if-number-gt-MAX_INDEX.false in
    (λ e. cc, λ all. absurd (both_ways (set.contains c.args.self.now c.self.inside.made) unused (all c.self.inside.made top)))
