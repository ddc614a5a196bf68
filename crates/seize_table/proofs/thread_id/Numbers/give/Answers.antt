use Rattle.std.proofs.Common.{◌≡◌, true, refl, ◌∙◌, ap, arith, heap_items, false}
use Rattle.std.proofs.lemmas.Bool.{both_ways}
use Rattle.std.specs.FinSet as set
use Rattle.seize_table.specs.Free.{in_use}
use Rattle.seize_table.proofs.FreeNumbers.{is_used, fewer, roomy-push, in_use-push}
use Rattle.seize_table.proofs.thread_id.Numbers.give.Goals as goal

pub unreachable-requires : goal.unreachable-requires
unreachable-requires c =
    let was : set.contains (in_use c.self.inside.made (heap_items c.self.inside.free)) c.args.number ≡ true = ap (λ s. set.contains s c.args.number) c.self.view_is ∙ c.requires in
    let here = is_used _ _ _ was in
    let few = fewer _ _ _ _ c.self.invariant here.0 here.1 in
    let len = c.self.inside.free.data.ok.0 in
    let room = c.self.invariant.room_for_all in
    both_ways false refl (c.in-Err.ensures.succeeds (omega arith))

pub invariant_of-self : goal.invariant_of-self
invariant_of-self c =
    let was : set.contains (in_use c.self.inside.made (heap_items c.self.inside.free)) c.args.number ≡ true = ap (λ s. set.contains s c.args.number) c.self.view_is ∙ c.requires in
    let here = is_used _ _ _ was in
    roomy-push _ _ _ _ c.in-Ok.ensures.permutation _ _ c.self.invariant c.in-Ok.ensures.capacity (c.in-Ok.ensures.heap_order c.self.invariant.ordered) here.0 here.1

pub returns : goal.returns
returns c = in_use-push _ _ _ _ c.in-Ok.ensures.permutation ∙ ap (λ s. set.remove s c.args.number) c.self.view_is
