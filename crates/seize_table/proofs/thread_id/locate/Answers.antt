use Rattle.std.proofs.Common.{arith, ◌≡◌, ◌+◌, ◌-◌, ◌^◌, ap}
use Rattle.seize_table.proofs.Places.{top_above, top_below, place_is}
use Rattle.seize_table.proofs.thread_id.locate.Goals as goal

pub overflow_sub-bucket : goal.overflow_sub-bucket
overflow_sub-bucket c = top_above (c.args.id + 32) c.ilog2.result c.ilog2.ensures.power_le c.ilog2.ensures.next_power_gt (omega arith)

pub overflow_sub-result : goal.overflow_sub-result
overflow_sub-result c =
    let above = top_above (c.args.id + 32) c.ilog2.result c.ilog2.ensures.power_le c.ilog2.ensures.next_power_gt (omega arith) in
    let e : c.ilog2.result - 5 + 5 ≡ c.ilog2.result = omega arith in
    let p = ap (λ k. 2 ^ k) e in
    let len = c.bucket_capacity.ensures in let low = c.ilog2.ensures.power_le in omega arith

pub returns : goal.returns
returns c =
    let low = c.ilog2.ensures.power_le in let high = c.ilog2.ensures.next_power_gt in
    let above = top_above (c.args.id + 32) c.ilog2.result low high (omega arith) in
    let below = top_below (c.args.id + 32) c.ilog2.result low high (omega arith) in
    (omega arith, rw c.bucket_capacity.ensures (place_is c.args.id c.ilog2.result low high above))
