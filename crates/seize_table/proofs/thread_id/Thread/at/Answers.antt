use Rattle.std.proofs.Common.{◌≤◌, ◌+◌, ◌^◌, arith, pow_mono}
use Rattle.seize_table.proofs.thread_id.Thread.at.Goals as goal

pub overflow_sub-result : goal.overflow_sub-result
overflow_sub-result c =
    let first : 5 ≤ c.args.bucket + 5 = omega arith in
    let low : 32 ≤ 2 ^ (c.args.bucket + 5) = pow_mono first in
    let is = c.bucket_capacity.ensures in omega arith

pub invariant_of-result : goal.invariant_of-result
invariant_of-result c =
    let first : 5 ≤ c.args.bucket + 5 = omega arith in
    let low : 32 ≤ 2 ^ (c.args.bucket + 5) = pow_mono first in
    let is = c.bucket_capacity.ensures in
    let inside = c.requires.entry in
    let below = c.requires.bucket in
    record { in_table = below; placed = record { place = omega arith; within = inside } }
