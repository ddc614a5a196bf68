use Rattle.std.proofs.Common.{◌<◌, ◌≤◌, length, lit<, refl, ap, ℕ, List, arith}
use Rattle.seize_book.specs.Slots.{slot_of}
use Rattle.seize_book.specs.Values.{values_of}
use Rattle.seize_calls.specs.Settling.{call_state}
use Rattle.seize_calls.proofs.Batches.{counted_is}
use Rattle.seize_calls.proofs.Laid.{lays_same}
use Rattle.seize_calls.proofs.Onwards.{below_full, only_stays, settles_any}
use Rattle.seize_calls.proofs.holder.Holder.settle.Goals as goal

pub returns-then-self-least-clause-settles : goal.returns-then-self-least-clause-settles
returns-then-self-least-clause-settles g c =
    let s = c.args.self.now in let long = counted_is s.batch.len (values_of s.batch.values) s.batch.many in let fits = c.ranges.least.fits in let many = ap (λ (vs : List ℕ). length vs) c.requires.stands.0.holds.batch.1 in
    let few : length (slot_of s.key).batch < c.args.least = omega (arith, long, many, fits, c.if-self-least.true) in
    only_stays _ (call_state s c.args.pass.now c.args.queue.now (g.R.Reclaim.had c.args.reclaimer.now)) (below_full c.args.least _ few) (c.requires.stands.1.1 (below_full c.args.least _ few))

pub returns-then-self-least-clause-laid : goal.returns-then-self-least-clause-laid
returns-then-self-least-clause-laid g c = lays_same c.args.pass.now c.args.pass.now c.args.self.now.spots refl

pub settle_full-requires : goal.settle_full-requires
settle_full-requires g c =
    let s = c.args.self.now in let long = counted_is s.batch.len (values_of s.batch.values) s.batch.many in let many = ap (λ (vs : List ℕ). length vs) c.requires.stands.0.holds.batch.1 in
    let full : c.args.least ≤ length (slot_of s.key).batch = omega (arith, long, many, c.if-self-least.false) in (lit< tt, ((c.requires.stands.0, c.requires.stands.1.0 full), c.requires.serves))

pub returns-clause-settles : goal.returns-clause-settles
returns-clause-settles g c =
    let one = c.settle_full.new in settles_any _ (call_state c.args.self.now c.args.pass.now c.args.queue.now (g.R.Reclaim.had c.args.reclaimer.now)) (call_state one.self one.pass one.queue (g.R.Reclaim.had one.reclaimer)) _ c.settle_full.ensures.settles
