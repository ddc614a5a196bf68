use Rattle.std.proofs.Common.{◌≡◌, ℕ, true, lit<, refl, sym, subst, ◌∙◌}
use Rattle.seize_book.specs.Values.{IsEmpty, values_of}
use Rattle.seize_book.specs.declared.book.value_keys.ValueKeys.{ValueKeys}
use Rattle.seize_words.proofs.Facts.{all_told_later}
use Rattle.seize_calls.specs.Attempts.{Retires}
use Rattle.seize_calls.specs.Batches.{keys_in}
use Rattle.seize_calls.specs.Furthers.{further_in}
use Rattle.seize_calls.specs.Numbered.{starts_at}
use Rattle.seize_calls.specs.Settling.{call_state}
use Rattle.seize_calls.specs.declared.batch.Batch.{Batch}
use Rattle.seize_calls.proofs.Holders.{under_way}
use Rattle.seize_calls.proofs.Laid.{lays_marked, lays_retired, lays_twice}
use Rattle.seize_calls.proofs.Settled.{given_now, has_handed, has_stayed, has_values, has_waited, none_kept, stays_keys}
use Rattle.seize_calls.proofs.holder.Holder.settle_full.Goals as goal

pub attempt-requires : goal.attempt-requires
attempt-requires g c =
    let is = c.requires.stands.0.holds in (lit< tt, ((is.keyed, c.requires.serves.1), (c.requires.stands.1.0, is.batch)))

-- the values that came out of the batch are those that were given up
pub hand_all-requires : goal.hand_all-requires
hand_all-requires g c =
    let e = c.in-GivenUp.ensures in let one = c.attempt.new in let a = call_state c.args.self.now c.args.pass.now c.args.queue.now (g.R.Reclaim.had c.args.reclaimer.now) in let is = c.requires.stands.0 in let m = c.requires.stands.1 in
    let out = c.take-front.ensures.out in let left = c.take-front.ensures.left in
    let r : Retires m.0 a.pass a.batch one.key one.pass c.take-front.result.1 true = subst (λ (v : ValueKeys). Retires m.0 a.pass a.batch one.key one.pass v true) (sym out.1) (e.ends m.0) in
    let starts = subst (λ (t : ℕ × ValueKeys). starts_at t.0 (values_of t.1) ≡ true) (λ i. (sym out.0 i, sym out.1 i)) one.batch.front in
    let given = given_now a m one.key one.pass c.take-front.result.1 _ r refl c.take-front.result.0 starts (has_values a m is.holds.keyed.its is.holds.keyed.knows) is.holds.batch in (
      lit< tt,
      (
        (
          under_way c.args.words.now c.args.self.now _ c.args.queue.now c.args.queue.now c.args.pass.now one.pass is r.on e.knows
              (none_kept one.key one.pass (keys_in c.take-front.new.self) (left.0 ∙ (e.ends m.0).keys.0, left.1) r.batch, is.queue_is.0 ∙ sym r.on.same.0, all_told_later a.pass.seen one.pass.seen a.queue.keys.held r.on.grows is.queue_is.1) is.holds.spots,
          c.requires.serves.0,
        ),
        given,
      ),
    )

pub returns-in-Stays-clause-settles : goal.returns-in-Stays-clause-settles
returns-in-Stays-clause-settles g c =
    let e = c.in-Stays.ensures in let a = call_state c.args.self.now c.args.pass.now c.args.queue.now (g.R.Reclaim.had c.args.reclaimer.now) in let m = c.requires.stands.1 in
    has_stayed a m c.attempt.new.key c.attempt.new.pass (e.ends m.0).0 (keys_in c.attempt.new.batch) (e.ends m.0).1

pub returns-in-Stays-clause-stands : goal.returns-in-Stays-clause-stands
returns-in-Stays-clause-stands g c =
    let e = c.in-Stays.ensures in let one = c.attempt.new in let queue = c.args.queue.now in let had = g.R.Reclaim.had c.args.reclaimer.now in let a = call_state c.args.self.now c.args.pass.now queue had in let is = c.requires.stands.0 in let m = c.requires.stands.1 in
    let stays = has_stayed a m one.key one.pass (e.ends m.0).0 (keys_in one.batch) (e.ends m.0).1 in
    (under_way c.args.words.now c.args.self.now _ queue queue c.args.pass.now one.pass is stays.on e.knows (stays_keys a _ stays (is.holds.batch, is.queue_is.0, is.queue_is.1)) is.holds.spots, c.requires.serves.0)

pub returns-in-Waits-clause-settles : goal.returns-in-Waits-clause-settles
returns-in-Waits-clause-settles g c =
    let e = c.in-Waits.ensures in let a = call_state c.args.self.now c.args.pass.now c.args.queue.now (g.R.Reclaim.had c.args.reclaimer.now) in let m = c.requires.stands.1 in
    has_waited a m c.attempt.new.key c.attempt.new.pass c.attempt.new.batch.values _ (e.ends m.0) refl

pub returns-in-Waits-clause-stands : goal.returns-in-Waits-clause-stands
returns-in-Waits-clause-stands g c =
    let e = c.in-Waits.ensures in let one = c.attempt.new in let queue = c.args.queue.now in let a = call_state c.args.self.now c.args.pass.now queue (g.R.Reclaim.had c.args.reclaimer.now) in let is = c.requires.stands.0 in let m = c.requires.stands.1 in let r = e.ends m.0 in
    let went = has_waited a m one.key one.pass one.batch.values _ r refl in (
      under_way c.args.words.now c.args.self.now _ queue queue c.args.pass.now one.pass is went.on e.knows
          (none_kept one.key one.pass (keys_in one.batch) went.none r.batch, is.queue_is.0 ∙ sym r.on.same.0, all_told_later a.pass.seen one.pass.seen a.queue.keys.held r.on.grows is.queue_is.1) is.holds.spots,
      c.requires.serves.0,
    )

pub returns-in-GivenUp-clause-settles : goal.returns-in-GivenUp-clause-settles
returns-in-GivenUp-clause-settles g c =
    let e = c.in-GivenUp.ensures in let one = c.attempt.new in let a = call_state c.args.self.now c.args.pass.now c.args.queue.now (g.R.Reclaim.had c.args.reclaimer.now) in let is = c.requires.stands.0 in let m = c.requires.stands.1 in
    let out = c.take-front.ensures.out in let left = c.take-front.ensures.left in let hand = c.hand_all in let full = has_values a m is.holds.keyed.its is.holds.keyed.knows in
    let r : Retires m.0 a.pass a.batch one.key one.pass c.take-front.result.1 true = subst (λ (v : ValueKeys). Retires m.0 a.pass a.batch one.key one.pass v true) (sym out.1) (e.ends m.0) in
    let starts = subst (λ (t : ℕ × ValueKeys). starts_at t.0 (values_of t.1) ≡ true) (λ i. (sym out.0 i, sym out.1 i)) one.batch.front in
    let given = given_now a m one.key one.pass c.take-front.result.1 _ r refl c.take-front.result.0 starts full is.holds.batch in
    has_handed a m one.key one.pass c.take-front.result.1 _ r refl c.take-front.result.0 starts full is.holds.batch
    hand.new.self.key hand.new.pass (keys_in hand.new.self.batch) hand.new.values (further_in hand.new.queue) (g.R.Reclaim.had hand.new.reclaimer)
    (subst (λ (b : Batch). IsEmpty (keys_in b) one.pass) (sym hand.ensures.handed.0) (left.0 ∙ (e.ends m.0).keys.0, left.1)) (hand.ensures.handed.1 given).0 (hand.ensures.handed.1 given).1

pub returns-in-Stays-clause-laid : goal.returns-in-Stays-clause-laid
returns-in-Stays-clause-laid g c = let at = c.requires.stands.1.0 in lays_marked at c.args.pass.now c.attempt.new.key c.attempt.new.pass c.args.self.now.spots (c.in-Stays.ensures.ends at).0

pub returns-in-Waits-clause-laid : goal.returns-in-Waits-clause-laid
returns-in-Waits-clause-laid g c =
    let at = c.requires.stands.1.0 in lays_retired at c.args.pass.now (keys_in c.args.self.now.batch) c.attempt.new.key c.attempt.new.pass (keys_in c.attempt.new.batch) _ c.args.self.now.spots (c.in-Waits.ensures.ends at)

pub returns-in-GivenUp-clause-laid : goal.returns-in-GivenUp-clause-laid
returns-in-GivenUp-clause-laid g c =
    let at = c.requires.stands.1.0 in let s = c.args.self.now in let pass = c.args.pass.now in let one = c.attempt.new in
    lays_twice pass one.pass c.hand_all.new.pass s.spots s.spots c.hand_all.new.self.spots (lays_retired at pass (keys_in s.batch) one.key one.pass (keys_in one.batch) _ s.spots (c.in-GivenUp.ensures.ends at)) c.hand_all.ensures.laid
