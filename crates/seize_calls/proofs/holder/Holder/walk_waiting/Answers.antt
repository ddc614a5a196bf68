use Rattle.std.proofs.Common.{lit<, refl, sym, subst, ◌∙◌}
use Rattle.seize_book.specs.Values.{IsEmpty}
use Rattle.seize_book.specs.declared.book.pass.Pass.{Pass}
use Rattle.seize_calls.specs.Furthers.{further_in}
use Rattle.seize_calls.specs.Together.{IsUnderWay}
use Rattle.seize_calls.specs.Laying.{Lays}
use Rattle.seize_calls.specs.Walking.{WalksAll}
use Rattle.seize_calls.proofs.Holders.{under_on}
use Rattle.seize_calls.proofs.Laid.{lays_same, lays_twice, lays_walked}
use Rattle.seize_calls.proofs.Strolls.{given_now, handed_on, none_strolled, shorter, strolled}
use Rattle.seize_calls.proofs.holder.Holder.walk_waiting.Goals as goal

pub loop-values-init : goal.loop-values-init
loop-values-init g c =
    let pass = c.new-values.new.pass in let same = sym c.new-values.ensures.1 in (
      λ at. none_strolled c.args.self.now.key c.args.word at pass (further_in c.args.queue.now) (g.R.Reclaim.had c.args.reclaimer.now),
      subst (λ (p : Pass). IsUnderWay c.args.words.now c.args.self.now c.args.queue.now p) same c.requires.stands.0,
      c.requires.stands.1,
      lays_same pass pass c.args.self.now.spots refl,
      refl,
      subst (λ (p : Pass). IsEmpty c.new-values.result p) same c.new-values.ensures.0,
    )

pub walk-requires : goal.walk-requires
walk-requires g c =
    let l = c.loop-values in let stands = l.invariant.1.holds in (lit< tt, ((stands.keyed.its, stands.keyed.of.0, l.invariant.5), (stands.keyed.knows, (l.invariant.0 c.requires.at).here)))

pub returns-in-Over-clause-walks : goal.returns-in-Over-clause-walks
returns-in-Over-clause-walks g c = (
  c.loop-values.invariant.4,
  λ at.
      let l = c.loop-values in let pass = c.new-values.new.pass in let r = l.invariant.0 at in
      let old = g.R.Reclaim.had c.args.reclaimer.now in let had = g.R.Reclaim.had l.reclaimer in
      subst (λ (p : Pass). WalksAll at p (further_in c.args.queue.now) old c.walk.new.key c.walk.new.pass (further_in l.queue) had) c.new-values.ensures.1
      (strolled r (c.in-Over.ensures.walks r.here)),
)

pub returns-in-Over-clause-stands : goal.returns-in-Over-clause-stands
returns-in-Over-clause-stands g c =
    let l = c.loop-values in let over = c.in-Over.ensures.walks (l.invariant.0 c.requires.at).here in
    (under_on c.args.words.now l.self l.pass l.invariant.1.holds l.queue c.walk.new.key c.walk.new.pass l.invariant.1.queue_is over.goes_on.0 c.walk.ensures.knows, l.invariant.2)

pub returns-in-Over-clause-laid : goal.returns-in-Over-clause-laid
returns-in-Over-clause-laid g c =
    let l = c.loop-values in let pass = c.new-values.new.pass in let here = (l.invariant.0 c.requires.at).here in let spots = c.args.self.now.spots in
    subst (λ (p : Pass). Lays p spots c.walk.new.pass l.self.spots) c.new-values.ensures.1
    (lays_twice pass l.pass c.walk.new.pass spots l.self.spots l.self.spots l.invariant.3 (lays_walked here l.pass c.walk.new.key c.walk.new.pass c.walk.new.values _ l.self.spots (c.in-Over.ensures.walks here)))

pub hand_all-requires : goal.hand_all-requires
hand_all-requires g c =
    let l = c.loop-values in let r = l.invariant.0 c.requires.at in let w = c.in-GivesUp.ensures.walks r.here in (
      lit< tt,
      (
        (under_on c.args.words.now l.self l.pass l.invariant.1.holds l.queue c.walk.new.key c.walk.new.pass l.invariant.1.queue_is w.goes_on.0 c.walk.ensures.knows, l.invariant.2),
        given_now r w c.walk.ensures.book c.walk.ensures.knows,
      ),
    )

pub loop-values-smaller : goal.loop-values-smaller
loop-values-smaller g c =
    let l = c.loop-values in let at = c.requires.at in let r = l.invariant.0 at in let w = c.in-GivesUp.ensures.walks r.here in let hand = c.hand_all in
    let given_up = given_now r w c.walk.ensures.book c.walk.ensures.knows in
    shorter r w c.walk.ensures.book c.walk.ensures.knows (hand.ensures.handed.1 given_up).0 (hand.ensures.handed.1 given_up).1

pub loop-values-preserved : goal.loop-values-preserved
loop-values-preserved g c =
    let l = c.loop-values in let hand = c.hand_all in let first = l.invariant.0 c.requires.at in let w0 = c.in-GivesUp.ensures.walks first.here in
    let given0 = given_now first w0 c.walk.ensures.book c.walk.ensures.knows in
    let handed0 = (hand.ensures.handed.1 given0).0 in (
      λ at.
          let r = l.invariant.0 at in let w = c.in-GivesUp.ensures.walks r.here in
          let given_up = given_now r w c.walk.ensures.book c.walk.ensures.knows in
          handed_on r w c.walk.ensures.book c.walk.ensures.knows (hand.ensures.handed.1 given_up).0 (hand.ensures.handed.1 given_up).1,
      hand.ensures.stands.0,
      hand.ensures.stands.1,
      lays_twice c.new-values.new.pass c.walk.new.pass hand.new.pass c.args.self.now.spots l.self.spots hand.new.self.spots
          (lays_twice c.new-values.new.pass l.pass c.walk.new.pass c.args.self.now.spots l.self.spots l.self.spots l.invariant.3 (lays_walked first.here l.pass c.walk.new.key c.walk.new.pass c.walk.new.values _ l.self.spots w0))
          hand.ensures.laid,
      hand.ensures.handed.0 ∙ l.invariant.4,
      handed0.none,
    )
