use Rattle.std.proofs.Common.{ℕ, ◌-◌, lit<, refl, sym, ◌∙◌, subst}
use Rattle.seize_book.specs.Others.{value_of}
use Rattle.seize_calls.specs.Furthers.{further_in}
use Rattle.seize_calls.proofs.Handings.{IsHanding, all_had, handed_on, handed_over, is_last, is_soon, is_there, its_book, none_handed, some_left}
use Rattle.seize_calls.proofs.Laid.{lays_one, lays_same, lays_twice}
use Rattle.seize_calls.proofs.holder.Holder.hand_all.Goals as goal

pub loop-front-init : goal.loop-front-init
loop-front-init g c = (
  λ given. none_handed given (further_in c.args.queue.now) (g.R.Reclaim.had c.args.reclaimer.now),
  c.requires.stands.0,
  c.requires.stands.1,
  lays_same c.args.pass.now c.args.pass.now c.args.self.now.spots refl,
  refl,
)

pub next-value-requires : goal.next-value-requires
next-value-requires g c =
    some_left (c.loop-front.invariant.0 c.requires.given)

pub hand_one-next-requires : goal.hand_one-next-requires
hand_one-next-requires g c =
    let l = c.loop-front in let given = c.requires.given in let r = l.invariant.0 given in let value = c.next-value.result in let rest = c.next-value.new.self in let nexts = c.next-value.ensures in (
      lit< tt,
      (
        (l.invariant.1, l.invariant.2),
        (
          (
            its_book r value rest nexts,
            is_last r value rest nexts,
            is_there r value rest nexts,
          ),
          is_soon r value rest nexts,
        ),
      ),
    )

pub returns-then-next-eq0-clause-handed : goal.returns-then-next-eq0-clause-handed
returns-then-next-eq0-clause-handed g c =
    let hand = c.hand_one-next in (
      hand.ensures.handed.0 ∙ c.loop-front.invariant.4,
      λ given.
          let l = c.loop-front in let r = l.invariant.0 given in let value = c.next-value.result in let rest = c.next-value.new.self in let nexts = c.next-value.ensures in
          (handed_over r value rest nexts hand.ensures.handed.1 hand.ensures.handed.2 (sym hand.ensures.next ∙ c.if-next-eq0.true), all_had r value rest nexts hand.ensures.handed.1 hand.ensures.handed.2 (sym hand.ensures.next ∙ c.if-next-eq0.true)),
    )

pub returns-then-next-eq0-clause-laid : goal.returns-then-next-eq0-clause-laid
returns-then-next-eq0-clause-laid g c =
    let l = c.loop-front in let given = c.requires.given in let value = c.next-value.result in let rest = c.next-value.new.self in let nexts = c.next-value.ensures in let hand = c.hand_one-next in
    lays_twice c.args.pass.now l.pass hand.new.pass c.args.self.now.spots l.self.spots hand.new.self.spots l.invariant.3
    (lays_one l.self.key l.pass (value_of value) (further_in l.queue) hand.new.self.key hand.new.pass (further_in hand.new.queue) l.self.spots hand.new.self.spots l.number hand.ensures.handed.1
    (is_there (l.invariant.0 given) value rest nexts) hand.ensures.laid)

pub loop-front-preserved : goal.loop-front-preserved
loop-front-preserved g c =
    let l = c.loop-front in let value = c.next-value.result in let rest = c.next-value.new.self in let nexts = c.next-value.ensures in
    let hand = c.hand_one-next in let had' = g.R.Reclaim.had hand.new.reclaimer in (
      λ given.
          subst (λ (w : ℕ). IsHanding given (further_in c.args.queue.now) (g.R.Reclaim.had c.args.reclaimer.now) hand.new.self.key hand.new.pass rest (further_in hand.new.queue) (w - 1) had') (sym hand.ensures.next)
          (handed_on (l.invariant.0 given) value rest nexts hand.ensures.handed.1 hand.ensures.handed.2
          (λ none. c.if-next-eq0.false (hand.ensures.next ∙ none))),
      hand.ensures.stands.0,
      hand.ensures.stands.1,
      let given = c.requires.given in
          lays_twice c.args.pass.now l.pass hand.new.pass c.args.self.now.spots l.self.spots hand.new.self.spots l.invariant.3
          (lays_one l.self.key l.pass (value_of value) (further_in l.queue) hand.new.self.key hand.new.pass (further_in hand.new.queue) l.self.spots hand.new.self.spots l.number hand.ensures.handed.1
          (is_there (l.invariant.0 given) value rest nexts) hand.ensures.laid),
      hand.ensures.handed.0 ∙ l.invariant.4,
    )
