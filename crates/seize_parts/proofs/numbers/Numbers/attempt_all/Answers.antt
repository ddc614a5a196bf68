use Rattle.std.proofs.Common.{◌≡◌, ℕ, length, refl, sym, ap, subst, ◌∙◌, arith}
use Rattle.std.specs.List.{range_with_len}
use Rattle.seize_calls.specs.Furthers.{further_in}
use Rattle.seize_calls.specs.Handing.{IsServed}
use Rattle.seize_alone.specs.Reclaiming.{batches_in_turn}
use Rattle.seize_parts.specs.Aparts.{AreKeptOf, Fits}
use Rattle.seize_parts.proofs.Going.{batch_more, fits_then, goes_as, goes_none, goes_then}
use Rattle.seize_parts.proofs.InUse.{flags_long, here_below, places_then}
use Rattle.seize_parts.proofs.Keeping.{active_none, active_then, batches_all, idle_none, idle_then, kept_then, off_then, spent_more}
use Rattle.seize_parts.proofs.Outlined.{batches_outline, batches_size}
use Rattle.seize_parts.proofs.Placed.{still_for}
use Rattle.seize_parts.proofs.Swept.{keeps_none, keeps_then, still_sole}
use Rattle.seize_parts.proofs.numbers.Numbers.attempt_all.Goals as goal

pub loop-n-init : goal.loop-n-init
loop-n-init g c =
    let pass = c.args.pass.now in let queue = c.args.aside.now.queue in (
      c.requires.numbers.0,
      (refl, refl, refl, refl),
      c.requires.pass.0,
      c.requires.pass.1,
      (keeps_none pass, active_none pass, idle_none pass),
      (λ off i less. absurd (omega (arith, less))),
      refl,
      c.requires.queue,
      goes_none g.row.T.coded.code g.R.Puts.puts g.W.Watch.told (λ st. Fits pass st × AreKeptOf c.args.self.now.kept.items st) pass (g.W.Watch.seen c.args.aside.now.watch.now) queue (subst (IsServed (further_in queue)) c.requires.pass.0.0 c.requires.queue.0),
    )

pub attempt_at-requires : goal.attempt_at-requires
attempt_at-requires g c =
    let i = c.loop-n.invariant in let less = c.loop-n-test.true in let many = c.len-n-end.ensures in let end = c.loop-n.auto.n-end in
    let long : length c.loop-n.self.kept.items ≡ length c.args.self.now.kept.items = flags_long c.args.self.now.kept.items c.loop-n.self.kept.items i.1.2 in (
      omega arith,
      (
        (i.0, ap (λ seen. seen.name) i.1.0 ∙ c.requires.numbers.1, omega (arith, less, long, many, end)),
        ((i.2, i.3, c.requires.pass.2), i.7),
      ),
    )

pub loop-n-preserved : goal.loop-n-preserved
loop-n-preserved g c =
    let i = c.loop-n.invariant in let one = c.attempt_at.ensures in let W = g.W.Watch in let words = c.args.words.now in let first = c.args.pass.now in let was = c.loop-n.pass in let now = c.attempt_at.new.pass in let n = c.loop-n.n in
    let self0 = c.args.self.now in let self = c.loop-n.self in let self' = c.attempt_at.new.self in let same = one.on.0.0 in (
      one.numbers.0,
      places_then self0 self self' i.1 one.numbers.1,
      still_for words was now i.2 same,
      still_sole was now same i.3,
      (keeps_then first was now i.4.0 one.on.0, active_then first was now i.4.1 one.on.1, idle_then first was now i.4.2 one.on.2),
      (λ off. spent_more n self.kept.items self'.kept.items one.places (i.5 off) (one.spent (off_then first was i.4.1 off))),
      one.aside.0 ∙ i.6,
      one.aside.1,
      goes_as g.row.T.coded.code g.R.Puts.puts W.told (λ st may. may) (λ st may. sym (batch_more st n))
          (goes_then g.row.T.coded.code g.R.Puts.puts W.told i.8 one.goes (λ st names kinds may holds held. (
            fits_then first was st (batches_in_turn st (range_with_len 0 n)).0 i.8.same (batches_size st (range_with_len 0 n)) may.0,
            kept_then self0.kept.items self.kept.items st (batches_in_turn st (range_with_len 0 n)).0 i.1.2 (batches_outline st (range_with_len 0 n) (λ s. (may.1 s).1)) may.1,
          ))),
    )

pub returns-clause-numbers : goal.returns-clause-numbers
returns-clause-numbers g c = (c.loop-n.invariant.0, c.loop-n.invariant.1)

pub returns-clause-on : goal.returns-clause-on
returns-clause-on g c = c.loop-n.invariant.4

pub returns-clause-spent : goal.returns-clause-spent
returns-clause-spent g c off t slot is =
    let i = c.loop-n.invariant in let over = c.loop-n-test.false in let many = c.len-n-end.ensures in let end = c.loop-n.auto.n-end in
    let long : length c.loop-n.self.kept.items ≡ length c.args.self.now.kept.items = flags_long c.args.self.now.kept.items c.loop-n.self.kept.items i.1.2 in let below = here_below c.loop-n.self.kept.items t slot is in
    i.5 off t (omega (arith, over, many, end, long, below)) slot is

pub returns-clause-aside : goal.returns-clause-aside
returns-clause-aside g c = (c.loop-n.invariant.6, c.loop-n.invariant.7)

pub returns-clause-goes : goal.returns-clause-goes
returns-clause-goes g c =
    let i = c.loop-n.invariant in let W = g.W.Watch in let over = c.loop-n-test.false in let many = c.len-n-end.ensures in let end = c.loop-n.auto.n-end in let kept = c.args.self.now.kept.items in
    let all : c.loop-n.n ≡ length kept = omega (arith, over, many, end) in
    goes_as g.row.T.coded.code g.R.Puts.puts W.told (λ st may. may) (λ st may. ap (λ (k : ℕ). batches_in_turn st (range_with_len 0 k)) all ∙ batches_all kept st may.1) i.8
