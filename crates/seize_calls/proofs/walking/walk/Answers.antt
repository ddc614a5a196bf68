use Rattle.std.proofs.Common.{lit<, sym, ◌∙◌}
use Rattle.seize_calls.proofs.Keeps.{keeps_book}
use Rattle.seize_calls.proofs.Walks.{counted_on, goes_down, is_at, less, none_walked, stops, walk_over}
use Rattle.seize_calls.proofs.walking.walk.Goals as goal

pub loop-leads-init : goal.loop-leads-init
loop-leads-init g c = (λ at. none_walked c.args.key.now c.args.word at c.args.pass.now c.args.values.now c.requires.book.2, c.requires.book.0, c.requires.knows)

pub count_down-rest-requires : goal.count_down-rest-requires
count_down-rest-requires g c =
    let l = c.loop-leads in let at = c.requires.at in let r = l.invariant.0 at in (
      lit< tt,
      (
        (l.invariant.1, c.requires.book.1 ∙ sym r.goes_on.0.on.same.0, r.none),
        (l.invariant.2, is_at r c.loop-leads-test.true),
      ),
    )

pub returns-then-zero-clause-book : goal.returns-then-zero-clause-book
returns-then-zero-clause-book g c =
    let l = c.loop-leads in let at = c.requires.at in let r = l.invariant.0 at in let down = c.count_down-rest in
    let batch = is_at r c.loop-leads-test.true in
    keeps_book c.args.key.now down.new.key c.args.pass.now down.new.pass (goes_down r batch (down.ensures.counts batch)).0 c.requires.book.0

pub returns-then-zero-clause-walks : goal.returns-then-zero-clause-walks
returns-then-zero-clause-walks g c = λ at.
    let l = c.loop-leads in let r = l.invariant.0 at in let down = c.count_down-rest in
    let batch = is_at r c.loop-leads-test.true in
    record {
      goes_on = goes_down r batch (down.ensures.counts batch);
      held = r.held;
      above = r.above;
      ends_so = stops r batch (down.ensures.counts batch) c.if-zero.true down.result.2 (down.ensures.front batch);
    }

pub loop-leads-smaller : goal.loop-leads-smaller
loop-leads-smaller g c =
    let l = c.loop-leads in let at = c.requires.at in let r = l.invariant.0 at in let down = c.count_down-rest in
    let batch = is_at r c.loop-leads-test.true in
    less r batch (down.ensures.counts batch) c.if-zero.false

pub loop-leads-preserved : goal.loop-leads-preserved
loop-leads-preserved g c =
    let l = c.loop-leads in let down = c.count_down-rest in
    let first = is_at (l.invariant.0 c.requires.at) c.loop-leads-test.true in (
      λ at.
          let r = l.invariant.0 at in let batch = is_at r c.loop-leads-test.true in
          counted_on r batch (down.ensures.counts batch) c.if-zero.false,
      keeps_book c.args.key.now down.new.key c.args.pass.now down.new.pass
          (goes_down (l.invariant.0 c.requires.at) first (down.ensures.counts first)).0 c.requires.book.0,
      down.ensures.knows,
    )

pub returns-clause-walks : goal.returns-clause-walks
returns-clause-walks g c = λ at.
    let l = c.loop-leads in let r = l.invariant.0 at in
    record { goes_on = r.goes_on; held = r.held; above = r.above; ends_so = walk_over r c.loop-leads-test.false }
