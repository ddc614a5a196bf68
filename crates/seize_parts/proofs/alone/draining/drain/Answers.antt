use Rattle.std.proofs.Common.{ℕ, List, ◌++◌, true≢false, refl, sym, ap, subst, ◌∙◌}
use Rattle.seize_model.specs.Waiting.Further.{gone_from, put_by}
use Rattle.seize_book.specs.Kept.{kepts_of}
use Rattle.seize_book.specs.Values.{values_of}
use Rattle.seize_calls.specs.Furthers.{further_in}
use Rattle.seize_parts.specs.Aparts.{AreWaiting}
use Rattle.seize_parts.specs.Told.{told_of}
use Rattle.seize_parts.proofs.Aparts.{less_left, none_waits, some_waits, told_first, told_last, waiting_same}
use Rattle.seize_parts.proofs.alone.draining.drain.Goals as goal

pub loop-blocks-init : goal.loop-blocks-init
loop-blocks-init g c = (
  refl,
  c.requires.queue,
  c.of-waiting.ensures,
  λ vs waits. ap (λ (ws : List (g.row.T.Denot × ℕ)). told_of g.W.Watch.told (g.W.Watch.seen c.args.watch.now) (gone_from g.R.Puts.puts g.R.Puts.weight ws)) (waiting_same g.row.T.coded c.args.queue.now _ vs c.of-waiting.ensures waits),
)

pub of-waiting-requires-in-loop-blocks : goal.of-waiting-requires-in-loop-blocks
of-waiting-requires-in-loop-blocks g c =
    let l = c.loop-blocks in let code = g.row.T.coded.code in let waits = l.invariant.2 in
    let first = some_waits code (values_of (further_in l.queue)) (kepts_of (further_in l.queue)) l._waiting.values waits (λ none. true≢false (sym (c.is_empty.ensures.1 none) ∙ c.loop-blocks-test.true)) in
    (first.1 ++ put_by g.R.Puts.puts first.0, (c.give_up.ensures.goes first.0 first.1 (subst (AreWaiting code l.queue) first.2 waits)).1)

pub loop-blocks-smaller : goal.loop-blocks-smaller
loop-blocks-smaller g c =
    let l = c.loop-blocks in let code = g.row.T.coded.code in let waits = l.invariant.2 in let now = c.of-waiting-in-loop-blocks in
    let first = some_waits code (values_of (further_in l.queue)) (kepts_of (further_in l.queue)) l._waiting.values waits (λ none. true≢false (sym (c.is_empty.ensures.1 none) ∙ c.loop-blocks-test.true)) in
    let gone = c.give_up.ensures.goes first.0 first.1 (subst (AreWaiting code l.queue) first.2 waits) in
    let left = waiting_same g.row.T.coded c.give_up.new.queue now.result.values (first.1 ++ put_by g.R.Puts.puts first.0) now.ensures gone.1 in
    less_left g.R.Puts.puts g.R.Puts.weight g.R.Puts.lighter first.0 first.1 l._waiting.values now.result.values first.2 left

pub loop-blocks-preserved : goal.loop-blocks-preserved
loop-blocks-preserved g c =
    let l = c.loop-blocks in let code = g.row.T.coded.code in let waits = l.invariant.2 in let now = c.of-waiting-in-loop-blocks in let P = g.R.Puts in let W = g.W.Watch in
    let first = some_waits code (values_of (further_in l.queue)) (kepts_of (further_in l.queue)) l._waiting.values waits (λ none. true≢false (sym (c.is_empty.ensures.1 none) ∙ c.loop-blocks-test.true)) in
    let gone = c.give_up.ensures.goes first.0 first.1 (subst (AreWaiting code l.queue) first.2 waits) in
    let left = waiting_same g.row.T.coded c.give_up.new.queue now.result.values (first.1 ++ put_by P.puts first.0) now.ensures gone.1 in (
      c.give_up.ensures.pass ∙ l.invariant.0,
      c.give_up.ensures.served,
      now.ensures,
      λ vs were. told_first P.puts P.weight P.lighter W.told (W.seen l.watch) (W.seen c.give_up.new.watch) first.0 first.1 l._waiting.values now.result.values first.2 left gone.0 ∙ l.invariant.3 vs were,
    )

pub returns-clause-told : goal.returns-clause-told
returns-clause-told g c = λ vs were.
    let l = c.loop-blocks in let P = g.R.Puts in let W = g.W.Watch in
    let none = none_waits g.row.T.coded.code (values_of (further_in l.queue)) (kepts_of (further_in l.queue)) l._waiting.values l.invariant.2 (c.is_empty.ensures.0 c.loop-blocks-test.false) in
    sym (told_last P.puts P.weight P.lighter W.told (W.seen l.watch) l._waiting.values none) ∙ l.invariant.3 vs were
