use Rattle.std.proofs.Common.{◌≡◌, ℕ, ◌<◌, Some, List, true, false, slice_set, refl, sym, ap, subst, ◌∙◌, arith}
use mathlib.Core.List.{IsPrefix}
use Rattle.seize_model.specs.Waiting.Calls.{flush, is_free}
use Rattle.seize_model.specs.Waiting.State.{ModelState, has_guard, model_slot}
use Rattle.seize_book.specs.Entry.{Entry}
use Rattle.seize_words.specs.Joined.{words_book}
use Rattle.seize_alone.proofs.Outlines.{flush_links, flush_outline}
use Rattle.seize_alone.proofs.Sizes.{size_stays}
use Rattle.seize.specs.Alones.{View}
use Rattle.seize_parts.specs.Enders.{IsEnderOf}
use Rattle.seize_parts.specs.Told.{told_of}
use Rattle.seize_parts.proofs.Lying.{held_is, place_there}
use Rattle.seize.proofs.Lone.{has_unit, may_call, some_guards}
use Rattle.seize.proofs.Outlined.{kind_used, laid_again, outlined_again}
use Rattle.seize.proofs.Reclaimed.{flushed}
use Rattle.seize.proofs.alone.Alone.flush.Goals as goal

pub index_mut-requires : goal.index_mut-requires
index_mut-requires g c =
    let a = c.self.invariant in let inside = c.self.inside in let s = c.args.s in let n = words_book inside.words in let st = inside.hands.state in
    let known = c.in_ok-guarded.ensures.it in
    let used : is_free (model_slot st s).kind ≡ false = ap (λ (v : View g.row.T.Denot). is_free (model_slot v.state s).kind) c.self.view_is ∙ ap is_free known.1 ∙ kind_used c.in_ok-guarded.field-0.0 in
    omega (arith, inside.places.ok.0, place_there n st inside.places.items a.placed s used)

pub flush-requires : goal.flush-requires
flush-requires g c =
    let a = c.self.invariant in let inside = c.self.inside in let s = c.args.s in let n = words_book inside.words in let st = inside.hands.state in
    let known = c.in_ok-guarded.ensures.it in
    let used : is_free (model_slot st s).kind ≡ false = ap (λ (v : View g.row.T.Denot). is_free (model_slot v.state s).kind) c.self.view_is ∙ ap is_free known.1 ∙ kind_used c.in_ok-guarded.field-0.0 in
    let on : has_guard (model_slot st s) ≡ true = ap (λ (v : View g.row.T.Denot). has_guard (model_slot v.state s)) c.self.view_is ∙ some_guards (model_slot c.args.self.now.state s).guards (subst (λ (n : ℕ). 0 < n) (sym known.2) known.3) in
    let place = c.held.result.now in let is = held_is n st inside.places.items a.placed s used c.index_mut.result.now place c.index_mut.ensures.value c.held.ensures.value in
    (omega arith, (((may_call a s place is).0, has_unit a s place is on), subst (IsEnderOf inside.words) (sym c.deref.ensures) a.ends))

pub of-requires : goal.of-requires
of-requires g c =
    let a = c.self.invariant in let inside = c.self.inside in let s = c.args.s in let n = words_book inside.words in let st = inside.hands.state in let P = g.R.Puts in
    let known = c.in_ok-guarded.ensures.it in
    let used : is_free (model_slot st s).kind ≡ false = ap (λ (v : View g.row.T.Denot). is_free (model_slot v.state s).kind) c.self.view_is ∙ ap is_free known.1 ∙ kind_used c.in_ok-guarded.field-0.0 in
    let on : has_guard (model_slot st s) ≡ true = ap (λ (v : View g.row.T.Denot). has_guard (model_slot v.state s)) c.self.view_is ∙ some_guards (model_slot c.args.self.now.state s).guards (subst (λ (n : ℕ). 0 < n) (sym known.2) known.3) in
    let place = c.held.result.now in let is = held_is n st inside.places.items a.placed s used c.index_mut.result.now place c.index_mut.ensures.value c.held.ensures.value in
    let done = flushed g.row.T.coded P.puts P.weight P.lighter g.W.Watch.told a.knows place.reservation c.flush.new.self.reservation c.flush.new.pass _ _ s (may_call a s place is).1 c.flush.ensures.calls used on in
    ((flush P.puts P.weight st s).1.0, done.1.names, done.1.kinds, inside.hands.held, (refl, done.1.holds, refl))

pub invariant_of-self : goal.invariant_of-self
invariant_of-self g c =
    let a = c.self.invariant in let inside = c.self.inside in let s = c.args.s in let n = words_book inside.words in let st = inside.hands.state in let P = g.R.Puts in
    let known = c.in_ok-guarded.ensures.it in
    let used : is_free (model_slot st s).kind ≡ false = ap (λ (v : View g.row.T.Denot). is_free (model_slot v.state s).kind) c.self.view_is ∙ ap is_free known.1 ∙ kind_used c.in_ok-guarded.field-0.0 in
    let place = c.held.result.now in let is = held_is n st inside.places.items a.placed s used c.index_mut.result.now place c.index_mut.ensures.value c.held.ensures.value in
    let now : ModelState g.row.T.Denot ℕ = (flush P.puts P.weight st s).1.0 in let same = flush_outline P.puts P.weight st s in let items = inside.places.items in let kept = c.flush.ensures.place in
    outlined_again a c.flush.ensures.calls.same now c.of.result (slice_set items s (Some c.flush.new.self)) c.of.ensures.0 same (flush_links P.puts P.weight st s) (size_stays P.puts P.weight st s).2
    (laid_again n st now s items c.flush.new.self same a.placed used (place_there n st items a.placed s used) (kept.0 ∙ is.0, kept.1))
    c.of.ensures.1 c.of.ensures.2

pub returns-clause-done : goal.returns-clause-done
returns-clause-done g c =
    let a = c.self.invariant in let inside = c.self.inside in let s = c.args.s in let n = words_book inside.words in let st = inside.hands.state in let P = g.R.Puts in
    let known = c.in_ok-guarded.ensures.it in
    let used : is_free (model_slot st s).kind ≡ false = ap (λ (v : View g.row.T.Denot). is_free (model_slot v.state s).kind) c.self.view_is ∙ ap is_free known.1 ∙ kind_used c.in_ok-guarded.field-0.0 in
    let on : has_guard (model_slot st s) ≡ true = ap (λ (v : View g.row.T.Denot). has_guard (model_slot v.state s)) c.self.view_is ∙ some_guards (model_slot c.args.self.now.state s).guards (subst (λ (n : ℕ). 0 < n) (sym known.2) known.3) in
    let place = c.held.result.now in let is = held_is n st inside.places.items a.placed s used c.index_mut.result.now place c.index_mut.ensures.value c.held.ensures.value in
    let done = flushed g.row.T.coded P.puts P.weight P.lighter g.W.Watch.told a.knows place.reservation c.flush.new.self.reservation c.flush.new.pass _ _ s (may_call a s place is).1 c.flush.ensures.calls used on in (
      (
        sym done.0 ∙ ap (λ (v : View g.row.T.Denot). (flush P.puts P.weight v.state s).0) c.self.view_is,
        c.of.ensures.0 ∙ ap (λ (v : View g.row.T.Denot). (flush P.puts P.weight v.state s).1.0) c.self.view_is,
      ),
      done.1.hears ∙ ap (λ (v : View g.row.T.Denot). told_of g.W.Watch.told (g.W.Watch.seen c.args.watch.now) (flush P.puts P.weight v.state s).1.1) c.self.view_is,
    )

pub returns-clause-grows : goal.returns-clause-grows
returns-clause-grows g c =
    subst (λ (x : List Entry). IsPrefix x c.flush.new.pass.seen) (ap (λ (v : View g.row.T.Denot). v.seen) c.self.view_is) c.flush.ensures.calls.grows
