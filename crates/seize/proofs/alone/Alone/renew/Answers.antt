use Rattle.std.proofs.Common.{◌≡◌, ◌==◌, ◌||◌, true, ℕ, Some, List, slice_set, refl, sym, ap, subst, ◌∙◌, arith}
use mathlib.Core.List.{IsPrefix}
use Rattle.seize_model.specs.Waiting.Calls.{is_owned, no_guard, refresh}
use Rattle.seize_model.specs.Waiting.State.{ModelState, model_slot}
use Rattle.seize_book.specs.Entry.{Entry}
use Rattle.seize_words.specs.Joined.{words_book}
use Rattle.seize_alone.proofs.Outlines.{refresh_links, refresh_outline}
use Rattle.seize_alone.proofs.Sizes.{size_stays}
use Rattle.seize.specs.Alones.{View}
use Rattle.seize_parts.specs.Enders.{IsEnderOf}
use Rattle.seize_parts.specs.Told.{told_of}
use Rattle.seize_parts.proofs.Lying.{held_is, place_there}
use Rattle.seize.proofs.Lone.{has_unit, may_call}
use Rattle.seize.proofs.Outlined.{laid_again, outlined_again}
use Rattle.seize.proofs.Reclaimed.{may_act, refreshed}
use Rattle.seize.proofs.alone.Alone.renew.Goals as goal

pub index_mut-requires : goal.index_mut-requires
index_mut-requires g c =
    let a = c.self.invariant in let inside = c.self.inside in let s = c.args.s in let n = words_book inside.words in let st = inside.hands.state in
    let may = may_act st s (ap (λ (v : View g.row.T.Denot). no_guard v.state s) c.self.view_is ∙ c.requires.0) in let used = may.0 in
    omega (arith, inside.places.ok.0, place_there n st inside.places.items a.placed s used)

pub refresh-requires : goal.refresh-requires
refresh-requires g c =
    let a = c.self.invariant in let inside = c.self.inside in let s = c.args.s in let n = words_book inside.words in let st = inside.hands.state in
    let may = may_act st s (ap (λ (v : View g.row.T.Denot). no_guard v.state s) c.self.view_is ∙ c.requires.0) in let used = may.0 in
    let place = c.held.result.now in let is = held_is n st inside.places.items a.placed s used c.index_mut.result.now place c.index_mut.ensures.value c.held.ensures.value in
    (omega arith, (((may_call a s place is).0, has_unit a s place is may.1), subst (IsEnderOf inside.words) (sym c.deref.ensures) a.ends))

pub of-requires : goal.of-requires
of-requires g c =
    let a = c.self.invariant in let inside = c.self.inside in let s = c.args.s in let n = words_book inside.words in let st = inside.hands.state in let P = g.R.Puts in
    let may = may_act st s (ap (λ (v : View g.row.T.Denot). no_guard v.state s) c.self.view_is ∙ c.requires.0) in let used = may.0 in
    let alone : (is_owned (model_slot st s).kind || ((model_slot st s).guards == 1)) ≡ true = ap (λ (v : View g.row.T.Denot). is_owned (model_slot v.state s).kind || ((model_slot v.state s).guards == 1)) c.self.view_is ∙ c.requires.1 in
    let place = c.held.result.now in let is = held_is n st inside.places.items a.placed s used c.index_mut.result.now place c.index_mut.ensures.value c.held.ensures.value in
    let done = refreshed g.row.T.coded P.puts P.weight P.lighter g.W.Watch.told a.knows place.reservation c.refresh.new.self.reservation c.refresh.new.pass _ _ s (may_call a s place is).1 c.refresh.ensures.calls used may.1 alone in
    ((refresh P.puts P.weight st s).1.0, done.1.names, done.1.kinds, inside.hands.held, (refl, done.1.holds, refl))

pub invariant_of-self : goal.invariant_of-self
invariant_of-self g c =
    let a = c.self.invariant in let inside = c.self.inside in let s = c.args.s in let n = words_book inside.words in let st = inside.hands.state in let P = g.R.Puts in
    let may = may_act st s (ap (λ (v : View g.row.T.Denot). no_guard v.state s) c.self.view_is ∙ c.requires.0) in let used = may.0 in
    let place = c.held.result.now in let is = held_is n st inside.places.items a.placed s used c.index_mut.result.now place c.index_mut.ensures.value c.held.ensures.value in
    let later : ModelState g.row.T.Denot ℕ = (refresh P.puts P.weight st s).1.0 in let same = refresh_outline P.puts P.weight st s in let items = inside.places.items in let kept = c.refresh.ensures.place in
    outlined_again a c.refresh.ensures.calls.same later c.of.result (slice_set items s (Some c.refresh.new.self)) c.of.ensures.0 same (refresh_links P.puts P.weight st s) (size_stays P.puts P.weight st s).1
    (laid_again n st later s items c.refresh.new.self same a.placed used (place_there n st items a.placed s used) (kept.0 ∙ is.0, kept.1))
    c.of.ensures.1 c.of.ensures.2

pub returns-clause-done : goal.returns-clause-done
returns-clause-done g c =
    let a = c.self.invariant in let inside = c.self.inside in let s = c.args.s in let n = words_book inside.words in let st = inside.hands.state in let P = g.R.Puts in
    let may = may_act st s (ap (λ (v : View g.row.T.Denot). no_guard v.state s) c.self.view_is ∙ c.requires.0) in let used = may.0 in
    let alone : (is_owned (model_slot st s).kind || ((model_slot st s).guards == 1)) ≡ true = ap (λ (v : View g.row.T.Denot). is_owned (model_slot v.state s).kind || ((model_slot v.state s).guards == 1)) c.self.view_is ∙ c.requires.1 in
    let place = c.held.result.now in let is = held_is n st inside.places.items a.placed s used c.index_mut.result.now place c.index_mut.ensures.value c.held.ensures.value in
    let done = refreshed g.row.T.coded P.puts P.weight P.lighter g.W.Watch.told a.knows place.reservation c.refresh.new.self.reservation c.refresh.new.pass _ _ s (may_call a s place is).1 c.refresh.ensures.calls used may.1 alone in (
      (
        sym done.0 ∙ ap (λ (v : View g.row.T.Denot). (refresh P.puts P.weight v.state s).0) c.self.view_is,
        c.of.ensures.0 ∙ ap (λ (v : View g.row.T.Denot). (refresh P.puts P.weight v.state s).1.0) c.self.view_is,
      ),
      done.1.hears ∙ ap (λ (v : View g.row.T.Denot). told_of g.W.Watch.told (g.W.Watch.seen c.args.watch.now) (refresh P.puts P.weight v.state s).1.1) c.self.view_is,
    )

pub returns-clause-grows : goal.returns-clause-grows
returns-clause-grows g c =
    subst (λ (x : List Entry). IsPrefix x c.refresh.new.pass.seen) (ap (λ (v : View g.row.T.Denot). v.seen) c.self.view_is) c.refresh.ensures.calls.grows
