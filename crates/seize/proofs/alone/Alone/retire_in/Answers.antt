use Rattle.std.proofs.Common.{◌≡◌, ℕ, Some, List, false, slice_set, refl, sym, ap, subst, ◌∙◌, arith}
use mathlib.Core.List.{IsPrefix}
use Rattle.seize_model.specs.Waiting.Calls.{is_free, retire}
use Rattle.seize_model.specs.Waiting.State.{ModelState, model_slot}
use Rattle.seize_book.specs.Entry.{Entry}
use Rattle.seize_words.specs.Chunks.{IsLentAs}
use Rattle.seize_words.specs.Joined.{words_book}
use Rattle.seize_calls.specs.Slots.{its_value}
use Rattle.seize_alone.proofs.Outlines.{retire_links, retire_outline}
use Rattle.seize_alone.proofs.Sizes.{size_stays}
use Rattle.seize.specs.Alones.{View}
use Rattle.seize.specs.Takens.{taken_content}
use Rattle.seize_parts.specs.Enders.{IsEnderOf}
use Rattle.seize_parts.specs.Told.{told_of}
use Rattle.seize_parts.proofs.Lying.{held_is, place_there}
use Rattle.seize.proofs.Lone.{may_call}
use Rattle.seize.proofs.Outlined.{laid_again, outlined_again}
use Rattle.seize.proofs.Reclaimed.{retired}
use Rattle.seize.proofs.alone.Alone.retire_in.Goals as goal

pub index_mut-requires : goal.index_mut-requires
index_mut-requires g c =
    let a = c.self.invariant in let inside = c.self.inside in let s = c.args.s in let n = words_book inside.words in let st = inside.hands.state in
    let used : is_free (model_slot st s).kind ≡ false = ap (λ (v : View g.row.T.Denot). is_free (model_slot v.state s).kind) c.self.view_is ∙ c.requires.used in
    omega (arith, inside.places.ok.0, place_there n st inside.places.items a.placed s used)

pub retire-requires : goal.retire-requires
retire-requires g c =
    let a = c.self.invariant in let inside = c.self.inside in let s = c.args.s in let n = words_book inside.words in let st = inside.hands.state in
    let used : is_free (model_slot st s).kind ≡ false = ap (λ (v : View g.row.T.Denot). is_free (model_slot v.state s).kind) c.self.view_is ∙ c.requires.used in
    let place = c.held.result.now in let is = held_is n st inside.places.items a.placed s used c.index_mut.result.now place c.index_mut.ensures.value c.held.ensures.value in
    let its = c.into_loose-loose.ensures in (
      omega arith,
      ((may_call a s place is).0, (subst (IsEnderOf inside.words) (sym c.deref.ensures) a.ends, (its.its.1 ∙ c.requires.own.0 ∙ sym (ap (λ (v : View g.row.T.Denot). v.book) c.self.view_is), its.may.0))),
    )

pub of-requires : goal.of-requires
of-requires g c =
    let a = c.self.invariant in let inside = c.self.inside in let s = c.args.s in let n = words_book inside.words in let st = inside.hands.state in let P = g.R.Puts in
    let used : is_free (model_slot st s).kind ≡ false = ap (λ (v : View g.row.T.Denot). is_free (model_slot v.state s).kind) c.self.view_is ∙ c.requires.used in
    let place = c.held.result.now in let is = held_is n st inside.places.items a.placed s used c.index_mut.result.now place c.index_mut.ensures.value c.held.ensures.value in
    let loose = c.into_loose-loose.result.0 in let x = c.into_loose-loose.result.1.value in let kind = c.args.kind in
    let lent : IsLentAs (its_value loose) (g.row.T.coded.code x) = subst (λ (t : ℕ × g.row.T.Denot). IsLentAs t.0 (g.row.T.coded.code t.1)) (λ j. (sym c.into_loose-loose.ensures.its.0 j, sym c.into_loose-loose.ensures.content j)) c.requires.own.1 in
    let done = retired g.row.T.coded P.puts P.weight P.lighter g.W.Watch.told a.knows place.reservation c.retire.new.self.reservation c.retire.new.pass _ _ s loose kind x (may_call a s place is).1 c.retire.ensures.calls lent used in
    ((retire P.puts P.weight st s x kind).1.0, done.1.names, done.1.kinds, inside.hands.held, (refl, done.1.holds, refl))

pub invariant_of-self : goal.invariant_of-self
invariant_of-self g c =
    let a = c.self.invariant in let inside = c.self.inside in let s = c.args.s in let n = words_book inside.words in let st = inside.hands.state in let P = g.R.Puts in
    let used : is_free (model_slot st s).kind ≡ false = ap (λ (v : View g.row.T.Denot). is_free (model_slot v.state s).kind) c.self.view_is ∙ c.requires.used in
    let place = c.held.result.now in let is = held_is n st inside.places.items a.placed s used c.index_mut.result.now place c.index_mut.ensures.value c.held.ensures.value in
    let x = c.into_loose-loose.result.1.value in let kind = c.args.kind in let items = inside.places.items in let kept = c.retire.ensures.place in
    let now : ModelState g.row.T.Denot ℕ = (retire P.puts P.weight st s x kind).1.0 in let same = retire_outline P.puts P.weight st s x kind in
    outlined_again a c.retire.ensures.calls.same now c.of.result (slice_set items s (Some c.retire.new.self)) c.of.ensures.0 same (retire_links P.puts P.weight st s x kind) ((size_stays P.puts P.weight st s).3 x kind)
    (laid_again n st now s items c.retire.new.self same a.placed used (place_there n st items a.placed s used) (kept.0 ∙ is.0, kept.1))
    c.of.ensures.1 c.of.ensures.2

pub returns-clause-done : goal.returns-clause-done
returns-clause-done g c =
    let a = c.self.invariant in let inside = c.self.inside in let s = c.args.s in let n = words_book inside.words in let st = inside.hands.state in let P = g.R.Puts in
    let used : is_free (model_slot st s).kind ≡ false = ap (λ (v : View g.row.T.Denot). is_free (model_slot v.state s).kind) c.self.view_is ∙ c.requires.used in
    let place = c.held.result.now in let is = held_is n st inside.places.items a.placed s used c.index_mut.result.now place c.index_mut.ensures.value c.held.ensures.value in
    let loose = c.into_loose-loose.result.0 in let x = c.into_loose-loose.result.1.value in let kind = c.args.kind in
    let lent : IsLentAs (its_value loose) (g.row.T.coded.code x) = subst (λ (t : ℕ × g.row.T.Denot). IsLentAs t.0 (g.row.T.coded.code t.1)) (λ j. (sym c.into_loose-loose.ensures.its.0 j, sym c.into_loose-loose.ensures.content j)) c.requires.own.1 in
    let done = retired g.row.T.coded P.puts P.weight P.lighter g.W.Watch.told a.knows place.reservation c.retire.new.self.reservation c.retire.new.pass _ _ s loose kind x (may_call a s place is).1 c.retire.ensures.calls lent used in
    let given : (st, x) ≡ (c.args.self.now.state, taken_content c.args.value) = λ j. ((ap (λ (v : View g.row.T.Denot). v.state) c.self.view_is) j, c.into_loose-loose.ensures.content j) in (
      (
        sym done.0 ∙ ap (λ (t : ModelState g.row.T.Denot ℕ × g.row.T.Denot). (retire P.puts P.weight t.0 s t.1 kind).0) given,
        c.of.ensures.0 ∙ ap (λ (t : ModelState g.row.T.Denot ℕ × g.row.T.Denot). (retire P.puts P.weight t.0 s t.1 kind).1.0) given,
      ),
      done.1.hears ∙ ap (λ (t : ModelState g.row.T.Denot ℕ × g.row.T.Denot). told_of g.W.Watch.told (g.W.Watch.seen c.args.watch.now) (retire P.puts P.weight t.0 s t.1 kind).1.1) given,
    )

pub returns-clause-grows : goal.returns-clause-grows
returns-clause-grows g c =
    subst (λ (x : List Entry). IsPrefix x c.retire.new.pass.seen) (ap (λ (v : View g.row.T.Denot). v.seen) c.self.view_is) c.retire.ensures.calls.grows
