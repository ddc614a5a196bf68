use Rattle.std.proofs.Common.{◌≡◌, ◌==◌, ◌-◌, false, not, ℕ, Some, None, List, length, slice_set, refl, sym, ap, subst, ◌∙◌, arith}
use Rattle.std.proofs.lemmas.List.{length-set}
use mathlib.Core.List.{IsPrefix}
use Rattle.seize_model.specs.Waiting.Calls.{is_free, one_guard_less, set_guards}
use Rattle.seize_model.specs.Waiting.Further.{with_further}
use Rattle.seize_model.specs.Waiting.State.{ModelSlot, ModelState, has_guard, model_slot}
use Rattle.seize_book.specs.Entry.{Entry}
use Rattle.seize_words.specs.Joined.{words_book}
use Rattle.seize_alone.proofs.Outlines.{outline, part_links, part_outline, slots_in}
use Rattle.seize_alone.proofs.Sizes.{parts_size}
use Rattle.seize.specs.Alones.{View}
use Rattle.seize_parts.specs.Enders.{IsEnderOf}
use Rattle.seize_parts.specs.Placing.{ArePlaces}
use Rattle.seize_parts.specs.Told.{told_of}
use Rattle.seize_parts.proofs.Lying.{held_is, laid, place_there, slot_there}
use Rattle.seize.proofs.Lone.{alone_again, has_unit, may_call}
use Rattle.seize.proofs.Outlined.{places_still}
use Rattle.seize.proofs.Reclaimed.{parted}
use Rattle.seize.proofs.alone.Alone.part.Goals as goal

pub index_mut-requires : goal.index_mut-requires
index_mut-requires g c =
    let a = c.self.invariant in let inside = c.self.inside in let s = c.args.s in let n = words_book inside.words in let st = inside.hands.state in
    let used : is_free (model_slot st s).kind ≡ false = ap (λ (v : View g.row.T.Denot). is_free (model_slot v.state s).kind) c.self.view_is ∙ c.requires.0 in
    omega (arith, inside.places.ok.0, place_there n st inside.places.items a.placed s used)

pub leave-requires : goal.leave-requires
leave-requires g c =
    let a = c.self.invariant in let inside = c.self.inside in let s = c.args.s in let n = words_book inside.words in let st = inside.hands.state in
    let used : is_free (model_slot st s).kind ≡ false = ap (λ (v : View g.row.T.Denot). is_free (model_slot v.state s).kind) c.self.view_is ∙ c.requires.0 in
    let one : (model_slot st s).guards ≡ 1 = ap (λ (v : View g.row.T.Denot). (model_slot v.state s).guards) c.self.view_is ∙ c.requires.1 in
    let place = c.held.result.now in let is = held_is n st inside.places.items a.placed s used c.index_mut.result.now place c.index_mut.ensures.value c.held.ensures.value in
    (omega arith, (((may_call a s place is).0, has_unit a s place is (ap (λ (m : ℕ). not (m == 0)) one)), subst (IsEnderOf inside.words) (sym c.deref.ensures) a.ends))

pub of-requires : goal.of-requires
of-requires g c =
    let a = c.self.invariant in let inside = c.self.inside in let s = c.args.s in let n = words_book inside.words in let st = inside.hands.state in let P = g.R.Puts in
    let used : is_free (model_slot st s).kind ≡ false = ap (λ (v : View g.row.T.Denot). is_free (model_slot v.state s).kind) c.self.view_is ∙ c.requires.0 in
    let one : (model_slot st s).guards ≡ 1 = ap (λ (v : View g.row.T.Denot). (model_slot v.state s).guards) c.self.view_is ∙ c.requires.1 in
    let place = c.held.result.now in let is = held_is n st inside.places.items a.placed s used c.index_mut.result.now place c.index_mut.ensures.value c.held.ensures.value in
    let done = parted g.row.T.coded P.puts P.weight P.lighter g.W.Watch.told a.knows place.reservation c.leave.new.self.reservation c.leave.new.pass _ _ s (may_call a s place is).1 c.leave.ensures.calls used one in
    ((with_further P.puts P.weight s (one_guard_less st s)).0, done.0.names, done.0.kinds, inside.hands.held, (refl, done.0.holds, refl))

pub invariant_of-self : goal.invariant_of-self
invariant_of-self g c =
    let a = c.self.invariant in let inside = c.self.inside in let s = c.args.s in let n = words_book inside.words in let st = inside.hands.state in let P = g.R.Puts in
    let used : is_free (model_slot st s).kind ≡ false = ap (λ (v : View g.row.T.Denot). is_free (model_slot v.state s).kind) c.self.view_is ∙ c.requires.0 in
    let one : (model_slot st s).guards ≡ 1 = ap (λ (v : View g.row.T.Denot). (model_slot v.state s).guards) c.self.view_is ∙ c.requires.1 in
    let place = c.held.result.now in let is = held_is n st inside.places.items a.placed s used c.index_mut.result.now place c.index_mut.ensures.value c.held.ensures.value in
    let there = slot_there st s used in let slot' : ModelSlot g.row.T.Denot ℕ = record (model_slot st s) { guards = 0 } in let items = inside.places.items in let left = c.leave.ensures.place in let items' = slice_set items s (Some c.leave.new.self) in
    let then : ModelState g.row.T.Denot ℕ = (with_further P.puts P.weight s (one_guard_less st s)).0 in
    let now : c.of.result.state ≡ then = c.of.ensures.0 in
    let same : outline then ≡ outline (set_guards st s 0) = part_outline P.puts P.weight st s ∙ ap (λ (m : ℕ). outline (set_guards st s (m - 1))) one in
    alone_again a c.leave.ensures.calls.same a.numbered c.of.result items' inside.made
    (a.counted ∙ sym (ap (λ (x : ModelState g.row.T.Denot ℕ). length x.slots) now ∙ slots_in then (set_guards st s 0) same ∙ length-set st.slots s slot'))
    (ap (λ (x : ModelState g.row.T.Denot ℕ). x.size) now ∙ parts_size P.puts P.weight st s)
    (ap (λ (x : ModelState g.row.T.Denot ℕ). x.links) now ∙ part_links P.puts P.weight st s)
    (subst (λ (x : ModelState g.row.T.Denot ℕ). ArePlaces n x items') (sym now)
    (places_still n (set_guards st s 0) then items' same
    (laid n st s slot' items c.leave.new.self a.placed there (place_there n st items a.placed s used) used
    (left.0 ∙ (λ j. ((is.0 j).0, (0, ((is.0 j).1.1.0, (None, (is.0 j).1.1.1.1))))), left.1))))
    c.of.ensures.1 c.of.ensures.2

pub returns-clause-done : goal.returns-clause-done
returns-clause-done g c =
    let a = c.self.invariant in let inside = c.self.inside in let s = c.args.s in let n = words_book inside.words in let st = inside.hands.state in let P = g.R.Puts in
    let used : is_free (model_slot st s).kind ≡ false = ap (λ (v : View g.row.T.Denot). is_free (model_slot v.state s).kind) c.self.view_is ∙ c.requires.0 in
    let one : (model_slot st s).guards ≡ 1 = ap (λ (v : View g.row.T.Denot). (model_slot v.state s).guards) c.self.view_is ∙ c.requires.1 in
    let place = c.held.result.now in let is = held_is n st inside.places.items a.placed s used c.index_mut.result.now place c.index_mut.ensures.value c.held.ensures.value in
    let done = parted g.row.T.coded P.puts P.weight P.lighter g.W.Watch.told a.knows place.reservation c.leave.new.self.reservation c.leave.new.pass _ _ s (may_call a s place is).1 c.leave.ensures.calls used one in (
      c.of.ensures.0 ∙ ap (λ (v : View g.row.T.Denot). (with_further P.puts P.weight s (one_guard_less v.state s)).0) c.self.view_is,
      done.0.hears ∙ ap (λ (v : View g.row.T.Denot). told_of g.W.Watch.told (g.W.Watch.seen c.args.watch.now) (with_further P.puts P.weight s (one_guard_less v.state s)).1) c.self.view_is,
      sym (ap (λ (v : View g.row.T.Denot). is_free (model_slot (with_further P.puts P.weight s (one_guard_less v.state s)).0 s).kind) c.self.view_is) ∙ done.1,
      sym (ap (λ (v : View g.row.T.Denot). has_guard (model_slot (with_further P.puts P.weight s (one_guard_less v.state s)).0 s)) c.self.view_is) ∙ done.2,
    )

pub returns-clause-grows : goal.returns-clause-grows
returns-clause-grows g c =
    subst (λ (x : List Entry). IsPrefix x c.leave.new.pass.seen) (ap (λ (v : View g.row.T.Denot). v.seen) c.self.view_is) c.leave.ensures.calls.grows
