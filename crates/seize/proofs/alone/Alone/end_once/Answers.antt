use Rattle.std.proofs.Common.{◌≡◌, ℕ, ◌<◌, false, List, [], None, Option, Some, length, slice_set, sum_by, refl, sym, ap, subst, ◌∙◌, arith}
use Rattle.std.proofs.lemmas.List.{length-set, set-set}
use mathlib.Core.List.{IsPrefix}
use Rattle.seize_machine.specs.Machine.Event.{Give}
use Rattle.seize_model.specs.Waiting.Attempt.{StateAndGone, with_gone}
use Rattle.seize_model.specs.Waiting.Calls.{gathering, give_back, is_free, rest_and_batch, with_number_free}
use Rattle.seize_model.specs.Waiting.State.{ModelState, has_guard, model_slot, set_slot, unmade_slot}
use Rattle.seize_book.specs.Entry.{Entry}
use Rattle.seize_words.specs.Joined.{words_book}
use Rattle.seize_calls.specs.Slots.{its_number}
use Rattle.seize_alone.specs.Events.{MakesAlone}
use Rattle.seize_alone.proofs.Outlines.{gathering_links, gathering_outline, slots_in}
use Rattle.seize_alone.proofs.Singles.{gives_held}
use Rattle.seize_alone.proofs.Sizes.{size_stays}
use Rattle.seize.specs.Alones.{View}
use Rattle.seize_parts.specs.Placing.{ArePlaces, lying_in}
use Rattle.seize_parts.specs.Told.{Did, told_of}
use Rattle.seize_parts.specs.declared.alone.place.Place.{Place}
use Rattle.seize_parts.proofs.Called.{sole_still}
use Rattle.seize_parts.proofs.Lying.{place_is, place_there, set_place, slot_there, some_place}
use Rattle.seize_parts.proofs.Placed.{placed_slot, still_for}
use Rattle.seize_parts.proofs.Stilled.{alone_from}
use Rattle.seize.proofs.Gathered.{gathers, lies_again, looked_off}
use Rattle.seize.proofs.Giving.{gave_now, gave_then}
use Rattle.seize.proofs.Lone.{alone_again, may_call}
use Rattle.seize.proofs.Outlined.{laid_again, places_still}
use Rattle.seize.proofs.alone.Alone.end_once.Goals as goal

pub out-owned-requires : goal.out-owned-requires
out-owned-requires g c =
    let inside = c.self.inside in some_place (words_book inside.words) inside.hands.state inside.places.items c.self.invariant.placed c.args.s
    (ap (λ (v : View g.row.T.Denot). is_free (model_slot v.state c.args.s).kind) c.self.view_is ∙ c.requires.0)

pub agree-requires : goal.agree-requires
agree-requires g c =
    let a = c.self.invariant in let inside = c.self.inside in let s = c.args.s in let words = inside.words in let n = words_book words in let st = inside.hands.state in let place = c.out-owned.result in
    let used : is_free (model_slot st s).kind ≡ false = ap (λ (v : View g.row.T.Denot). is_free (model_slot v.state s).kind) c.self.view_is ∙ c.requires.0 in
    let is = place_is n st inside.places.items a.placed s used place c.out-owned.ensures.place in let may = may_call a s place is in
    ap (λ b. b.family) c.seen.ensures.0 ∙ may.0.1.0

pub look-requires : goal.look-requires
look-requires g c =
    let a = c.self.invariant in let inside = c.self.inside in let s = c.args.s in let words = inside.words in let n = words_book words in let st = inside.hands.state in let place = c.out-owned.result in
    let used : is_free (model_slot st s).kind ≡ false = ap (λ (v : View g.row.T.Denot). is_free (model_slot v.state s).kind) c.self.view_is ∙ c.requires.0 in
    let is = place_is n st inside.places.items a.placed s used place c.out-owned.ensures.place in let may = may_call a s place is in
    (omega arith, (placed_slot words place.reservation is.1 (sym c.seen.ensures.0 ∙ c.agree.ensures), a.knows.for))

pub end-requires : goal.end-requires
end-requires g c =
    let a = c.self.invariant in let inside = c.self.inside in let s = c.args.s in let words = inside.words in let n = words_book words in let st = inside.hands.state in let place = c.out-owned.result in
    let used : is_free (model_slot st s).kind ≡ false = ap (λ (v : View g.row.T.Denot). is_free (model_slot v.state s).kind) c.self.view_is ∙ c.requires.0 in
    let is = place_is n st inside.places.items a.placed s used place c.out-owned.ensures.place in let may = may_call a s place is in
    let off : has_guard (model_slot st s) ≡ false = ap (λ (v : View g.row.T.Denot). has_guard (model_slot v.state s)) c.self.view_is ∙ c.requires.1 in
    let look = c.look.new in let looked = looked_off a.knows place.reservation.slot look.self c.look.ensures.looks (sym c.seen.ensures.0 ∙ c.agree.ensures) s may.1 off in
    (omega arith, ((a.numbered.0, a.numbered.1, a.numbered.2), (still_for words inside.pass look.pass a.knows.for looked.0.same, (c.look.ensures.of.0, looked.2))))

-- the number goes back

pub of-requires : goal.of-requires
of-requires g c =
    let a = c.self.invariant in let inside = c.self.inside in let s = c.args.s in let words = inside.words in let n = words_book words in let st = inside.hands.state in let place = c.out-owned.result in
    let used : is_free (model_slot st s).kind ≡ false = ap (λ (v : View g.row.T.Denot). is_free (model_slot v.state s).kind) c.self.view_is ∙ c.requires.0 in
    let is = place_is n st inside.places.items a.placed s used place c.out-owned.ensures.place in let may = may_call a s place is in
    let off : has_guard (model_slot st s) ≡ false = ap (λ (v : View g.row.T.Denot). has_guard (model_slot v.state s)) c.self.view_is ∙ c.requires.1 in
    let look = c.look.new in let looked = looked_off a.knows place.reservation.slot look.self c.look.ensures.looks (sym c.seen.ensures.0 ∙ c.agree.ensures) s may.1 off in
    let number : its_number look.self ≡ s = c.look.ensures.looks.0.same.0 ∙ may.1 in let gave = c.in_default.ensures.alone (sole_still looked.0 a.knows.sole) in
    let makes : MakesAlone inside.pass c.end.new.pass (Give s) gave.0 = subst (λ (t : ℕ). MakesAlone inside.pass c.end.new.pass (Give t) gave.0) number (alone_from a.knows.sole looked.0 gave.1) in
    let held = gives_held g.row.T.coded st inside.hands.names inside.hands.kinds s gave.0 inside.pass c.end.new.pass makes a.knows.holds used off in let P = g.R.Puts in
    (with_number_free st s, inside.hands.names, inside.hands.kinds, inside.hands.held, (refl, held.0, refl))

pub invariant_of-self : goal.invariant_of-self
invariant_of-self g c =
    let a = c.self.invariant in let inside = c.self.inside in let s = c.args.s in let words = inside.words in let n = words_book words in let st = inside.hands.state in let place = c.out-owned.result in
    let used : is_free (model_slot st s).kind ≡ false = ap (λ (v : View g.row.T.Denot). is_free (model_slot v.state s).kind) c.self.view_is ∙ c.requires.0 in
    let is = place_is n st inside.places.items a.placed s used place c.out-owned.ensures.place in let may = may_call a s place is in
    let off : has_guard (model_slot st s) ≡ false = ap (λ (v : View g.row.T.Denot). has_guard (model_slot v.state s)) c.self.view_is ∙ c.requires.1 in
    let look = c.look.new in let looked = looked_off a.knows place.reservation.slot look.self c.look.ensures.looks (sym c.seen.ensures.0 ∙ c.agree.ensures) s may.1 off in
    let number : its_number look.self ≡ s = c.look.ensures.looks.0.same.0 ∙ may.1 in let gave = c.in_default.ensures.alone (sole_still looked.0 a.knows.sole) in
    let makes : MakesAlone inside.pass c.end.new.pass (Give s) gave.0 = subst (λ (t : ℕ). MakesAlone inside.pass c.end.new.pass (Give t) gave.0) number (alone_from a.knows.sole looked.0 gave.1) in
    let held = gives_held g.row.T.coded st inside.hands.names inside.hands.kinds s gave.0 inside.pass c.end.new.pass makes a.knows.holds used off in let P = g.R.Puts in
    let items = inside.places.items in let numbers = c.in_default.ensures.numbers in let set : ModelState g.row.T.Denot ℕ = set_slot st s unmade_slot in let left = with_number_free st s in
    let now : c.of.result.state ≡ left = c.of.ensures.0 in let items' = c.out-owned.new.places.items in
    alone_again a makes.same (numbers.0, ap (λ b. b.name) numbers.1 ∙ a.numbered.1, numbers.2) c.of.result items' inside.made
    (a.counted ∙ sym (ap (λ (x : ModelState g.row.T.Denot ℕ). length x.slots) now ∙ length-set st.slots s unmade_slot))
    (ap (λ (x : ModelState g.row.T.Denot ℕ). x.size) now) (ap (λ (x : ModelState g.row.T.Denot ℕ). x.links) now)
    (subst (λ (t : ModelState g.row.T.Denot ℕ × List (Option (Place g.row.T.Denot))). ArePlaces n t.0 t.1) (λ j. (sym now j, sym c.out-owned.ensures.places.0 j))
    (places_still n set left (slice_set items s None) refl
    (set_place n st items s unmade_slot None a.placed (slot_there st s used) c.out-owned.ensures.places.1 refl (λ x none. absurd (cc)))))
    c.of.ensures.1 c.of.ensures.2

pub returns-in_default-clause-gives : goal.returns-in_default-clause-gives
returns-in_default-clause-gives g c _ =
    let a = c.self.invariant in let inside = c.self.inside in let s = c.args.s in let words = inside.words in let n = words_book words in let st = inside.hands.state in let place = c.out-owned.result in
    let used : is_free (model_slot st s).kind ≡ false = ap (λ (v : View g.row.T.Denot). is_free (model_slot v.state s).kind) c.self.view_is ∙ c.requires.0 in
    let is = place_is n st inside.places.items a.placed s used place c.out-owned.ensures.place in let may = may_call a s place is in
    let off : has_guard (model_slot st s) ≡ false = ap (λ (v : View g.row.T.Denot). has_guard (model_slot v.state s)) c.self.view_is ∙ c.requires.1 in
    let look = c.look.new in let looked = looked_off a.knows place.reservation.slot look.self c.look.ensures.looks (sym c.seen.ensures.0 ∙ c.agree.ensures) s may.1 off in
    let number : its_number look.self ≡ s = c.look.ensures.looks.0.same.0 ∙ may.1 in let gave = c.in_default.ensures.alone (sole_still looked.0 a.knows.sole) in
    let makes : MakesAlone inside.pass c.end.new.pass (Give s) gave.0 = subst (λ (t : ℕ). MakesAlone inside.pass c.end.new.pass (Give t) gave.0) number (alone_from a.knows.sole looked.0 gave.1) in
    let held = gives_held g.row.T.coded st inside.hands.names inside.hands.kinds s gave.0 inside.pass c.end.new.pass makes a.knows.holds used off in let P = g.R.Puts in
    let law = gave_now P.puts P.weight P.lighter st s held.1 in let told = g.W.Watch.told in let seen = g.W.Watch.seen c.args.watch.now in
    subst (λ (x : ModelState g.row.T.Denot ℕ). Did told (give_back P.puts P.weight x s) c.of.result.state seen seen) (ap (λ (v : View g.row.T.Denot). v.state) c.self.view_is)
    (c.of.ensures.0 ∙ ap (λ (o : StateAndGone g.row.T.Denot ℕ). o.0) (sym law), ap (λ (o : StateAndGone g.row.T.Denot ℕ). told_of told seen o.1) (sym law))

-- it gathers

pub of-requires-2 : goal.of-requires-2
of-requires-2 g c =
    let a = c.self.invariant in let inside = c.self.inside in let s = c.args.s in let words = inside.words in let n = words_book words in let st = inside.hands.state in let place = c.out-owned.result in
    let used : is_free (model_slot st s).kind ≡ false = ap (λ (v : View g.row.T.Denot). is_free (model_slot v.state s).kind) c.self.view_is ∙ c.requires.0 in
    let is = place_is n st inside.places.items a.placed s used place c.out-owned.ensures.place in let may = may_call a s place is in
    let off : has_guard (model_slot st s) ≡ false = ap (λ (v : View g.row.T.Denot). has_guard (model_slot v.state s)) c.self.view_is ∙ c.requires.1 in
    let look = c.look.new in let looked = looked_off a.knows place.reservation.slot look.self c.look.ensures.looks (sym c.seen.ensures.0 ∙ c.agree.ensures) s may.1 off in
    let P = g.R.Puts in let went = c.resume_in in let gath = c.in-Some.ensures.gathers in let seen = g.W.Watch.seen c.args.watch.now in let seen' = g.W.Watch.seen went.new.watch in
    let it = gathers g.row.T.coded P.puts P.weight P.lighter g.W.Watch.told a.knows look.self c.in-Some.begun went.new.slot look.pass c.end.new.pass went.new.pass seen seen' s looked.0 gath went.ensures.of.0 went.ensures.resumes (c.look.ensures.looks.0.same.0 ∙ may.1) used off in
    ((gathering P.puts P.weight st s).0, it.now.names, it.now.kinds, inside.hands.held, (refl, it.now.holds, refl))

pub invariant_of-self-2 : goal.invariant_of-self-2
invariant_of-self-2 g c =
    let a = c.self.invariant in let inside = c.self.inside in let s = c.args.s in let words = inside.words in let n = words_book words in let st = inside.hands.state in let place = c.out-owned.result in
    let used : is_free (model_slot st s).kind ≡ false = ap (λ (v : View g.row.T.Denot). is_free (model_slot v.state s).kind) c.self.view_is ∙ c.requires.0 in
    let is = place_is n st inside.places.items a.placed s used place c.out-owned.ensures.place in let may = may_call a s place is in
    let off : has_guard (model_slot st s) ≡ false = ap (λ (v : View g.row.T.Denot). has_guard (model_slot v.state s)) c.self.view_is ∙ c.requires.1 in
    let look = c.look.new in let looked = looked_off a.knows place.reservation.slot look.self c.look.ensures.looks (sym c.seen.ensures.0 ∙ c.agree.ensures) s may.1 off in
    let P = g.R.Puts in let went = c.resume_in in let gath = c.in-Some.ensures.gathers in let seen = g.W.Watch.seen c.args.watch.now in let seen' = g.W.Watch.seen went.new.watch in
    let it = gathers g.row.T.coded P.puts P.weight P.lighter g.W.Watch.told a.knows look.self c.in-Some.begun went.new.slot look.pass c.end.new.pass went.new.pass seen seen' s looked.0 gath went.ensures.of.0 went.ensures.resumes (c.look.ensures.looks.0.same.0 ∙ may.1) used off in
    let items = inside.places.items in let items' = c.back.new.places.items in let numbers = c.in-Some.ensures.numbers in let then : ModelState g.row.T.Denot ℕ = (gathering P.puts P.weight st s).0 in
    let now : c.of-2.result.state ≡ then = c.of-2.ensures.0 in let same = gathering_outline P.puts P.weight st s in let back : Place g.row.T.Denot = record place { reservation = record place.reservation { slot = went.new.slot; guards = 0 } } in let resumed = went.ensures.resumes.1 in
    let lies = lies_again words place (lying_in n (model_slot st s) s) is went.new.slot went.ensures.of.0
    (resumed.same.0 ∙ gath.gathers.same.0 ∙ c.look.ensures.looks.0.same.0, resumed.same.1 ∙ gath.gathers.same.1 ∙ c.look.ensures.looks.0.same.1) looked.1 (went.ensures.of.1 ∙ gath.inactive) in
    let places : items' ≡ slice_set items s (Some back) = c.back.ensures ∙ ap (λ l. slice_set l s (Some back)) c.out-owned.ensures.places.0 ∙ set-set items s None (Some back) in
    alone_again a it.same (numbers.0, ap (λ b. b.name) numbers.1 ∙ a.numbered.1, numbers.2) c.of-2.result items' inside.made
    (a.counted ∙ sym (ap (λ (x : ModelState g.row.T.Denot ℕ). length x.slots) now ∙ slots_in then st same))
    (ap (λ (x : ModelState g.row.T.Denot ℕ). x.size) now ∙ (size_stays P.puts P.weight st s).5) (ap (λ (x : ModelState g.row.T.Denot ℕ). x.links) now ∙ gathering_links P.puts P.weight st s)
    (subst (λ (t : ModelState g.row.T.Denot ℕ × List (Option (Place g.row.T.Denot))). ArePlaces n t.0 t.1) (λ j. (sym now j, sym places j))
    (laid_again n st then s items back same a.placed used (place_there n st items a.placed s used) lies))
    c.of-2.ensures.1 c.of-2.ensures.2

pub returns-clause-gathers : goal.returns-clause-gathers
returns-clause-gathers g c _ =
    let a = c.self.invariant in let inside = c.self.inside in let s = c.args.s in let words = inside.words in let n = words_book words in let st = inside.hands.state in let place = c.out-owned.result in
    let used : is_free (model_slot st s).kind ≡ false = ap (λ (v : View g.row.T.Denot). is_free (model_slot v.state s).kind) c.self.view_is ∙ c.requires.0 in
    let is = place_is n st inside.places.items a.placed s used place c.out-owned.ensures.place in let may = may_call a s place is in
    let off : has_guard (model_slot st s) ≡ false = ap (λ (v : View g.row.T.Denot). has_guard (model_slot v.state s)) c.self.view_is ∙ c.requires.1 in
    let look = c.look.new in let looked = looked_off a.knows place.reservation.slot look.self c.look.ensures.looks (sym c.seen.ensures.0 ∙ c.agree.ensures) s may.1 off in
    let P = g.R.Puts in let went = c.resume_in in let gath = c.in-Some.ensures.gathers in let seen = g.W.Watch.seen c.args.watch.now in let seen' = g.W.Watch.seen went.new.watch in
    let it = gathers g.row.T.coded P.puts P.weight P.lighter g.W.Watch.told a.knows look.self c.in-Some.begun went.new.slot look.pass c.end.new.pass went.new.pass seen seen' s looked.0 gath went.ensures.of.0 went.ensures.resumes (c.look.ensures.looks.0.same.0 ∙ may.1) used off in
    subst (λ (x : ModelState g.row.T.Denot ℕ). Did g.W.Watch.told (gathering P.puts P.weight x s) c.of-2.result.state seen seen') (ap (λ (v : View g.row.T.Denot). v.state) c.self.view_is) (c.of-2.ensures.0, it.now.hears)

pub returns-clause-left : goal.returns-clause-left
returns-clause-left g c _ =
    let a = c.self.invariant in let inside = c.self.inside in let s = c.args.s in let words = inside.words in let n = words_book words in let st = inside.hands.state in let place = c.out-owned.result in
    let used : is_free (model_slot st s).kind ≡ false = ap (λ (v : View g.row.T.Denot). is_free (model_slot v.state s).kind) c.self.view_is ∙ c.requires.0 in
    let is = place_is n st inside.places.items a.placed s used place c.out-owned.ensures.place in let may = may_call a s place is in
    let off : has_guard (model_slot st s) ≡ false = ap (λ (v : View g.row.T.Denot). has_guard (model_slot v.state s)) c.self.view_is ∙ c.requires.1 in
    let look = c.look.new in let looked = looked_off a.knows place.reservation.slot look.self c.look.ensures.looks (sym c.seen.ensures.0 ∙ c.agree.ensures) s may.1 off in
    let P = g.R.Puts in let went = c.resume_in in let gath = c.in-Some.ensures.gathers in let seen = g.W.Watch.seen c.args.watch.now in let seen' = g.W.Watch.seen went.new.watch in
    let it = gathers g.row.T.coded P.puts P.weight P.lighter g.W.Watch.told a.knows look.self c.in-Some.begun went.new.slot look.pass c.end.new.pass went.new.pass seen seen' s looked.0 gath went.ensures.of.0 went.ensures.resumes (c.look.ensures.looks.0.same.0 ∙ may.1) used off in
    subst
    (λ (x : ModelState g.row.T.Denot ℕ). (give_back P.puts P.weight x s ≡ with_gone (gathering P.puts P.weight x s).1 (give_back P.puts P.weight (gathering P.puts P.weight x s).0 s))
    × (sum_by (λ v. P.weight v.0) (rest_and_batch (gathering P.puts P.weight x s).0 s) < sum_by (λ v. P.weight v.0) (rest_and_batch x s)))
    (ap (λ (v : View g.row.T.Denot). v.state) c.self.view_is) (gave_then P.puts P.weight P.lighter st s a.knows.holds used off it.first)

pub returns-clause-grows : goal.returns-clause-grows
returns-clause-grows g c =
    let a = c.self.invariant in let inside = c.self.inside in let s = c.args.s in let words = inside.words in let n = words_book words in let st = inside.hands.state in let place = c.out-owned.result in
    let used : is_free (model_slot st s).kind ≡ false = ap (λ (v : View g.row.T.Denot). is_free (model_slot v.state s).kind) c.self.view_is ∙ c.requires.0 in
    let is = place_is n st inside.places.items a.placed s used place c.out-owned.ensures.place in let may = may_call a s place is in
    let off : has_guard (model_slot st s) ≡ false = ap (λ (v : View g.row.T.Denot). has_guard (model_slot v.state s)) c.self.view_is ∙ c.requires.1 in
    let look = c.look.new in let looked = looked_off a.knows place.reservation.slot look.self c.look.ensures.looks (sym c.seen.ensures.0 ∙ c.agree.ensures) s may.1 off in
    let P = g.R.Puts in let went = c.resume_in in let gath = c.in-Some.ensures.gathers in let seen = g.W.Watch.seen c.args.watch.now in let seen' = g.W.Watch.seen went.new.watch in
    let it = gathers g.row.T.coded P.puts P.weight P.lighter g.W.Watch.told a.knows look.self c.in-Some.begun went.new.slot look.pass c.end.new.pass went.new.pass seen seen' s looked.0 gath went.ensures.of.0 went.ensures.resumes (c.look.ensures.looks.0.same.0 ∙ may.1) used off in
    subst (λ (x : List Entry). IsPrefix x went.new.pass.seen) (ap (λ (v : View g.row.T.Denot). v.seen) c.self.view_is) it.grows
