use Rattle.std.proofs.Common.{◌≡◌, ℕ, false, Some, List, length, slice_set, refl, sym, ap, subst, ◌∙◌, arith}
use Rattle.std.proofs.lemmas.List.{length-set}
use mathlib.Core.List.{IsPrefix}
use Rattle.seize_machine.specs.Machine.Event.{Enter}
use Rattle.seize_model.specs.Waiting.Calls.{is_free, set_guards}
use Rattle.seize_model.specs.Waiting.State.{ModelSlot, ModelState, has_guard, model_slot}
use Rattle.seize_book.specs.Entry.{Entry}
use Rattle.seize_words.specs.Joined.{words_book}
use Rattle.seize_alone.proofs.Singles.{enters_held}
use Rattle.seize_alone.specs.Events.{MakesAlone}
use Rattle.seize.specs.Alones.{View}
use Rattle.seize_parts.specs.Placing.{ArePlaces}
use Rattle.seize_parts.proofs.Lying.{head_held, held_is, laid, place_there, slot_there}
use Rattle.seize.proofs.Lone.{alone_again, made_grows, may_call}
use Rattle.seize.proofs.alone.Alone.begin.Goals as goal

pub index_mut-requires : goal.index_mut-requires
index_mut-requires g c =
    let a = c.self.invariant in let inside = c.self.inside in let s = c.args.s in let n = words_book inside.words in let st = inside.hands.state in
    let used : is_free (model_slot st s).kind ≡ false = ap (λ (v : View g.row.T.Denot). is_free (model_slot v.state s).kind) c.self.view_is ∙ c.requires.0 in
    omega (arith, inside.places.ok.0, place_there n st inside.places.items a.placed s used)

pub begin-requires : goal.begin-requires
begin-requires g c =
    let a = c.self.invariant in let inside = c.self.inside in let s = c.args.s in let n = words_book inside.words in let st = inside.hands.state in
    let used : is_free (model_slot st s).kind ≡ false = ap (λ (v : View g.row.T.Denot). is_free (model_slot v.state s).kind) c.self.view_is ∙ c.requires.0 in
    let off : has_guard (model_slot st s) ≡ false = ap (λ (v : View g.row.T.Denot). has_guard (model_slot v.state s)) c.self.view_is ∙ c.requires.1 in
    let place = c.held.result.now in let is = held_is n st inside.places.items a.placed s used c.index_mut.result.now place c.index_mut.ensures.value c.held.ensures.value in
    let may = may_call a s place is in
    (omega arith, (may.0, head_held a.knows.holds _ ∙ subst (λ (t : ℕ). has_guard (model_slot st t) ≡ false) (sym may.1) off))

pub of-requires : goal.of-requires
of-requires g c =
    let a = c.self.invariant in let inside = c.self.inside in let s = c.args.s in let n = words_book inside.words in let st = inside.hands.state in
    let used : is_free (model_slot st s).kind ≡ false = ap (λ (v : View g.row.T.Denot). is_free (model_slot v.state s).kind) c.self.view_is ∙ c.requires.0 in
    let off : has_guard (model_slot st s) ≡ false = ap (λ (v : View g.row.T.Denot). has_guard (model_slot v.state s)) c.self.view_is ∙ c.requires.1 in
    let place = c.held.result.now in let is = held_is n st inside.places.items a.placed s used c.index_mut.result.now place c.index_mut.ensures.value c.held.ensures.value in
    let may = may_call a s place is in let entered = c.begin.ensures.enters in let pass = inside.pass in let pass' = c.begin.new.pass in
    let makes : MakesAlone pass pass' (Enter s) entered.0 = subst (λ (t : ℕ). MakesAlone pass pass' (Enter t) entered.0) may.1 entered.1 in
    (set_guards st s 1, inside.hands.names, inside.hands.kinds, inside.hands.held, (refl, enters_held g.row.T.coded st inside.hands.names inside.hands.kinds s entered.0 pass pass' makes a.knows.holds used off, refl))

pub invariant_of-self : goal.invariant_of-self
invariant_of-self g c =
    let a = c.self.invariant in let inside = c.self.inside in let s = c.args.s in let n = words_book inside.words in let st = inside.hands.state in
    let used : is_free (model_slot st s).kind ≡ false = ap (λ (v : View g.row.T.Denot). is_free (model_slot v.state s).kind) c.self.view_is ∙ c.requires.0 in
    let place = c.held.result.now in let is = held_is n st inside.places.items a.placed s used c.index_mut.result.now place c.index_mut.ensures.value c.held.ensures.value in
    let may = may_call a s place is in
    let there = slot_there st s used in let slot' : ModelSlot g.row.T.Denot ℕ = record (model_slot st s) { guards = 1 } in let items = inside.places.items in let began = c.begin.ensures.place in let items' = slice_set items s (Some c.begin.new.self) in
    let now : c.of.result.state ≡ set_guards st s 1 = c.of.ensures.0 in
    alone_again a c.begin.ensures.enters.1.same a.numbered c.of.result items' inside.made
    (a.counted ∙ sym (ap (λ (x : ModelState g.row.T.Denot ℕ). length x.slots) now ∙ length-set st.slots s slot'))
    (ap (λ (x : ModelState g.row.T.Denot ℕ). x.size) now) (ap (λ (x : ModelState g.row.T.Denot ℕ). x.links) now)
    (subst (λ (x : ModelState g.row.T.Denot ℕ). ArePlaces n x items') (sym now)
    (laid n st s slot' items c.begin.new.self a.placed there (place_there n st items a.placed s used) used
    (began.0 ∙ (λ j. ((is.0 j).0, (1, ((is.0 j).1.1.0, (Some (may.1 j, n), (is.0 j).1.1.1.1))))), began.1)))
    c.of.ensures.1 c.of.ensures.2

pub returns-clause-done : goal.returns-clause-done
returns-clause-done g c =
    c.of.ensures.0 ∙ ap (λ (v : View g.row.T.Denot). set_guards v.state c.args.s 1) c.self.view_is

pub returns-clause-grows : goal.returns-clause-grows
returns-clause-grows g c =
    subst (λ (x : List Entry). IsPrefix x c.begin.new.pass.seen) (ap (λ (v : View g.row.T.Denot). v.seen) c.self.view_is) (made_grows c.begin.ensures.enters.1)
