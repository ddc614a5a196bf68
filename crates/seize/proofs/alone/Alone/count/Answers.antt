use Rattle.std.proofs.Common.{◌≡◌, ℕ, Bool, true, false, None, Some, if◌then◌else◌, length, slice_set, refl, sym, ap, subst, ◌∙◌, arith}
use Rattle.std.proofs.lemmas.List.{length-set}
use base.Growing.{prefix_refl}
use mathlib.Core.List.{IsPrefix}
use Rattle.seize_model.specs.declared.kind.Kind.TheVariants.{Registered}
use Rattle.seize_model.specs.Waiting.Calls.{is_free, set_guards}
use Rattle.seize_model.specs.Waiting.State.{ModelSlot, ModelState, has_guard, model_slot}
use Rattle.seize_words.specs.Joined.{words_book}
use Rattle.seize_alone.proofs.Singles.{guards_held}
use Rattle.seize.specs.Alones.{View}
use Rattle.seize_parts.specs.Placing.{ArePlaces, Lies}
use Rattle.seize_parts.specs.declared.alone.place.Place.{Place}
use Rattle.seize_parts.proofs.Lying.{held_is, laid, place_there, slot_there}
use Rattle.seize.proofs.Lone.{alone_again, some_guards}
use Rattle.seize.proofs.alone.Alone.count.Goals as goal

pub index_mut-requires : goal.index_mut-requires
index_mut-requires g c =
    let a = c.self.invariant in let inside = c.self.inside in let s = c.args.s in let n = words_book inside.words in let st = inside.hands.state in
    let used : is_free (model_slot st s).kind ≡ false = ap (λ (v : View g.row.T.Denot). is_free (model_slot v.state s).kind) c.self.view_is ∙ ap is_free c.requires.0 in
    omega (arith, inside.places.ok.0, place_there n st inside.places.items a.placed s used)

pub of-requires : goal.of-requires
of-requires g c =
    let a = c.self.invariant in let inside = c.self.inside in let s = c.args.s in let st = inside.hands.state in
    let kind : (model_slot st s).kind ≡ Registered = ap (λ (v : View g.row.T.Denot). (model_slot v.state s).kind) c.self.view_is ∙ c.requires.0 in
    let on : has_guard (model_slot st s) ≡ true = ap (λ (v : View g.row.T.Denot). has_guard (model_slot v.state s)) c.self.view_is ∙ c.requires.1 in (
      set_guards st s c.args.guards,
      inside.hands.names,
      inside.hands.kinds,
      inside.hands.held,
      (
        refl,
        guards_held g.row.T.coded st inside.hands.names inside.hands.kinds s c.args.guards inside.pass a.knows.holds kind on c.requires.2,
        refl,
      ),
    )

pub invariant_of-self : goal.invariant_of-self
invariant_of-self g c =
    let a = c.self.invariant in let inside = c.self.inside in let s = c.args.s in let n = words_book inside.words in let st = inside.hands.state in
    let used : is_free (model_slot st s).kind ≡ false = ap (λ (v : View g.row.T.Denot). is_free (model_slot v.state s).kind) c.self.view_is ∙ ap is_free c.requires.0 in
    let on : has_guard (model_slot st s) ≡ true = ap (λ (v : View g.row.T.Denot). has_guard (model_slot v.state s)) c.self.view_is ∙ c.requires.1 in
    let is = held_is n st inside.places.items a.placed s used c.index_mut.result.now c.held.result.now c.index_mut.ensures.value c.held.ensures.value in
    let there = slot_there st s used in let slot' : ModelSlot g.row.T.Denot ℕ = record (model_slot st s) { guards = c.args.guards } in let items = inside.places.items in
    let place : Place g.row.T.Denot = record c.held.result.now { guards = c.args.guards } in
    let now : c.of.result.state ≡ set_guards st s c.args.guards = c.of.ensures.0 in
    let same : has_guard (model_slot st s) ≡ has_guard slot' = on ∙ sym (some_guards c.args.guards c.requires.2) in
    let unit = ap (λ (t : Lies). t.1.1.1.0) is.0 ∙ ap (λ (b : Bool). if b then Some (s, n) else None) same in
    alone_again a {pass' = c.self.inside.pass} (refl, refl, refl) a.numbered c.of.result (slice_set items s (Some place)) inside.made
    (a.counted ∙ sym (ap (λ (x : ModelState g.row.T.Denot ℕ). length x.slots) now ∙ length-set st.slots s slot'))
    (ap (λ (x : ModelState g.row.T.Denot ℕ). x.size) now) (ap (λ (x : ModelState g.row.T.Denot ℕ). x.links) now)
    (subst (λ (x : ModelState g.row.T.Denot ℕ). ArePlaces n x (slice_set items s (Some place))) (sym now)
    (laid n st s slot' items place a.placed there (place_there n st items a.placed s used) used
    ((λ j. ((is.0 j).0, (c.args.guards, ((is.0 j).1.1.0, (unit j, (is.0 j).1.1.1.1))))), is.1)))
    c.of.ensures.1 c.of.ensures.2

pub returns-clause-done : goal.returns-clause-done
returns-clause-done g c = c.of.ensures.0 ∙ ap (λ (v : View g.row.T.Denot). set_guards v.state c.args.s c.args.guards) c.self.view_is

pub returns-clause-grows : goal.returns-clause-grows
returns-clause-grows g c = subst (λ (v : View g.row.T.Denot). IsPrefix v.seen c.self.inside.pass.seen) c.self.view_is (prefix_refl c.self.inside.pass.seen)
