use Rattle.std.proofs.Common.{◌≡◌, ℕ, Bool, List, Option, None, Some, if◌then◌else◌, length, option_map, refl, sym, ap, subst, ◌∙◌, arith}
use mathlib.Core.List.{IsPrefix}
use Rattle.seize_model.specs.Waiting.Calls.{reclaim_all}
use Rattle.seize_model.specs.Waiting.State.{ModelState, model_slot}
use Rattle.seize_book.specs.Entry.{Entry}
use Rattle.seize_words.specs.Joined.{words_book}
use Rattle.seize.specs.Alones.{View}
use Rattle.seize_parts.specs.Enders.{IsEnderOf}
use Rattle.seize_parts.specs.Placing.{ArePlaces, what_lies_in, lying_in}
use Rattle.seize_parts.specs.Told.{told_of}
use Rattle.seize_parts.specs.declared.alone.place.Place.{Place}
use Rattle.seize_parts.proofs.Everything.{all_free, all_links, all_many, all_size}
use Rattle.seize.proofs.Lone.{alone_again, may_go}
use Rattle.seize.proofs.alone.Alone.reclaim_all.Goals as goal

pub clear-requires : goal.clear-requires
clear-requires g c =
    let a = c.self.invariant in let inside = c.self.inside in let hands = inside.hands in (
      omega arith,
      (
        (a.numbered.0, a.numbered.1, a.numbered.2),
        ((a.knows.for, a.knows.sole), ((hands.state, hands.names, hands.kinds, a.knows.holds, may_go a), subst (IsEnderOf inside.words) (sym c.deref.ensures) a.ends)),
      ),
    )

pub of-requires : goal.of-requires
of-requires g c =
    let a = c.self.invariant in let hands = c.self.inside.hands in let P = g.R.Puts in let gone = c.clear.ensures.goes hands.state hands.names hands.kinds (may_go a) a.knows.holds in
    ((reclaim_all P.puts P.weight hands.state).0, gone.0.0, gone.0.1, hands.held, (refl, gone.0.2, refl))

pub invariant_of-self : goal.invariant_of-self
invariant_of-self g c =
    let a = c.self.invariant in let inside = c.self.inside in let n = words_book inside.words in let st = inside.hands.state in let P = g.R.Puts in let numbers = c.clear.ensures.numbers in
    let left : ModelState g.row.T.Denot ℕ = (reclaim_all P.puts P.weight st).0 in let places = c.clear.new.places.items in
    let now : c.of.result.state ≡ left = c.of.ensures.0 in
    let placed : ArePlaces n left places = record {
      lie = λ s. ap (λ (o : Option (Place g.row.T.Denot)). option_map what_lies_in o) (c.clear.ensures.places s) ∙ ap (λ (b : Bool). if b then None else Some (lying_in n (model_slot left s) s)) (sym (all_free P.puts P.weight st s));
      sound = λ s place is. absurd (let none = sym (c.clear.ensures.places s) ∙ is in cc);
    } in
    alone_again a c.clear.ensures.grows.0 (numbers.0, ap (λ b. b.name) numbers.1 ∙ a.numbered.1, numbers.2) c.of.result places inside.made
    (a.counted ∙ sym (ap (λ (x : ModelState g.row.T.Denot ℕ). length x.slots) now ∙ all_many P.puts P.weight st))
    (ap (λ (x : ModelState g.row.T.Denot ℕ). x.size) now ∙ all_size P.puts P.weight st)
    (ap (λ (x : ModelState g.row.T.Denot ℕ). x.links) now ∙ all_links P.puts P.weight st)
    (subst (λ (x : ModelState g.row.T.Denot ℕ). ArePlaces n x places) (sym now) placed)
    c.of.ensures.1 c.of.ensures.2

pub returns-clause-done : goal.returns-clause-done
returns-clause-done g c =
    let a = c.self.invariant in let hands = c.self.inside.hands in let P = g.R.Puts in let gone = c.clear.ensures.goes hands.state hands.names hands.kinds (may_go a) a.knows.holds in (
      c.of.ensures.0 ∙ ap (λ (v : View g.row.T.Denot). (reclaim_all P.puts P.weight v.state).0) c.self.view_is,
      gone.1 ∙ ap (λ (v : View g.row.T.Denot). told_of g.W.Watch.told (g.W.Watch.seen c.args.watch.now) (reclaim_all P.puts P.weight v.state).1) c.self.view_is,
    )

pub returns-clause-grows : goal.returns-clause-grows
returns-clause-grows g c = subst (λ (x : List Entry). IsPrefix x c.clear.new.pass.seen) (ap (λ (v : View g.row.T.Denot). v.seen) c.self.view_is) c.clear.ensures.grows.1
