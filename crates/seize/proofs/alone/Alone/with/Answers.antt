use Rattle.std.proofs.Common.{◌≡◌, ℕ, List, [], Option, None, get_or, length, option_map, refl, sym, ap, subst, ◌∙◌}
use Rattle.std.proofs.lemmas.List.{length-replicate}
use Rattle.seize_machine.specs.Machine.State.{are_distinct, linked_values}
use Rattle.seize_parts.specs.Enders.{IsEnderIn}
use Rattle.seize_model.specs.Waiting.State.{ModelState, new, model_slot}
use Rattle.seize_book.specs.Entry.{Entry}
use Rattle.seize_book.specs.Homesteads.{state_seen}
use Rattle.seize_book.specs.Porters.{Shuts}
use Rattle.seize_book.specs.Tokens.{IsSole, Name}
use Rattle.seize_book.specs.declared.book.pass.Pass.{Pass}
use Rattle.seize_book.specs.declared.book.seen.Seen.{Seen}
use Rattle.seize_words.specs.Named.{link_count}
use Rattle.seize_alone.specs.Holding.{Holds}
use Rattle.seize_parts.specs.Placing.{lies_for, what_lies_in}
use Rattle.seize_parts.specs.declared.alone.place.Place.{Place}
use Rattle.seize.proofs.Fresh.{holds_new}
use Rattle.seize.proofs.Still.{names_from, names_many, stand_first}
use Rattle.seize.proofs.alone.Alone.with.Goals as goal

pub first-hands-requires : goal.first-hands-requires
first-hands-requires g c =
    let o = c.in_ok-words.ensures.made in let pass = c.new-numbers.new.pass in let shut = subst (λ (p : Pass). Shuts c.in_ok-words.porter p) (sym c.new-numbers.ensures.pass) c.shut-pass.ensures in let book = c.in_ok-words.words.blocks.book in let size = c.args.size in let links = c.args.links in
    let seen : pass.seen ≡ [] = shut.was o.0.3 ∙ o.0.2 in
    (new size links, [], [], names_from (state_seen pass) 0 (length pass.name.links), (refl, subst (λ (t : Name × List Entry). Holds g.row.T.coded.code (new size links) [] [] t.0 t.1) (λ j. (sym (shut.book.0 ∙ o.0.0) j, sym seen j)) (holds_new g.row.T.coded.code book.name size links o.1.began.0.0 o.1.began.0.1), refl))

pub invariant_of-result : goal.invariant_of-result
invariant_of-result g c =
    let o = c.in_ok-words.ensures.made in let pass = c.new-numbers.new.pass in let shut = subst (λ (p : Pass). Shuts c.in_ok-words.porter p) (sym c.new-numbers.ensures.pass) c.shut-pass.ensures in let words = c.in_ok-words.words in let n = words.blocks.book.name in let began = o.1.began.0 in
    let first = c.first-hands.ensures in let hands = c.first-hands.result in let rested = c.rest.ensures in let name : pass.name ≡ n = shut.book.0 ∙ o.0.0 in
    let many : length pass.name.links ≡ link_count c.rest.new.self = ap (λ (n : Name). length n.links) (name ∙ sym words.linked) ∙ ap (λ (b : Seen). length b.name.links) (sym rested.same) in record {
      knows = record {
        for = (sym name ∙ sym (ap (λ (p : Pass). p.name) rested.pass), o.2 ∙ sym o.0.1 ∙ sym shut.book.1 ∙ sym (ap (λ (p : Pass). p.size) rested.pass));
        sole = subst (λ (p : Pass). IsSole p.id) (sym rested.pass) shut.alone;
        size = ap (λ (x : ModelState g.row.T.Denot ℕ). x.size) first.0 ∙ sym o.0.1 ∙ sym shut.book.1 ∙ sym (ap (λ (p : Pass). p.size) rested.pass);
        distinct = ap (λ (p : Pass). are_distinct (linked_values p.name.links)) rested.pass ∙ ap (λ (m : Name). are_distinct (linked_values m.links)) shut.book.0 ∙ shut.goes_on.distinct;
        holds = subst (λ (p : Pass). Holds g.row.T.coded.code hands.state hands.names hands.kinds p.name p.seen) (sym rested.pass) first.1;
      };
      numbered = let numbers = c.new-numbers.ensures.numbers in (numbers.0, numbers.2, numbers.1);
      ends = subst (IsEnderIn n) (sym c.in-Ok.ensures.ok) (c.in_ok-words.ensures.permits.0, c.in_ok-words.ensures.permits.1, c.in_ok-words.ensures.pairs);
      counted = sym (ap (λ (x : ModelState g.row.T.Denot ℕ). length x.slots) first.0);
      linked = ap (λ (x : ModelState g.row.T.Denot ℕ). length x.links) first.0 ∙ length-replicate c.args.links None ∙ sym (length-replicate c.args.links None) ∙ sym (ap length began.1);
      named = ap (λ (os : List (Option ℕ)). length os) first.2 ∙ names_many (state_seen pass) 0 (length pass.name.links) ∙ ap (λ (n : Name). length n.links) name;
      stand = stand_first g.row.T.coded c.rest.new.self pass hands.state hands.names hands.kinds hands.held rested.stand first.1 (first.2 ∙ ap (names_from (state_seen pass) 0) many);
      placed = record {
        lie = λ s. subst (λ (t : List (Option (Place g.row.T.Denot)) × ModelState g.row.T.Denot ℕ). option_map what_lies_in (get_or t.0 s None) ≡ lies_for n (model_slot t.1 s) s) (λ j. (sym c.new-3.ensures.items j, sym first.0 j)) refl;
        sound = λ s place is. absurd (let none = sym (ap (λ (ps : List (Option (Place g.row.T.Denot))). get_or ps s None) c.new-3.ensures.items) ∙ is in cc);
      };
    }

pub returns-clause-state : goal.returns-clause-state
returns-clause-state g c = c.first-hands.ensures.0
