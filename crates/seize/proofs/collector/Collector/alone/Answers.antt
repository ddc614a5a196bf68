use Rattle.std.proofs.Common.{◌≡◌, ℕ, List, Option, length, refl, sym, ap, subst, ◌∙◌, arith}
use Rattle.seize_machine.specs.Machine.State.{are_distinct, linked_values, slot_at}
use Rattle.seize_book.specs.Book.{after, mine}
use Rattle.seize_book.specs.Entry.{Entry}
use Rattle.seize_book.specs.Homesteads.{state_seen}
use Rattle.seize_book.specs.Porters.{GoesOnTo}
use Rattle.seize_book.specs.Tokens.{IsSole, Name, start}
use Rattle.seize_book.specs.declared.book.pass.Pass.{Pass}
use Rattle.seize_book.specs.declared.book.seen.Seen.{Seen}
use Rattle.seize_words.specs.Joined.{words_book}
use Rattle.seize_words.specs.Named.{link_count}
use Rattle.seize_calls.specs.Slots.{IsPassOf}
use Rattle.seize_alone.specs.Holding.{Holds}
use Rattle.seize.specs.Collectors.{its_book, seen_by}
use Rattle.seize_parts.specs.Enders.{IsEnderOf}
use Rattle.seize_parts.specs.Placing.{IsLeftAt, MayLay}
use Rattle.seize_parts.proofs.Homing.{all_placed, left_may, many_slots, starts}
use Rattle.seize.proofs.Lone.{goes_then}
use Rattle.seize.proofs.Still.{names_from, names_many, stand_first}
use Rattle.seize.proofs.collector.Collector.alone.Goals as goal

pub come_to_rest-found-requires : goal.come_to_rest-found-requires
come_to_rest-found-requires g c =
    let parts = c.into_parts-words.ensures in
    (omega arith, (parts.numbers, ((parts.pass.0, parts.pass.1.alone), subst (IsEnderOf c.into_parts-words.result.0) (sym c.deref.ensures) parts.ender)))

pub first-hands-requires : goal.first-hands-requires
first-hands-requires g c =
    let rests = c.come_to_rest-found.ensures in let pass = c.come_to_rest-found.new.pass in
    let begins = starts g.row.T.coded.code c.into_parts-words.result.1 pass c.come_to_rest-found.result rests.rests c.if-not-all.false rests.contents.0 rests.contents.1 in
    (begins.0, begins.1, begins.2, names_from (state_seen pass) 0 (length pass.name.links), (begins.3, refl))

pub shared-requires : goal.shared-requires
shared-requires g c =
    let parts = c.into_parts-words.ensures in let comes = c.come_to_rest-found.ensures.rests in let pass = c.come_to_rest-found.new.pass in
    let for : IsPassOf c.into_parts-words.result.0 pass = (parts.pass.0.0 ∙ sym comes.same.0, parts.pass.0.1 ∙ sym comes.same.2) in (
      omega arith,
      (
        omega arith,
        (
          (for, subst IsSole (sym comes.same.1) parts.pass.1.alone),
          (
            c.come_to_rest-found.ensures.numbers,
            (parts.ender, (parts.words.2, λ s place is. subst (λ (n : Name). MayLay n place) (sym for.0) (left_may pass.name (state_seen pass) s place (comes.left s place is)))),
          ),
        ),
      ),
    )

pub invariant_of-result : goal.invariant_of-result
invariant_of-result g c =
    let parts = c.into_parts-words.ensures in let words = c.into_parts-words.result.0 in let had = c.into_parts-words.result.1 in let rests = c.come_to_rest-found.ensures in let comes = rests.rests in let pass = c.come_to_rest-found.new.pass in
    let name : words_book words ≡ pass.name = parts.pass.0.0 ∙ sym comes.same.0 in let rested = c.rest.ensures in let first = c.first-hands.ensures.0 in let hands = c.first-hands.result in let found = c.come_to_rest-found.result in
    let many : length pass.name.links ≡ link_count c.rest.new.self = ap (λ (n : Name). length n.links) (sym name ∙ sym words.linked) ∙ ap (λ (b : Seen). length b.name.links) (sym rested.same) in record {
      knows = record {
        for = (name ∙ sym (ap (λ (p : Pass). p.name) rested.pass), parts.pass.0.1 ∙ sym comes.same.2 ∙ sym (ap (λ (p : Pass). p.size) rested.pass));
        sole = subst (λ (p : Pass). IsSole p.id) (sym rested.pass) (subst IsSole (sym comes.same.1) parts.pass.1.alone);
        size = first.1 ∙ sym (ap (λ (p : Pass). p.size) rested.pass);
        distinct = ap (λ (p : Pass). are_distinct (linked_values p.name.links)) rested.pass ∙ ap (λ (n : Name). are_distinct (linked_values n.links)) comes.same.0 ∙ comes.goes_on.distinct;
        holds = subst (λ (p : Pass). Holds g.row.T.coded.code hands.state hands.names hands.kinds p.name p.seen) (sym rested.pass) first.0;
      };
      numbered = rests.numbers;
      ends = parts.ender;
      counted = many_slots g.row.T.coded.code had pass found comes hands.state hands.names hands.kinds first.0;
      linked = first.2 ∙ ap (λ (n : Name). length n.links) (sym name);
      named = ap (λ (os : List (Option ℕ)). length os) c.first-hands.ensures.1 ∙ names_many (state_seen pass) 0 (length pass.name.links) ∙ ap (λ (n : Name). length n.links) (sym name);
      placed = all_placed (words_book words) (state_seen pass) hands.state found.places.items first.3 (λ s place is. subst (λ (n : Name). IsLeftAt n (state_seen pass) s place) (sym name) (comes.left s place is));
      stand = stand_first g.row.T.coded c.rest.new.self pass hands.state hands.names hands.kinds hands.held rested.stand first.0 (c.first-hands.ensures.1 ∙ ap (names_from (state_seen pass) 0) many);
    }

pub returns-clause-made : goal.returns-clause-made
returns-clause-made g c =
    let self = c.args.self in let parts = c.into_parts-words.ensures in let comes = c.come_to_rest-found.ensures.rests in let first = c.first-hands.ensures.0 in let shut = parts.pass.1 in
    let had = c.into_parts-words.result.1 in let pass = c.come_to_rest-found.new.pass in let later = c.rest.new.pass in let words = c.into_parts-words.result.0 in
    let own : self.porter.name ≡ words_book words = self.lends.0 ∙ sym parts.words.0 in (
      parts.words.0,
      parts.words.1,
      parts.words.4,
      ap (λ (n : Name). length n.links) parts.words.0,
      first.1 ∙ comes.same.2 ∙ sym parts.pass.0.1,
      first.2 ∙ ap (λ (n : Name). length n.links) (comes.same.0 ∙ sym parts.pass.0.0),
      subst (λ (t : Name × List Entry). GoesOnTo t.0 (seen_by self) t.1) (λ j. (own j, (sym c.rest.ensures.pass j).seen)) (goes_then shut.goes_on (subst (λ (n : Name). GoesOnTo n had.seen pass.seen) shut.book.0 comes.goes_on)),
      subst (λ (t : Name × List Entry). mine (start t.0) 0 t.1 ≡ mine (start t.0) 0 (seen_by self)) (λ j. (self.lends.0 j, sym (ap (λ (p : Pass). p.seen) c.rest.ensures.pass ∙ comes.still) j)) shut.none_made,
      parts.words.3,
    )

pub returns-then-not-all-clause-back : goal.returns-then-not-all-clause-back
returns-then-not-all-clause-back g c =
    let self = c.args.self in let parts = c.into_parts-words.ensures in let comes = c.come_to_rest-found.ensures.rests in let shut = parts.pass.1 in let had = c.into_parts-words.result.1 in let name = its_book self in
    let own : self.porter.name ≡ name = self.lends.0 in let had_name : had.name ≡ name = shut.book.0 ∙ own in let same = c.shared.ensures.same in
    let seen : seen_by c.shared.result ≡ had.seen = same.3 ∙ comes.still in let book : c.come_to_rest-found.new.pass.name ≡ its_book c.shared.result = comes.same.0 ∙ had_name ∙ sym (same.0 ∙ parts.words.0) in
    record {
      same = (same.0 ∙ parts.words.0, same.1 ∙ parts.words.1, same.2 ∙ parts.words.4, same.4 ∙ parts.words.3);
      goes_on = subst (λ (t : Name × List Entry). GoesOnTo t.0 (seen_by self) t.1) (λ j. (own j, sym seen j)) shut.goes_on;
      nothing = subst (λ (t : Name × List Entry). mine (start t.0) 0 t.1 ≡ mine (start t.0) 0 (seen_by self)) (λ j. (own j, sym seen j)) shut.none_made;
      in_use = λ unused. comes.kept c.if-not-all.true (λ s. (λ j. (slot_at (after (start (book j)) (sym same.3 j)) s).used) ∙ unused s);
    }
