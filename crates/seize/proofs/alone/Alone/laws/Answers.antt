use Rattle.std.proofs.Common.{◌≡◌, true, List, length, refl, sym, subst, ◌∙◌}
use Rattle.seize_book.specs.Book.{IsLegalList, moments}
use Rattle.seize_book.specs.Entry.{Entry}
use Rattle.seize_book.specs.Tokens.{Name, start}
use Rattle.seize_words.specs.Joined.{words_book}
use Rattle.seize_alone.specs.Holding.{Holds}
use Rattle.seize.specs.Alones.{AsListed, View}
use Rattle.seize_machine.specs.Machine.State.{are_distinct, linked_values}
use Rattle.seize_parts.specs.Laws.{LawsOf}
use Rattle.seize.proofs.Lawful.{laws_of}
use Rattle.seize.proofs.Lone.{alone_again, as_listed}
use Rattle.seize.proofs.alone.Alone.laws.Goals as goal

pub invariant_of-self : goal.invariant_of-self
invariant_of-self g c =
    let a = c.self.invariant in let v = c.self.inside in let hands = v.hands in let looks = c.slots.ensures.0 in
    alone_again a looks.same a.numbered hands v.places.items v.made a.counted refl refl a.placed
    (subst (λ (t : Name × List Entry). Holds g.row.T.coded.code hands.state hands.names hands.kinds t.0 t.1) (λ j. (sym looks.same.0 j, sym (looks.alone a.knows.sole) j)) a.knows.holds) refl

pub returns-clause-same : goal.returns-clause-same
returns-clause-same g c =
    let v = c.self.inside in let n = words_book v.words in
    (λ j. record { book = n; size = v.words.size; most = v.words.sizes.most; id = v.words.id; links = length n.links; state = v.hands.state; held = v.hands.held; seen = c.slots.ensures.0.alone c.self.invariant.knows.sole j }) ∙ c.self.view_is

pub returns-clause-listed : goal.returns-clause-listed
returns-clause-listed g c =
    let k = c.self.invariant.knows in let v = c.self.inside in let hands = v.hands in let looks = c.slots.ensures.0 in
    subst (AsListed g.row.T.coded.code) c.self.view_is
    (as_listed _ hands.names hands.kinds (subst (λ (t : Name × List Entry). IsLegalList (start t.0) t.1) (λ j. (sym k.for.0 j, looks.alone k.sole j)) looks.legal) (subst (λ (n : Name). Holds g.row.T.coded.code hands.state hands.names hands.kinds n v.pass.seen) (sym k.for.0) k.holds))

pub returns-clause-laws : goal.returns-clause-laws
returns-clause-laws g c =
    let k = c.self.invariant.knows in let all = c.laws.ensures in let v = c.self.inside in let looks = c.slots.ensures.0 in
    let at = subst (λ (t : Name × List Entry). (are_distinct (linked_values t.0.links) ≡ true) × IsLegalList (start t.0) t.1) (λ j. (sym k.for.0 j, looks.alone k.sole j)) (k.distinct, looks.legal) in
    subst (λ (v : View g.row.T.Denot). LawsOf (start v.book) (moments (start v.book) v.seen)) c.self.view_is
    (laws_of all.at_most_once all.after all.quiet all.unused all.protection all.whereabouts all.gone all.holders all.no_later_holders all.under_guard all.tries (words_book v.words) v.pass.seen at.0 at.1)
