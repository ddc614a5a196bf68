use Rattle.std.proofs.Common.{◌≡◌, ◌≤◌, List, length, lit<, take, refl, sym, ap, subst, ◌∙◌}
use Rattle.seize_book.specs.Entry.{Entry}
use Rattle.seize_book.specs.Ledger.{HeldKey}
use Rattle.seize_book.specs.Private.{labels_of}
use Rattle.seize_book.specs.declared.book.pass.Pass.{Pass}
use Rattle.seize_calls.specs.Batches.{slot_marks_of}
use Rattle.seize_calls.specs.Together.{IsKeyFor}
use Rattle.seize_calls.specs.Inserts.{InsertsAtEach, IsInserting}
use Rattle.seize_calls.proofs.Inserts.{turns_of_batch}
use Rattle.seize_calls.proofs.inserting.insert_each.Goals as goal

pub insert_round-won-requires : goal.insert_round-won-requires
insert_round-won-requires g c =
    let key = c.args.key.now in let begun = c.new-round.ensures in let same = sym begun.pass in (
      lit< tt,
      (
        (subst (λ (p : Pass). IsKeyFor c.args.words.now key p) same c.requires.key.0, subst (λ (p : Pass). g.M.Manner.may c.args.manner.now p.id) same c.requires.key.1),
        (
          (begun.begins.0 ∙ ap (λ (p : Pass). p.name) same, begun.begins.1.0, subst (λ (held : List (HeldKey Entry)). c.args.marked ≤ length (slot_marks_of held)) (sym begun.begins.1.1) c.requires.batch.1),
          subst (λ (t : Pass × List (HeldKey Entry)). IsInserting key t.0 (take c.args.marked (slot_marks_of t.1)) c.args.batch.now.first (labels_of t.1)) (λ i. (same i, sym begun.begins.1.1 i)) c.requires.at,
        ),
      ),
    )

pub end-requires : goal.end-requires
end-requires g c =
    let won = c.insert_round-won in let begun = c.new-round.ensures in
    let all = turns_of_batch c.args.marked begun.pass begun.begins.1.1 won.ensures.all c.requires.at in
    record { book = ((begun.none.0 ∙ sym all.keeps.on.same.0, begun.none.1), won.ensures.round.0) }

pub returns-clause-batch : goal.returns-clause-batch
returns-clause-batch g c =
    let won = c.insert_round-won in let begun = c.new-round.ensures in
    let all = turns_of_batch c.args.marked begun.pass begun.begins.1.1 won.ensures.all c.requires.at in
    let same : won.new.pass.name ≡ c.args.pass.now.name = all.keeps.on.same.0 in
    (c.end.ensures.all.0 ∙ same ∙ sym c.requires.batch.0, c.end.ensures.all.1 ∙ won.ensures.round.1 ∙ begun.begins.1.1, refl)

pub returns-clause-all : goal.returns-clause-all
returns-clause-all g c = λ at.
    let won = c.insert_round-won in let key = c.args.key.now in let begun = c.new-round.ensures in
    subst (λ (p : Pass). InsertsAtEach at won.new.key p won.result) (sym c.end.ensures.pass)
    (turns_of_batch c.args.marked begun.pass begun.begins.1.1 won.ensures.all at)
