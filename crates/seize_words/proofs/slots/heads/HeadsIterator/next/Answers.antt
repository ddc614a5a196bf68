use Rattle.std.proofs.Common.{ap, ◌∙◌, refl, sym, length, arith}
use Rattle.seize_words.specs.Reservations.{slot}
use Rattle.seize_words.specs.Reserved.{comes_to}
use Rattle.seize_words.specs.declared.reservation.Head.{Head}
use Rattle.seize_table.specs.Walk.{walk_labels}
use Rattle.seize_words.proofs.Reserved.{of_family, of_slot}
use Rattle.seize_words.proofs.slots.heads.HeadsIterator.next.Goals as goal

pub agree-requires : goal.agree-requires
agree-requires c =
    let heads = c.args.self.now in let labels = walk_labels heads.walk in let step = c.in_ok-reservation.ensures.steps.2 in let within = heads.within in
    sym (of_family heads.book.now.name (length labels) (comes_to heads) labels heads.labels (omega (arith, step.0, within)) c.in_ok-reservation.reservation.now step.2)

pub returns-clause-steps : goal.returns-clause-steps
returns-clause-steps c =
    let heads = c.args.self.now in let labels = walk_labels heads.walk in let steps = c.in_ok-reservation.ensures.steps in let step = steps.2 in let within = heads.within in let r = c.in_ok-reservation.reservation.now in (
      refl,
      steps.1,
      (
        step.0,
        step.1,
        ap (λ (h : Head). h.word.name) c.head.ensures ∙ r.of_book ∙ sym c.agree.ensures,
        ap slot c.head.ensures ∙ of_slot heads.book.now.name (length labels) (comes_to heads) labels heads.labels (omega (arith, step.0, within)) r step.2,
      ),
      tt,
    )
