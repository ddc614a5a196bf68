use Rattle.std.proofs.Common.{rules, ◌≡◌, ℕ, ◌≤◌, ◌<◌, ◌^◌, true, List, lit<, sym, ap, subst, ◌∙◌, arith}
use Rattle.seize_book.specs.Private.{labels_of}
use Rattle.seize_words.specs.Reserved.{heads_end as end_of}
use Rattle.seize_words.specs.Totals.{slots_seen}
use Rattle.seize_book.specs.declared.book.pass.Pass.{Pass}
use Rattle.seize_words.proofs.Facts.{knows_still, more_seen}
use Rattle.seize_calls.specs.Batches.{SlotMark, slot_marks_of, without_slots}
use Rattle.seize_calls.specs.Together.{IsKeyFor}
use Rattle.seize_calls.specs.Marks.{EndsMarks}
use Rattle.seize_calls.specs.Numbered.{ends_at, is_count_of, starts_at}
use Rattle.seize_calls.proofs.Alone.{onward_looked}
use Rattle.seize_calls.proofs.Batches.{remarked_labels}
use Rattle.seize_calls.proofs.Holders.{key_on}
use Rattle.seize_calls.proofs.Marks.{ends_before, note_seen_then}
use Rattle.seize_calls.proofs.marking.mark.Goals as goal

pub read_each-marked-requires : goal.read_each-marked-requires
read_each-marked-requires g c =
    let key = c.args.key.now in let pass = c.load-count.new.pass in let count = c.load-count.ensures.count in let begins = c.new-round.ensures.begins in
    let same : pass ≡ c.new-round.new.pass = sym c.new-round.ensures.pass in let looks = c.load-count.ensures.looks in
    let few : end_of c.heads.result < 2 ^ 64 = search rules in
    let there : end_of c.heads.result ≤ slots_seen pass = (let more = more_seen count.0 pass count.2 in omega (arith, c.heads.ensures.1, count.3, more)) in (
      lit< tt,
      (
        subst (λ (p : Pass). IsKeyFor c.args.words.now key p) same (key_on c.args.words.now key key c.args.pass.now pass c.requires.key (onward_looked key c.args.pass.now pass looks) (knows_still key c.args.pass.now pass c.requires.key.knows looks)),
        (
          (
            c.heads.ensures.2 ∙ c.args.words.now.slotted ∙ c.requires.key.of.0 ∙ sym looks.same.0 ∙ ap (λ (p : Pass). p.name) same,
            c.heads.ensures.0,
            subst (λ (p : Pass). end_of c.heads.result ≤ slots_seen p) same there,
            few,
            (λ at. let noted = note_seen_then key at c.args.pass.now count.0 c.requires.key.its c.requires.key.knows.seen count.1 in omega (arith, c.heads.ensures.1, count.3, noted)),
          ),
          (
            c.requires.begins,
            (
              begins.0 ∙ ap (λ (p : Pass). p.name) same,
              (begins.1.0, ap labels_of begins.1.1 ∙ c.requires.batch.1),
              subst (λ (vs : List ℕ). is_count_of c.args.batch.now.len vs ≡ true) c.requires.batch.1 c.args.batch.now.many,
            ),
          ),
        ),
      ),
    )

pub end-requires : goal.end-requires
end-requires g c =
    let begun = c.new-round.ensures in let read = c.read_each-marked.ensures in let here = sym (read.ends c.requires.begins).on.same.0 in
    record { book = ((begun.none.0 ∙ ap (λ (p : Pass). p.name) (sym begun.pass) ∙ here, begun.none.1), read.round.0 ∙ here) }

pub returns-clause-batch : goal.returns-clause-batch
returns-clause-batch g c =
    let begun = c.new-round.ensures in let read = c.read_each-marked.ensures in let all = c.end.ensures.all in (
      all.0 ∙ (read.ends c.requires.begins).on.same.0 ∙ ap (λ (p : Pass). p.name) begun.pass ∙ c.load-count.ensures.looks.same.0 ∙ sym c.requires.batch.0,
      ap without_slots all.1 ∙ read.round.1 ∙ ap without_slots begun.begins.1.1,
    )

pub invariant_of-batch : goal.invariant_of-batch
invariant_of-batch g c =
    let batch = c.args.batch.now in let read = c.read_each-marked in
    let same = remarked_labels batch.values.keys.held c.end.new.values.keys.held (ap without_slots (sym c.new-round.ensures.begins.1.1) ∙ sym read.ensures.round.1 ∙ ap without_slots (sym c.end.ensures.all.1)) in
    record {
      many = subst (λ (vs : List ℕ). is_count_of batch.len vs ≡ true) same batch.many;
      front = subst (λ (vs : List ℕ). starts_at batch.first vs ≡ true) same batch.front;
      back = subst (λ (vs : List ℕ). ends_at batch.last vs ≡ true) same batch.back;
      fits = batch.fits;
      closed = c.end.ensures.all.2;
    }

pub returns-clause-marks : goal.returns-clause-marks
returns-clause-marks g c = λ at.
    let read = c.read_each-marked in
    subst (λ (t : Pass × List SlotMark). EndsMarks at c.args.pass.now read.new.key t.0 t.1 read.result) (λ i. ((sym c.end.ensures.pass) i, (ap slot_marks_of (sym c.end.ensures.all.1)) i))
    (ends_before at c.args.pass.now c.load-count.new.pass read.new.key read.new.pass (slot_marks_of (Rattle.seize_calls.specs.Rounds.all_in read.new.round)) read.result c.load-count.ensures.looks
    (subst (λ (p : Pass). EndsMarks at p read.new.key read.new.pass (slot_marks_of (Rattle.seize_calls.specs.Rounds.all_in read.new.round)) read.result) c.new-round.ensures.pass (read.ensures.ends at)))
