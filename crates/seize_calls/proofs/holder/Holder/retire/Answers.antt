use Rattle.std.proofs.Common.{ℕ, lit<, sym, ap, subst, ◌∙◌}
use Rattle.seize_book.specs.Blocks.{block_number}
use Rattle.seize_book.specs.Kept.{IsTold}
use Rattle.seize_book.specs.Others.{value_of}
use Rattle.seize_book.specs.Private.{label_of}
use Rattle.seize_book.specs.declared.book.pass.Pass.{Pass}
use Rattle.seize_words.proofs.Facts.{retired_told}
use Rattle.seize_calls.specs.Furthers.{further_in}
use Rattle.seize_calls.specs.Settling.{DrainsOne, MayPut, call_state}
use Rattle.seize_calls.proofs.Laid.{lays_twice}
use Rattle.seize_calls.proofs.Onwards.{round_on, settles_rest}
use Rattle.seize_calls.proofs.Sole.{may_same}
use Rattle.seize_calls.proofs.Whole.{begun_retire, has_retired, retire_puts, same_label}
use Rattle.seize_calls.proofs.holder.Holder.retire.Goals as goal

-- The pass is as it was when the queue was made.

pub begin_retire-requires-clause-book : goal.begin_retire-requires-clause-book
begin_retire-requires-clause-book g c = let same = sym (ap (λ (p : Pass). p.name) c.new-queue.ensures.1) in (c.requires.holder.0.keyed.its ∙ same, c.requires.value.0 ∙ same)

pub invariant_of-newcomer : goal.invariant_of-newcomer
invariant_of-newcomer g c = record { its = ap block_number (ap label_of c.begin_retire.ensures.value.1 ∙ same_label c.args.newcomer.value.keys.held c.begin_retire.new.pass.seen) ∙ c.args.newcomer.its }

pub put-retired-requires : goal.put-retired-requires
put-retired-requires g c =
    let s = c.args.self.now in let pass = c.args.pass.now in let one = c.begin_retire.new in let made = c.new-queue in let v = value_of c.args.newcomer.value in let kept = c.args.newcomer.kept in
    let b = begun_retire c.args.words.now s pass made.new.pass made.ensures.1 made.result made.ensures.0 c.requires.holder.0 one.self one.pass v kept c.begin_retire.ensures.noted in
    let label = sym (ap label_of c.begin_retire.ensures.value.1 ∙ same_label c.args.newcomer.value.keys.held one.pass.seen) in (
      lit< tt,
      (
        (b.under, subst (λ (w : ℕ). MayPut one.self w (further_in made.result)) label (retire_puts c.args.words.now s pass made.result one.self one.pass (g.R.Reclaim.had c.args.reclaimer.now) v kept b)),
        (
          (c.begin_retire.ensures.value.0 ∙ (c.requires.value.0 ∙ sym b.begins.keeps.on.same.0), subst (λ (w : ℕ). IsTold one.pass.seen w kept) label (retired_told s.key one.self made.new.pass one.pass v kept c.begin_retire.ensures.noted)),
          (c.requires.serves.0, may_same (g.M.Manner.may c.args.manner.now) pass one.pass b.begins.keeps.on.same c.requires.serves.1),
        ),
      ),
    )

pub finish-requires : goal.finish-requires
finish-requires g c =
    let s = c.args.self.now in let pass = c.args.pass.now in let one = c.begin_retire.new in let made = c.new-queue in let had = g.R.Reclaim.had in let kept = c.args.newcomer.kept in
    let begun = begun_retire c.args.words.now s pass made.new.pass made.ensures.1 made.result made.ensures.0 c.requires.holder.0 one.self one.pass (value_of c.args.newcomer.value) kept c.begin_retire.ensures.noted in
    let put = c.put-retired in let a = call_state (record s { key = one.self }) one.pass made.result (had c.args.reclaimer.now) in let b = call_state put.new.self put.new.pass put.new.queue (had put.new.reclaimer) in let round = put.ensures.drains_one in
    let may = may_same (g.M.Manner.may c.args.manner.now) one.pass put.new.pass (round_on a (value_of one.value) kept b put.result round).same (may_same (g.M.Manner.may c.args.manner.now) pass one.pass begun.begins.keeps.on.same c.requires.serves.1) in
    (lit< tt, ((put.ensures.stands.0, settles_rest _ round.full b put.result round.settles), (put.ensures.stands.1, may)))

pub returns-clause-retires : goal.returns-clause-retires
returns-clause-retires g c =
    let s = c.args.self.now in let pass = c.args.pass.now in let one = c.begin_retire.new in let made = c.new-queue in let had = g.R.Reclaim.had in let v = value_of c.args.newcomer.value in let kept = c.args.newcomer.kept in
    let begun = begun_retire c.args.words.now s pass made.new.pass made.ensures.1 made.result made.ensures.0 c.requires.holder.0 one.self one.pass v kept c.begin_retire.ensures.noted in
    let put = c.put-retired in let a = call_state (record s { key = one.self }) one.pass made.result (had c.args.reclaimer.now) in let b = call_state put.new.self put.new.pass put.new.queue (had put.new.reclaimer) in
    let round = subst (λ (w : ℕ). DrainsOne a w kept b put.result) (ap label_of c.begin_retire.ensures.value.1 ∙ same_label c.args.newcomer.value.keys.held one.pass.seen) put.ensures.drains_one in
    has_retired c.args.words.now s pass made.result one.self one.pass (had c.args.reclaimer.now) v kept begun b put.result round c.finish.new.self.key c.finish.new.pass _ _ c.finish.ensures.ends c.finish.ensures.holder.0.batch

pub returns-clause-laid : goal.returns-clause-laid
returns-clause-laid g c =
    let s = c.args.self.now in let pass = c.args.pass.now in let one = c.begin_retire.new in let made = c.new-queue in let put = c.put-retired in let end = c.finish in
    let b = begun_retire c.args.words.now s pass made.new.pass made.ensures.1 made.result made.ensures.0 c.requires.holder.0 one.self one.pass (value_of c.args.newcomer.value) c.args.newcomer.kept c.begin_retire.ensures.noted in
    lays_twice pass one.pass end.new.pass s.spots s.spots end.new.self.spots b.laid (lays_twice one.pass put.new.pass end.new.pass s.spots put.new.self.spots end.new.self.spots put.ensures.laid end.ensures.laid)
