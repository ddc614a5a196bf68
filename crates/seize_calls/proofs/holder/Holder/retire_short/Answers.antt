use Rattle.std.proofs.Common.{ℕ, [], ap, subst, ◌∙◌}
use Rattle.seize_book.specs.Others.{value_of}
use Rattle.seize_book.specs.Private.{label_of}
use Rattle.seize_words.proofs.Facts.{retired_told}
use Rattle.seize_calls.specs.Batches.{IsPushed, keys_in}
use Rattle.seize_calls.specs.Furthers.{further_in}
use Rattle.seize_calls.proofs.Onwards.{may_put}
use Rattle.seize_calls.proofs.Unattempted.{added, holds, laid_short, over, retired_short}
use Rattle.seize_calls.proofs.Whole.{begun_retire, retire_puts, same_label}
use Rattle.seize_calls.proofs.holder.Holder.retire_short.Goals as goal

-- The pass is as it was when the queue was made. It serves the proof alone.

pub put-requires-clause-next : goal.put-requires-clause-next
put-requires-clause-next g c =
    let s = c.args.self.now in let pass = c.args.pass.now in let one = c.begin_retire.new in let made = c.new-queue in let v = value_of c.args.newcomer.value in let kept = c.args.newcomer.kept in
    let b = begun_retire c.args.words.now s pass made.new.pass made.ensures.1 made.result made.ensures.0 c.requires.holder.0 one.self one.pass v kept c.begin_retire.ensures.noted in
    may_put one.self v (further_in made.result) (retire_puts c.args.words.now s pass made.result one.self one.pass [] v kept b)

pub finish-requires-clause-over : goal.finish-requires-clause-over
finish-requires-clause-over g c =
    let words = c.args.words.now in let s = c.args.self.now in let pass = c.args.pass.now in let one = c.begin_retire.new in let made = c.new-queue in let v = value_of c.args.newcomer.value in let kept = c.args.newcomer.kept in let two = c.put.new in
    let b = begun_retire words s pass made.new.pass made.ensures.1 made.result made.ensures.0 c.requires.holder.0 one.self one.pass v kept c.begin_retire.ensures.noted in
    let pushed = subst (λ (w : ℕ). IsPushed (keys_in s.batch) w kept (keys_in c.push.new.self)) (ap label_of c.begin_retire.ensures.value.1 ∙ same_label c.args.newcomer.value.keys.held one.pass.seen) c.push.ensures in
    let put = added words s pass made.result one.self one.pass v kept b (retired_told s.key one.self made.new.pass one.pass v kept c.begin_retire.ensures.noted) c.requires.short two.self two.pass c.put.ensures.noted c.push.new.self pushed in
    over words s pass made.result one.self one.pass v kept b two.self two.pass c.push.new.self put

pub returns-clause-holder : goal.returns-clause-holder
returns-clause-holder g c =
    let words = c.args.words.now in let s = c.args.self.now in let pass = c.args.pass.now in let one = c.begin_retire.new in let made = c.new-queue in let v = value_of c.args.newcomer.value in let kept = c.args.newcomer.kept in let two = c.put.new in
    let b = begun_retire words s pass made.new.pass made.ensures.1 made.result made.ensures.0 c.requires.holder.0 one.self one.pass v kept c.begin_retire.ensures.noted in
    let pushed = subst (λ (w : ℕ). IsPushed (keys_in s.batch) w kept (keys_in c.push.new.self)) (ap label_of c.begin_retire.ensures.value.1 ∙ same_label c.args.newcomer.value.keys.held one.pass.seen) c.push.ensures in
    let put = added words s pass made.result one.self one.pass v kept b (retired_told s.key one.self made.new.pass one.pass v kept c.begin_retire.ensures.noted) c.requires.short two.self two.pass c.put.ensures.noted c.push.new.self pushed in
    holds words s pass made.result one.self one.pass v kept b two.self two.pass c.push.new.self put c.finish.new.self c.finish.new.pass c.finish.ensures.noted

pub returns-clause-laid : goal.returns-clause-laid
returns-clause-laid g c =
    let words = c.args.words.now in let s = c.args.self.now in let pass = c.args.pass.now in let one = c.begin_retire.new in let made = c.new-queue in let v = value_of c.args.newcomer.value in let kept = c.args.newcomer.kept in let two = c.put.new in
    let b = begun_retire words s pass made.new.pass made.ensures.1 made.result made.ensures.0 c.requires.holder.0 one.self one.pass v kept c.begin_retire.ensures.noted in
    let pushed = subst (λ (w : ℕ). IsPushed (keys_in s.batch) w kept (keys_in c.push.new.self)) (ap label_of c.begin_retire.ensures.value.1 ∙ same_label c.args.newcomer.value.keys.held one.pass.seen) c.push.ensures in
    let put = added words s pass made.result one.self one.pass v kept b (retired_told s.key one.self made.new.pass one.pass v kept c.begin_retire.ensures.noted) c.requires.short two.self two.pass c.put.ensures.noted c.push.new.self pushed in
    laid_short words s pass made.result one.self one.pass v kept b two.self two.pass c.push.new.self put c.finish.new.self c.finish.new.pass c.finish.ensures.noted

pub returns-clause-retires : goal.returns-clause-retires
returns-clause-retires g c =
    let words = c.args.words.now in let s = c.args.self.now in let pass = c.args.pass.now in let one = c.begin_retire.new in let made = c.new-queue in let v = value_of c.args.newcomer.value in let kept = c.args.newcomer.kept in let two = c.put.new in
    let b = begun_retire words s pass made.new.pass made.ensures.1 made.result made.ensures.0 c.requires.holder.0 one.self one.pass v kept c.begin_retire.ensures.noted in
    let pushed = subst (λ (w : ℕ). IsPushed (keys_in s.batch) w kept (keys_in c.push.new.self)) (ap label_of c.begin_retire.ensures.value.1 ∙ same_label c.args.newcomer.value.keys.held one.pass.seen) c.push.ensures in
    let put = added words s pass made.result one.self one.pass v kept b (retired_told s.key one.self made.new.pass one.pass v kept c.begin_retire.ensures.noted) c.requires.short two.self two.pass c.put.ensures.noted c.push.new.self pushed in
    retired_short words s pass made.result one.self one.pass v kept b two.self two.pass c.push.new.self put c.finish.new.self c.finish.new.pass c.finish.ensures.noted
