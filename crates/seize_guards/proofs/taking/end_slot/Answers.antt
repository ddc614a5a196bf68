use Rattle.std.proofs.Common.{ℕ, refl, subst, ◌∙◌, arith}
use Rattle.seize_machine.specs.Machine.Event.{Give}
use Rattle.seize_machine.specs.declared.machine.event.Answer.TheVariants.{Done}
use Rattle.seize_machine.specs.declared.machine.event.Job.TheVariants.{Gather}
use Rattle.seize_book.proofs.Facts.{same_twice}
use Rattle.seize_words.specs.Joined.{words_book}
use Rattle.seize_parts.specs.Makes.{GivesNumber, MakesCall, MakesOne}
use Rattle.seize_parts.specs.Puts.{PutBy}
use Rattle.seize_parts.proofs.Given.{serves_new}
use Rattle.seize_parts.proofs.Placed.{still_for}
use Rattle.seize_parts.proofs.Steps.{put_so, puts_by}
use Rattle.seize_parts.proofs.Wholly.{slot_gathers_whole}
use Rattle.seize_guards.proofs.taking.end_slot.Goals as goal

pub loop-init : goal.loop-init
loop-init g c = (c.requires.pass, c.requires.slot, refl, λ q gives. gives)

pub with-requires : goal.with-requires
with-requires g c = let led = c.loop.invariant in λ numbers keeps. (keeps.0 ∙ c.args.parts.now.numbered, led.0, led.1)

-- the number went back, once the slot gathered as often
pub returns-in_default : goal.returns-in_default
returns-in_default g c =
    let led = c.loop.invariant in record {
      gives = led.3 c.with.new.with (GivesNumber.gives c.loop.pass c.with.new.with (subst (λ (k : ℕ). MakesOne c.loop.pass c.with.new.with (Give k) Done) led.2 c.in_default.ensures.gives.0));
    }

pub resume-requires : goal.resume-requires
resume-requires g c =
    let led = c.loop.invariant in let words = c.args.parts.now.words in let gathered = c.in-Some-with.ensures.gives.1 in let gathers = gathered.gathers in (
      omega arith,
      (
        (gathered.its, still_for words c.loop.pass c.with.new.with led.0 (same_twice c.loop.pass gathers.ready c.with.new.with gathers.prepares.same gathers.does.0), tt),
        serves_new g.row.T.coded.code g.R.Puts.puts (words_book words) c.ender.result.now c.new.result.ender.now c.new.result.ends.had c.new.ensures c.ender.ensures,
      ),
    )

pub loop-preserved : goal.loop-preserved
loop-preserved g c =
    let led = c.loop.invariant in let words = c.args.parts.now.words in let gathered = c.in-Some-with.ensures.gives.1 in let resumed = c.resume.ensures in
    let slot = c.in-Some-with.begun in let slot' = c.resume.new.self in let pass' = c.resume.new.pass in let had' = c.resume.new.reclaimer.ends.had in let IsPut = PutBy g.row.T.coded.code g.R.Puts.puts in
    let whole = slot_gathers_whole IsPut pass' (puts_by g.row.T.coded.code g.R.Puts.puts pass') words c.loop.slot c.loop.pass slot c.with.new.with slot' resumed.of.0.0 led.0 c.new.result.ends.had had'
    (put_so g.row.T.coded.code g.R.Puts.puts pass' had' resumed.serves.1) gathered.gathers resumed.resumes in (
      still_for words c.loop.pass pass' led.0 whole.made.same,
      (resumed.of.0, resumed.of.1 ∙ gathered.inactive),
      resumed.resumes.same.0 ∙ gathered.gathers.same.0 ∙ led.2,
      λ q gives. led.3 q (GivesNumber.gathers c.loop.pass pass' q (subst (λ (k : ℕ). MakesCall IsPut k Gather c.loop.pass pass') led.2 whole) gives),
    )
