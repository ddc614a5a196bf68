use Rattle.std.proofs.Common.{ℕ, Bool, sym, subst, ◌∙◌}
use Rattle.seize_machine.specs.Machine.Event.{Take}
use Rattle.seize_book.specs.Tokens.{Name}
use Rattle.seize_calls.specs.Furthers.{further_in}
use Rattle.seize_calls.specs.Handing.{IsServed}
use Rattle.seize_calls.specs.Slots.{IsTakenAs}
use Rattle.seize_alone.specs.Events.{MakesAlone}
use Rattle.seize_parts.proofs.Aparts.{more_drain}
use Rattle.seize_parts.proofs.Placed.{still_for}
use Rattle.seize_parts.proofs.Resumed.{resumed_goes, resumed_on, took_goes, took_on}
use Rattle.seize_parts.proofs.numbers.Numbers.take_rest.Goals as goal

pub returns-then-begun-clause-on : goal.returns-then-begun-clause-on
returns-then-begun-clause-on g c =
    let words = c.args.words.now in let took = c.again-slot.ensures.made in let slot1 = c.again-slot.result.0 in let p0 = c.args.pass.now in let p1 = c.again-slot.new.pass in let sole = took.0.alone c.requires.pass.1 in let alone = subst (λ (k : ℕ). MakesAlone p0 p1 (Take k) sole.0) took.1 sole.1 in
    let its = subst (λ (b : Bool). IsTakenAs b words slot1) c.if-begun.true took.0.its in let resume = c.resume_into.ensures in
    resumed_on g.row.T.coded c.args.n p0 p1 sole.0 alone words c.requires.pass.0 slot1 c.resume_into.new.slot c.look.new.self c.resume_into.new.pass c.look.new.pass took.1 its.0 its.1 (took.0.took c.if-begun.true) resume.resumes.0 resume.of.0.0 resume.resumes.1
    c.look.ensures.looks c.look.ensures.of.0.1 (resume.of.1 ∙ took.0.inactive) took.0.inactive

pub returns-then-begun-clause-aside : goal.returns-then-begun-clause-aside
returns-then-begun-clause-aside g c =
    let resume = c.resume_into.ensures in
    (resume.same, more_drain g.row.T.coded.code g.R.Puts.puts _ resume.resumes.0 c.args.aside.now.queue c.resume_into.new.aside.queue resume.resumes.2.put resume.resumes.2.waits c.requires.queue)

pub returns-then-begun-clause-goes : goal.returns-then-begun-clause-goes
returns-then-begun-clause-goes g c =
    let words = c.args.words.now in let took = c.again-slot.ensures.made in let slot1 = c.again-slot.result.0 in let p0 = c.args.pass.now in let p1 = c.again-slot.new.pass in let sole = took.0.alone c.requires.pass.1 in let alone = subst (λ (k : ℕ). MakesAlone p0 p1 (Take k) sole.0) took.1 sole.1 in let W = g.W.Watch in
    let its = subst (λ (b : Bool). IsTakenAs b words slot1) c.if-begun.true took.0.its in let resume = c.resume_into.ensures in
    resumed_goes g.row.T.coded c.args.n p0 p1 sole.0 alone words c.requires.pass.0 slot1 c.resume_into.new.slot c.look.new.self c.resume_into.new.pass c.look.new.pass took.1 its.0 its.1 (took.0.took c.if-begun.true) resume.resumes.0 resume.of.0.0 resume.resumes.1
    c.look.ensures.looks c.look.ensures.of.0.1 (resume.of.1 ∙ took.0.inactive) took.0.inactive
    g.R.Puts.puts W.told resume.resumes.2.put (W.seen c.args.aside.now.watch.now) (W.seen c.resume_into.new.aside.watch.now) c.args.aside.now.queue c.resume_into.new.aside.queue _ (sym c.requires.pass.0.0) resume.resumes.2.tells resume.resumes.2.waits

pub returns-clause-on : goal.returns-clause-on
returns-clause-on g c =
    let words = c.args.words.now in let took = c.again-slot.ensures.made in let slot1 = c.again-slot.result.0 in let p0 = c.args.pass.now in let p1 = c.again-slot.new.pass in let sole = took.0.alone c.requires.pass.1 in let alone = subst (λ (k : ℕ). MakesAlone p0 p1 (Take k) sole.0) took.1 sole.1 in
    let its = subst (λ (b : Bool). IsTakenAs b words slot1) c.if-begun.false took.0.its in
    took_on g.row.T.coded c.args.n p0 p1 sole.0 alone words slot1 c.look-2.new.self c.look-2.new.pass took.1 (its.0.book ∙ (still_for words p0 p1 c.requires.pass.0 alone.same).0) c.look-2.ensures.looks c.look-2.ensures.of.0.1 took.0.inactive

pub returns-clause-goes : goal.returns-clause-goes
returns-clause-goes g c =
    let words = c.args.words.now in let took = c.again-slot.ensures.made in let slot1 = c.again-slot.result.0 in let p0 = c.args.pass.now in let p1 = c.again-slot.new.pass in let sole = took.0.alone c.requires.pass.1 in let alone = subst (λ (k : ℕ). MakesAlone p0 p1 (Take k) sole.0) took.1 sole.1 in
    let its = subst (λ (b : Bool). IsTakenAs b words slot1) c.if-begun.false took.0.its in let W = g.W.Watch in let queue = c.args.aside.now.queue in
    took_goes g.row.T.coded c.args.n p0 p1 sole.0 alone words slot1 c.look-2.new.self c.look-2.new.pass took.1 (its.0.book ∙ (still_for words p0 p1 c.requires.pass.0 alone.same).0) c.look-2.ensures.looks c.look-2.ensures.of.0.1 took.0.inactive
    g.R.Puts.puts W.told (W.seen c.args.aside.now.watch.now) queue (subst (λ (m : Name). IsServed (further_in queue) m) c.requires.pass.0.0 c.requires.queue.0)
