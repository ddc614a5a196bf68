use Rattle.std.proofs.Common.{arith, sym, ap, subst, ◌∙◌}
use Rattle.seize_calls.specs.Aparts.{without_puts}
use Rattle.seize_calls.specs.Handing.{Had}
use Rattle.seize_calls.specs.Slots.{SlotResumes}
use Rattle.seize_alone.specs.Gone.{PutAs}
use Rattle.seize_parts.proofs.Behind.{behind_none, behind_since}
use Rattle.seize_parts.proofs.Watched.{told_none, told_since}
use Rattle.seize_parts.proofs.alone.apart.resume_apart.Goals as goal

pub resume-requires : goal.resume-requires
resume-requires g c =
    let W = g.W.Watch in let B = g.B.Waited in let apart = c.args.apart.now in let had : Had = apart.forwards.ends.had in let new = c.requires.new in let watch = c.requires.watch in let queue = c.requires.queue in
    let none = told_none W.coded g.row.T.coded.code W.told B.first (W.seen apart.aside.now.watch.now) had watch.2 new.0 in
    let waits = behind_none _ B.values B.words had apart.aside.now.queue new.0 queue.0 queue.1 queue.2 in
    (omega arith, (c.requires.of, (new.1, subst (PutAs g.row.T.coded.code g.R.Puts.puts) (sym new.0) tt, none, waits, watch.0, watch.1)))

pub returns-clause-same : goal.returns-clause-same
returns-clause-same g c =
    let serves = c.resume.ensures.serves in let watch = c.requires.watch in (serves.4 ∙ sym watch.0, serves.5 ∙ sym watch.1)

pub returns-clause-resumes : goal.returns-clause-resumes
returns-clause-resumes g c =
    let W = g.W.Watch in let B = g.B.Waited in let apart = c.args.apart.now in let serves = c.resume.ensures.serves in let had : Had = c.resume.new.reclaimer.forwards.ends.had in let queue = c.requires.queue in (
      had,
      subst (λ (none : Had). SlotResumes c.args.slot.now c.args.pass.now none c.resume.new.self c.resume.new.pass (without_puts had)) (ap without_puts c.requires.new.0) c.resume.ensures.resumes,
      record {
        put = serves.1;
        tells = told_since W.coded g.row.T.coded.code W.told B.first (W.seen apart.aside.now.watch.now) (W.seen c.resume.new.reclaimer.aside.now.watch.now) had c.requires.watch.2 serves.2;
        waits = behind_since _ B.values B.words had apart.aside.now.queue c.resume.new.reclaimer.aside.now.queue queue.1 queue.2 serves.3;
      },
    )
