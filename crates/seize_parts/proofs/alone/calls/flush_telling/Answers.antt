use Rattle.std.proofs.Common.{arith, sym, subst, ◌∙◌}
use Rattle.seize_calls.specs.Handing.{Had}
use Rattle.seize_calls.specs.Slots.{SlotFlushes}
use Rattle.seize_alone.specs.Gone.{PutAs}
use Rattle.seize_parts.proofs.Watched.{told_none, told_since}
use Rattle.seize_parts.proofs.alone.calls.flush_telling.Goals as goal

pub flush-requires : goal.flush-requires
flush-requires g c =
    let W = g.W.Watch in let tells = c.args.tells.now in let had : Had = tells.forwards.ends.had in let new = c.requires.new in let begun = c.requires.begun in
    let none = told_none W.coded g.row.T.coded.code W.told g.B.Begun.first (W.seen tells.watch.now) had begun.1 new.0 in
    (omega arith, (c.requires.of, (c.requires.inside, (new.1, subst (PutAs g.row.T.coded.code g.R.Puts.puts) (sym new.0) tt, none, begun.0))))

pub returns-clause-same_reference : goal.returns-clause-same_reference
returns-clause-same_reference g c = c.flush.ensures.serves.3 ∙ sym c.requires.begun.0

pub returns-clause-flushes : goal.returns-clause-flushes
returns-clause-flushes g c =
    let W = g.W.Watch in let serves = c.flush.ensures.serves in let had : Had = c.flush.new.reclaimer.forwards.ends.had in (
      c.flush.result,
      had,
      subst (λ (none : Had). SlotFlushes c.args.slot.now c.args.pass.now none c.flush.new.self c.flush.new.pass had c.flush.result) c.requires.new.0 c.flush.ensures.flushes,
      serves.1,
      told_since W.coded g.row.T.coded.code W.told g.B.Begun.first (W.seen c.args.tells.now.watch.now) (W.seen c.flush.new.reclaimer.watch.now) had c.requires.begun.1 serves.2,
    )
