use Rattle.std.proofs.Common.{sym, ◌∙◌, ap, Some}
use Rattle.seize_table.proofs.Shown.{is_bucket}
use Rattle.seize_table.proofs.tls.ThreadLocal.fill.Goals as goal

pub returns-in-Some-clause-shown : goal.returns-in-Some-clause-shown
returns-in-Some-clause-shown g c = record {
  bucket_is = is_bucket _ _ _ _ c.args.self.now.all_there c.args.thread.in_table c.index-self-thread.is (c.room.ensures.bucket ∙ c.note-row.ensures.0);
  entry_is = (c.in_ok-room.cell.now, c.in_ok-room.ensures.cell, c.get_or_init_as.ensures.cell ∙ c.note-note.ensures.0);
  value_is = record { known = c.get_or_init_as.ensures.value.0 ∙ ap Some (c.in-Some.is ∙ ap Some (sym c.get-meaning.ensures.0)); meant = c.get-meaning.ensures.1 };
}
