use Rattle.std.proofs.Common.{sym, ◌∙◌, ap, Some}
use Rattle.seize_table.proofs.Shown.{is_bucket, is_cell}
use Rattle.seize_table.proofs.tls.ThreadLocal.try_load.Goals as goal

pub returns : goal.returns
returns g c =
    let at = c.in_ok-cell.ensures.lookup in
    record {
      bucket_is = is_bucket _ _ _ _ c.args.self.now.all_there c.args.thread.in_table c.index-self-thread.is (c.get_as.ensures.cell ∙ c.note-row.ensures.0);
      entry_is = (c.in_ok-cell.cell.now, is_cell c.get_as.new.note _ _ _ _ c.in_ok-get_as.ensures.value.0 c.deref.ensures.value at.3.0 at.1, c.in_ok-get_as-2.ensures.cell ∙ c.note-note.ensures.0);
      value_is = record {
        known = c.in_ok-get_as-2.ensures.value.0 ∙ ap Some (sym c.in_ok-as_ref.ensures.value ∙ ap Some (sym c.get-meaning.ensures.0));
        meant = c.get-meaning.ensures.1;
      };
    }
