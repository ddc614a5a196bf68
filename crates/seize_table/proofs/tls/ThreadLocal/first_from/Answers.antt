use Rattle.std.proofs.Common.{◌≡◌, sym, ◌∙◌, ap, subst, Some}
use Rattle.std.specs.List.{slice_get}
use Rattle.seize_table.specs.Table.{IsBucket}
use Rattle.seize_table.proofs.Shown.{is_bucket}
use Rattle.seize_table.proofs.tls.ThreadLocal.first_from.Goals as goal

pub returns-clause-shown : goal.returns-clause-shown
returns-clause-shown g c =
    let has = c.in_ok-entry.ensures.2 in
    let row = c.in_ok-cells.cells.now in
    let at = subst (λ xs. slice_get xs c.in_ok-entry.entry ≡ Some has.0) c.deref.ensures.value has.1 in
    record {
      bucket_is =
          subst (λ b. IsBucket c.args.self.now.buckets b c.get_as.new.note.cell) (sym c.at.ensures.0)
          (is_bucket _ _ _ _ c.args.self.now.all_there c.requires c.index-self-bucket.is (c.get_as.ensures.cell ∙ c.note-row.ensures.0));
      entry_is = (has.0, (row, c.in_ok-cells.ensures.value.0, ap (λ e. slice_get row.items e) c.at.ensures.1 ∙ at), has.2);
      value_is = has.3;
    }
