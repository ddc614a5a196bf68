use Rattle.std.proofs.Common.{◌≡◌, sym, ◌∙◌, ap, subst, Some, IfSome}
use Rattle.seize_table.proofs.Shown.{one_name}
use Rattle.seize_table.proofs.tls.ThreadLocal.value.Goals as goal

pub returns-clause-value : goal.returns-clause-value
returns-clause-value g c =
    let seen = c.requires.1 in
    let row = seen.entry_is.1.0 in
    let same : row ≡ c.in-Some.row.now = subst (λ k. IfSome k (λ y. y ≡ c.in-Some.row.now)) seen.entry_is.1.1 c.in-Some.ensures.value.1 in
    let cell = c.in-Some-Some.ensures.value in
    let here = c.in-Some-Some.field-0-is ∙ ap Some (sym c.get-meaning.ensures.0) in
    let name = one_name (subst (λ k. IfSome k (λ y. y ≡ c.in-Some-Some.field-0.now)) seen.value_is.known cell.1) here in
    record {
      bucket_is = (seen.bucket_is.0, seen.bucket_is.1, c.get_as.ensures.cell ∙ seen.bucket_is.2);
      entry_is = (seen.entry_is.0, (row, c.in-Some.ensures.value.0 ∙ ap (λ r. Some r) (sym same), seen.entry_is.1.2), c.get_as-2.ensures.cell ∙ seen.entry_is.2);
      value_is = record {
        known = c.in-Some-Some.ensures.value.0 ∙ ap Some (here ∙ ap (λ n. Some (g.T.Labelled.label c.get-meaning.result.0.now, n)) (sym name));
        meant = c.agree.ensures ∙ c.get-meaning.ensures.1;
      };
    }
