use Rattle.std.proofs.Common.{ℕ, ap, ◌∙◌}
use denote.RawPtr.{Ptr}
use Rattle.seize_table.specs.Pairs.{left_of}
use Rattle.seize_store.proofs.store.Store.place.Goals as goal

pub returns : goal.returns
returns g c = record {
  place = c.chunk.ensures.0 ∙ ap (λ (x : Ptr × ℕ). x.0) c.row_of-entry.ensures.1;
  label = c.chunk.ensures.1 ∙ ap (λ (x : Ptr × ℕ). left_of x.1) c.row_of-entry.ensures.1;
}
