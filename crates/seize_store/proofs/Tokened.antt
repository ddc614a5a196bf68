-- Two tokens of a row with the same note and the same content are one: all else of a token is a fact. A note is its cell and what it knows.
use Rattle.std.proofs.Common.{◌≡◌}
use Rattle.std.specs.Coded.{Coded-set, coded_ℕ, coded_list, coded×, coded_option}
use Rattle.std.specs.declared.option.Option.TheVariants.{Some}
use mathlib.Core.HLevel.{is_prop→PathP}
use denote.RawPtr.{coded_ptr}
use Rattle.seize_store.specs.RowTokens.{row_name}
use Rattle.seize_table.specs.declared.labelled.Labelled.{Ghosts}
use Rattle.seize_store.specs.declared.look_up.TypedRowToken.{TypedRowToken}

pub token_is : {H P T : Type 0} {g : Ghosts H} (s t : TypedRowToken H P T g) → s.note ≡ t.note → s.known ≡ t.known → s ≡ t
token_is s t e f = λ i. record {
  note = e i;
  known = f i;
  cell = is_prop→PathP (λ j. (e j).cell ≡ row_name (f j).store (f j).row) (λ j. Coded-set coded_ℕ _ _) s.cell t.cell i;
  same = is_prop→PathP (λ j. (e j).known ≡ Some (f j).chunks) (λ j. Coded-set (coded_option (coded_list (coded× coded_ptr coded_ℕ))) _ _) s.same t.same i;
}
