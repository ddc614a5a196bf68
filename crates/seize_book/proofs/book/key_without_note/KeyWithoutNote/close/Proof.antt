-- `close` lays the token beside the key.
use Rattle.seize_book.proofs.CallKit.{ℕ, [], ◌∷◌, refl, ‵, heard, ◌$◌, !, move, rewrite, use2, yes, calls, told, token2, Only, taken, keys_own}
use Rattle.seize_content.specs.Cells.{cell_token}
use Rattle.seize_content.specs.contracts.token_cell.CellToken as CellToken
use Rattle.seize_content.proofs.Tokens.{cell_token_tells}
use Rattle.seize_book.specs.Notes.{MayClose, with_note}
use Rattle.seize_book.specs.contracts.book.keys.Keys as Keys
use Rattle.seize_book.specs.contracts.book.key_without_note.KeyWithoutNote as KeyWithoutNote
use Rattle.seize_book.proofs.Ways.{closes_key}
use Rattle.seize_book.proofs.Fields.{opened_tells}
use Rattle.seize_book.specs.contracts.book.key_without_note.KeyWithoutNote.close.{ended, clauses}
use Rattle.seize_book.specs.contracts.book.key_without_note.KeyWithoutNote.close.Key.{name as #self}
use Rattle.seize_book.proofs.book.key_without_note.KeyWithoutNote.close.Statement.{statement}
use Rattle.seize_book.proofs.book.key_without_note.KeyWithoutNote.close.Code as code

pub close_spec : {M : Type 1} → statement M
close_spec 𝓤 𝓛 𝓜 𝓡 wired =
    calls 𝓛 ended (taken 𝓛 yes (λ κs. KeyWithoutNote.the_row) (λ κs. KeyWithoutNote.the_heap) (λ κs x. refl) (λ κs. opened_tells) (λ κs x f. refl) (λ κs x. tt), (taken 𝓛 yes (λ κs. CellToken.the_row) (λ κs. CellToken.the_heap) (λ κs x. refl) (λ κs. cell_token_tells) (λ κs x f. refl) (λ κs x. tt), tt)) (clauses 𝓛 𝓜.mem 𝓡.returns) _ (λ κs. Only 𝓛 Keys.the_row Keys.the_heap (λ r. refl)) 𝓜 𝓡 #self _ (code.unfolded 𝓤 𝓛.H 𝓜 𝓡 wired) (λ κs qs. refl) (λ κs a are. token2 𝓛 (tt, (tt, tt)) (tt, tt) (tt, (tt, tt)) (tt, (tt, tt))) (λ κs qs a are gh is end.
    let o = a.0 in let t = a.1.0 in move ! (2 ∷ 1 ∷ []) $ heard ! (MayClose o t) (λ asked. rewrite ! 0 (λ (m : ℕ). ‵ (cell_token m t.value)) asked.1 refl $ move ! (1 ∷ 0 ∷ []) $
    use2 𝓛 (‵ (keys_own o.name (with_note t.value o.held))) (closes_key 𝓛 o.name o.held t.value asked.0) $
    end (record { marker = record {}; name = o.name; held = with_note t.value o.held }) (tt, (tt, tt)) (told 𝓤 (refl, refl))))
