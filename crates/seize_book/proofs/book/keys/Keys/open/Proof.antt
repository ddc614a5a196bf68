-- `open` takes the token from beside the key.
use Rattle.seize_book.proofs.CallKit.{[], ◌∷◌, refl, ‵, ◌⊛◌, heard, ◌$◌, !, move, split, use1, nothing, calls, told, pair1, Only, Both, keys, label_of}
use Rattle.seize_content.specs.Cells.{cell_token}
use Rattle.seize_content.specs.contracts.token_cell.CellToken as CellToken
use Rattle.seize_book.specs.Loans.{cell_of}
use Rattle.seize_book.specs.Notes.{MayOpen}
use Rattle.seize_book.specs.Private.{note_of}
use Rattle.seize_book.specs.Tokens.{key_without_note_owns}
use Rattle.seize_book.specs.contracts.book.key_without_note.KeyWithoutNote as KeyWithoutNote
use Rattle.seize_book.proofs.Ways.{opens_key}
use Rattle.seize_book.specs.contracts.book.keys.Keys.open.{ended, clauses}
use Rattle.seize_book.specs.contracts.book.keys.Keys.open.Key.{name as #self}
use Rattle.seize_book.proofs.book.keys.Keys.open.Statement.{statement}
use Rattle.seize_book.proofs.book.keys.Keys.open.Code as code

pub open_spec : {M : Type 1} → statement M
open_spec 𝓤 𝓛 𝓜 𝓡 wired =
    calls 𝓛 ended (keys 𝓛 0 tt, tt) (clauses 𝓛 𝓜.mem 𝓡.returns) _ (λ κs. Both 𝓛 (Only 𝓛 KeyWithoutNote.the_row KeyWithoutNote.the_heap (λ r. refl)) (Only 𝓛 CellToken.the_row CellToken.the_heap (λ r. refl))) 𝓜 𝓡 #self _ (code.unfolded 𝓤 𝓛.H 𝓜 𝓡 wired) (λ κs qs. refl) (λ κs a are. pair1 𝓛 (tt, ((tt, tt), ((tt, tt), tt))) (tt, (tt, tt)) (tt, (tt, tt)) (tt, tt) (tt, (tt, tt)) (tt, tt)) (λ κs qs a are gh is end.
    let k = a.0.now in move ! (1 ∷ []) $ heard ! (MayOpen k) (λ asked.
    use1 𝓛 (‵ (key_without_note_owns k.name k.held) ⊛ ‵ (cell_token (cell_of (label_of k.held)) (note_of k.held))) (opens_key 𝓛 k.name k.held asked) $ split ! $ nothing ! $
    end (record { marker = record {}; name = k.name; held = k.held }, record { marker = record {}; name = cell_of (label_of k.held); value = note_of k.held }) (record k { held = [] }, tt) (told 𝓤 (refl, refl, refl, refl, refl, refl))))
