-- `row` gives what goes with the key of where its value's number leads.
use Rattle.seize_book.proofs.CallKit.{ℕ, ◌≡◌, [], ◌∷◌, refl, ‵, ◌⊛◌, heard, ◌$◌, !, move, keep, split, fsplit, fpick, use1, calls, told, token1, Only, shown, loan_of, label_of, Lft}
use Rattle.std.specs.Prelude.{true}
use Rattle.seize_store.specs.contracts.row_token.RowToken as RowToken
use Rattle.seize_book.specs.Book.{blocks}
use Rattle.seize_book.specs.Peeks.{sight_if}
use Rattle.seize_book.specs.Private.{is_one}
use Rattle.seize_book.specs.Tokens.{leads}
use Rattle.seize_book.specs.contracts.book.keys.Keys as Keys
use Rattle.seize_book.proofs.Peeks.{shows}
use Rattle.std.proofs.Common.{ap}
use Rattle.seize_book.specs.contracts.book.keys.Keys.row.{ended, clauses}
use Rattle.seize_book.specs.contracts.book.keys.Keys.row.Key.{name as #self}
use Rattle.seize_book.proofs.book.keys.Keys.row.Statement.{statement}
use Rattle.seize_book.proofs.book.keys.Keys.row.Code as code

pub row_spec : {M : Type 1} → statement M
row_spec 𝓤 𝓛 𝓜 𝓡 wired =
    calls 𝓛 ended (shown 𝓛 0 tt (λ κs. Keys.the_row) (λ κs. Keys.the_lent) (λ κs x. refl), tt) (clauses 𝓛 𝓜.mem 𝓡.returns) _ (λ κs. Only 𝓛 RowToken.the_row RowToken.the_heap (λ r. refl)) 𝓜 𝓡 #self _ (code.unfolded 𝓤 𝓛.H 𝓜 𝓡 wired) (λ κs qs. refl) (λ κs a are. token1 𝓛 (tt, (tt, tt)) (tt, tt) (tt, tt)) (λ κs qs a are gh is end.
    let κ : Lft = κs.0 in let d = a.0.now in let v : ℕ = label_of d.held in move ! (2 ∷ []) $ heard ! (is_one blocks d.held ≡ true) (λ asked.
    use1 𝓛 (‵ (leads d.name v) ⊛ ‵ (sight_if (loan_of v) κ v)) (shows 𝓛 d.name κ d.held asked) $ split ! $ fsplit ! $ fpick ! (λ way. keep ! (3 ∷ 0 ∷ []) $
    end (record { marker = record {}; store = d.name.store; row = way.row; chunks = way.chunks; made = way.made }) (tt, tt) (told 𝓤 (refl, way.placed, ap (λ (t : ℕ × ℕ). t.0) way.tagged, ap (λ (t : ℕ × ℕ). t.1) way.tagged)))))
