-- `row_of` gives what the book keeps of where the number leads.
use Rattle.seize_book.proofs.CallKit.{ℕ, List, [], ◌∷◌, refl, subst, ‵, ◌⊛◌, some, given, later, await, heard, ◌$◌, !, move, drop, split, fsplit, fpick, pick, learn, use1, calls, told, token2, Only, pass, number, Entry, Before, pass_owns, looked, IsDistinct}
use Rattle.seize_store.specs.Named.{IsRowOf}
use Rattle.seize_store.specs.contracts.row_token.RowToken as RowToken
use Rattle.seize_book.specs.Homesteads.{HasNumber, state_seen}
use Rattle.seize_book.specs.Tokens.{leads}
use Rattle.seize_book.proofs.Looks.{finds_row}
use Rattle.seize_book.specs.contracts.book.pass.Pass.row_of.{ended, clauses}
use Rattle.seize_book.specs.contracts.book.pass.Pass.row_of.Key.{name as #self}
use Rattle.seize_book.proofs.book.pass.Pass.row_of.Statement.{statement}
use Rattle.seize_book.proofs.book.pass.Pass.row_of.Code as code

pub row_of_spec : {M : Type 1} → statement M
row_of_spec 𝓤 𝓛 𝓜 𝓡 wired =
    calls 𝓛 ended (pass 𝓛 0 tt 1 tt, (number 𝓛, tt)) (clauses 𝓛 𝓜.mem 𝓡.returns) _ (λ κs. Only 𝓛 RowToken.the_row RowToken.the_heap (λ r. refl)) 𝓜 𝓡 #self _ (code.unfolded 𝓤 𝓛.H 𝓜 𝓡 wired) (λ κs qs. refl) (λ κs a are. token2 𝓛 (tt, (tt, tt)) (tt, tt) (tt, tt) (tt, record { fits = are.1.0.1 })) (λ κs qs a are gh is end.
    let b = a.0.now in move ! (1 ∷ []) $ heard ! (HasNumber a.1.0 (state_seen b)) (λ asked. let v : ℕ = asked.0 in
    use1 𝓛 (later (some (λ (log : List Entry). given (Before b.name b.id b.seen [] log × IsDistinct 𝓛 b.name) (‵ (pass_owns b.name b.id log) ⊛ ‵ (leads b.name v))))) (finds_row 𝓛 b.name b.id b.seen v asked.1) $ await ! tt $ pick ! (λ log. learn ! (λ so. split ! $
    move ! (1 ∷ []) $ fsplit ! $ move ! (1 ∷ []) $ drop ! $ fpick ! (λ way. let r : RowToken.the_row.Denot = record { marker = record {}; store = b.name.store; row = way.row; chunks = way.chunks; made = way.made } in
    move ! (1 ∷ 0 ∷ []) $ end r (log, (tt, tt)) (told 𝓤 (looked b.name b.id b.seen log so.0 so.1, refl, subst (IsRowOf r) asked.2 way.placed)))))))
