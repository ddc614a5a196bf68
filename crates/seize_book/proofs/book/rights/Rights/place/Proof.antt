-- `place` gives the rights, with the way that the token shows.
use Rattle.seize_book.proofs.CallKit.{ℕ, [], ◌∷◌, refl, sym, subst, ‵, heard, ◌$◌, !, move, fsplit, fjoin, use3, nothing, calls, told, token3, Only, held, shown, number, with_label, keys_own}
use Rattle.seize_store.specs.contracts.row_token.RowToken as RowToken
use Rattle.std.proofs.Common.{◌∙◌, ap, subst, sym}
use Rattle.seize_store.specs.RowTokens.{IsInRow, content_in, entry_of, label_in}
use Rattle.seize_book.specs.Bare.{IsWay}
use Rattle.seize_book.specs.Tokens.{chunk_label}
use Rattle.seize_book.proofs.Renames.{fresh_at, placed_at, places}
use Rattle.seize_book.proofs.Ways.{placed}
use Rattle.seize_book.specs.contracts.book.keys.Keys as Keys
use Rattle.seize_book.specs.contracts.book.rights.Rights as Rights
use Rattle.seize_book.specs.contracts.book.rights.Rights.place.{ended, clauses}
use Rattle.seize_book.specs.contracts.book.rights.Rights.place.Key.{name as #self}
use Rattle.seize_book.proofs.book.rights.Rights.place.Statement.{statement}
use Rattle.seize_book.proofs.book.rights.Rights.place.Code as code

pub place_spec : {M : Type 1} → statement M
place_spec 𝓤 𝓛 𝓜 𝓡 wired =
    calls 𝓛 ended (held 𝓛 0 tt (λ κs. Rights.the_row) (λ κs. Rights.the_heap) (λ κs x vs. refl), (number 𝓛, (shown 𝓛 1 tt (λ κs. RowToken.the_row) (λ κs. RowToken.the_lent) (λ κs x. refl), tt))) (clauses 𝓛 𝓜.mem 𝓡.returns) _ (λ κs. Only 𝓛 Keys.the_row Keys.the_heap (λ r. refl)) 𝓜 𝓡 #self _ (code.unfolded 𝓤 𝓛.H 𝓜 𝓡 wired) (λ κs qs. refl) (λ κs a are. token3 𝓛 (tt, (tt, tt)) (tt, tt) (tt, tt) (tt, record { fits = are.1.0.1 }) (tt, tt)) (λ κs qs a are gh is end.
    let b = a.0.now in let number : ℕ = a.1.0 in let k = a.1.1.0.now in move ! (3 ∷ []) $ heard ! (IsWay b number k) (λ asked.
    let place : ℕ = content_in k.chunks (entry_of number) in let v : ℕ = fresh_at b.name b.held place number are.1.0.1 in let is = placed_at b.name b.held place number are.1.0.1 in let held' = with_label v b.held in
    fsplit ! $ use3 𝓛 (‵ (keys_own b.name held')) (placed 𝓛 b.name k.store k.row k.chunks b.held v asked.one asked.store k.made
    (subst (λ (m : ℕ). IsInRow m k.row) (sym is.1) asked.placed)
    (ap (λ (m : ℕ). label_in k.chunks (entry_of m)) is.1 ∙ (asked.home ∙ ap (λ (t : ℕ × ℕ). chunk_label b.name t.0 t.1) (λ j. (sym is.0 j, is.4 j))), ap (λ (m : ℕ). content_in k.chunks (entry_of m)) is.1 ∙ sym is.2) is.3 is.4) $
    let r : Keys.the_row.Denot = record { marker = record {}; name = b.name; held = held' } in nothing ! $ nothing ! $ fjoin ! $ move ! (0 ∷ 2 ∷ 1 ∷ []) $
    end r (record b { held = [] }, (tt, (tt, tt))) (told 𝓤 (places b.marker r.marker b.name b.held number are.1.0.1 k))))
