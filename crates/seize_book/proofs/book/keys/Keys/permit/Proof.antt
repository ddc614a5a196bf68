-- `permit` gives what goes with the keys of what may be lent.
use Rattle.seize_book.proofs.CallKit.{ℕ, ◌≡◌, List, [], ◌∷◌, refl, ‵, heard, ◌$◌, !, move, use1, calls, told, token1, Only, shown, loan_of, all_permitted}
use Rattle.std.specs.Prelude.{List, map, true}
use Rattle.seize_book.specs.contracts.book.permit.Permit as Permit
use Rattle.seize_book.specs.Private.{are_of_blocks, labels_of}
use Rattle.seize_book.specs.contracts.book.keys.Keys as Keys
use Rattle.seize_book.proofs.Peeks.{permits_shown}
use Rattle.seize_book.specs.contracts.book.keys.Keys.permit.{ended, clauses}
use Rattle.seize_book.specs.contracts.book.keys.Keys.permit.Key.{name as #self}
use Rattle.seize_book.proofs.book.keys.Keys.permit.Statement.{statement}
use Rattle.seize_book.proofs.book.keys.Keys.permit.Code as code

pub permit_spec : {M : Type 1} → statement M
permit_spec 𝓤 𝓛 𝓜 𝓡 wired =
    calls 𝓛 ended (shown 𝓛 0 tt (λ κs. Keys.the_row) (λ κs. Keys.the_lent) (λ κs x. refl), tt) (clauses 𝓛 𝓜.mem 𝓡.returns) _ (λ κs. Only 𝓛 Permit.the_row Permit.the_heap (λ r. refl)) 𝓜 𝓡 #self _ (code.unfolded 𝓤 𝓛.H 𝓜 𝓡 wired) (λ κs qs. refl) (λ κs a are. token1 𝓛 (tt, (tt, tt)) (tt, tt) (tt, tt)) (λ κs qs a are gh is end.
    let d = a.0.now in let ls : List ℕ = map loan_of (labels_of d.held) in move ! (2 ∷ []) $ heard ! (are_of_blocks d.held ≡ true) (λ asked.
    use1 𝓛 (‵ (all_permitted d.name.permits ls)) (permits_shown 𝓛 d.name κs.0 d.held asked) $ move ! (1 ∷ 0 ∷ []) $
    end (record { marker = record {}; list = d.name.permits; codes = ls }) (tt, tt) (told 𝓤 (refl, refl))))
