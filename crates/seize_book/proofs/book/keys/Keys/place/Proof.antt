-- `place` says where the head lies.
use Rattle.seize_book.proofs.CallKit.{[], ◌∷◌, refl, ‵, heard, ◌$◌, !, move, use2, calls, told, unit2, No, keys, shown, with_label, keys_own}
use Rattle.seize_table.specs.contracts.tls.filled_at.FilledAt as Filled
use Rattle.seize_book.proofs.Ways.{laid}
use Rattle.seize_book.specs.contracts.book.keys.Keys.place.{ended, clauses}
use Rattle.seize_book.specs.contracts.book.keys.Keys.place.Key.{name as #self}
use Rattle.seize_book.proofs.book.keys.Keys.place.Statement.{statement}
use Rattle.seize_book.proofs.book.keys.Keys.place.Code as code

pub place_spec : {M : Type 1} → statement M
place_spec 𝓤 𝓛 𝓜 𝓡 wired =
    calls 𝓛 ended (keys 𝓛 0 tt, (shown 𝓛 1 tt (λ κs. Filled.the_row) (λ κs. Filled.the_lent) (λ κs x. refl), tt)) (clauses 𝓛 𝓜.mem 𝓡.returns) _ (λ κs. No 𝓛) 𝓜 𝓡 #self _ (code.unfolded 𝓤 𝓛.H 𝓜 𝓡 wired) (λ κs qs. refl) (λ κs a are. unit2 𝓛 (tt, tt) (tt, tt)) (λ κs qs a are gh is end.
    let b = a.0.now in let k = a.1.0.now in move ! (3 ∷ []) $ heard ! _ (λ asked.
    use2 𝓛 (‵ (keys_own b.name (with_label 1 b.held))) (laid 𝓛 b.name k.table k.number k.label b.held asked.one asked.table asked.entry asked.head) $
    end tt (record b { held = with_label 1 b.held }, (tt, tt)) (told 𝓤 (refl, refl))))
