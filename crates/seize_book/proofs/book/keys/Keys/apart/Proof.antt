-- `apart`: a key is held once.
use Rattle.seize_book.proofs.CallKit.{[], ◌∷◌, refl, ‵, given, ◌$◌, !, keep, learn, use1, calls, told, unit1, No, keys, keys_own}
use Rattle.seize_book.specs.Ledger.{AllApart}
use Rattle.seize_book.proofs.Apart.{keys_are_apart}
use Rattle.seize_book.specs.contracts.book.keys.Keys.apart.{ended, clauses}
use Rattle.seize_book.specs.contracts.book.keys.Keys.apart.Key.{name as #self}
use Rattle.seize_book.proofs.book.keys.Keys.apart.Statement.{statement}
use Rattle.seize_book.proofs.book.keys.Keys.apart.Code as code

pub apart_spec : {M : Type 1} → statement M
apart_spec 𝓤 𝓛 𝓜 𝓡 wired =
    calls 𝓛 ended (keys 𝓛 0 tt, tt) (clauses 𝓛 𝓜.mem 𝓡.returns) _ (λ κs. No 𝓛) 𝓜 𝓡 #self _ (code.unfolded 𝓤 𝓛.H 𝓜 𝓡 wired) (λ κs qs. refl) (λ κs a are. unit1 𝓛 (tt, tt)) (λ κs qs a are gh is end.
    let k = a.0.now in use1 𝓛 (given (AllApart k.held) (‵ (keys_own k.name k.held))) (keys_are_apart 𝓛 k.name k.held) $ learn ! (λ apart. keep ! (0 ∷ []) $
    end tt (k, tt) (told 𝓤 (refl, apart))))
