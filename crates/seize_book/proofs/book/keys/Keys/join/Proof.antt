-- `join` takes the keys of another.
use Rattle.seize_book.proofs.CallKit.{[], ◌∷◌, ◌++◌, refl, ‵, heard, ◌$◌, !, move, rewrite, use2, nothing, calls, told, unit2, No, keys, Name, keys_own}
use Rattle.seize_book.proofs.Ways.{keys_joined}
use Rattle.seize_book.specs.contracts.book.keys.Keys.join.{ended, clauses}
use Rattle.seize_book.specs.contracts.book.keys.Keys.join.Key.{name as #self}
use Rattle.seize_book.proofs.book.keys.Keys.join.Statement.{statement}
use Rattle.seize_book.proofs.book.keys.Keys.join.Code as code

pub join_spec : {M : Type 1} → statement M
join_spec 𝓤 𝓛 𝓜 𝓡 wired =
    calls 𝓛 ended (keys 𝓛 0 tt, (keys 𝓛 1 tt, tt)) (clauses 𝓛 𝓜.mem 𝓡.returns) _ (λ κs. No 𝓛) 𝓜 𝓡 #self _ (code.unfolded 𝓤 𝓛.H 𝓜 𝓡 wired) (λ κs qs. refl) (λ κs a are. unit2 𝓛 (tt, tt) (tt, tt)) (λ κs qs a are gh is end.
    let p = a.0.now in let r = a.1.0.now in move ! (2 ∷ 1 ∷ []) $ heard ! _ (λ asked. rewrite ! 0 (λ (z : Name). ‵ (keys_own z r.held)) asked refl $ move ! (1 ∷ 0 ∷ []) $
    use2 𝓛 (‵ (keys_own p.name (p.held ++ r.held))) (keys_joined 𝓛 p.name p.held r.held) $ nothing ! $ move ! (1 ∷ 0 ∷ []) $
    end tt (record p { held = p.held ++ r.held }, (record r { name = p.name; held = [] }, tt)) (told 𝓤 (refl, refl, refl, refl))))
