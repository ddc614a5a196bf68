-- `part_last` gives the last key away.
use Rattle.seize_book.proofs.CallKit.{[], ◌∷◌, refl, ‵, ◌⊛◌, heard, ◌$◌, !, move, keep, split, use1, calls, told, unit2, No, keys, keys_own}
use Rattle.std.specs.Prelude.{take, drop as past}
use Rattle.seize_book.specs.Adding.{before_last}
use Rattle.seize_book.proofs.Ways.{first_parted}
use Rattle.seize_book.specs.contracts.book.keys.Keys.part_last.{ended, clauses}
use Rattle.seize_book.specs.contracts.book.keys.Keys.part_last.Key.{name as #self}
use Rattle.seize_book.proofs.book.keys.Keys.part_last.Statement.{statement}
use Rattle.seize_book.proofs.book.keys.Keys.part_last.Code as code

pub part_last_spec : {M : Type 1} → statement M
part_last_spec 𝓤 𝓛 𝓜 𝓡 wired =
    calls 𝓛 ended (keys 𝓛 0 tt, (keys 𝓛 1 tt, tt)) (clauses 𝓛 𝓜.mem 𝓡.returns) _ (λ κs. No 𝓛) 𝓜 𝓡 #self _ (code.unfolded 𝓤 𝓛.H 𝓜 𝓡 wired) (λ κs qs. refl) (λ κs a are. unit2 𝓛 (tt, tt) (tt, tt)) (λ κs qs a are gh is end.
    let p = a.0.now in let r = a.1.0.now in move ! (2 ∷ []) $ heard ! _ (λ asked.
    use1 𝓛 (‵ (keys_own p.name (take (before_last p.held) p.held)) ⊛ ‵ (keys_own p.name (past (before_last p.held) p.held))) (first_parted 𝓛 p.name (before_last p.held) p.held) $ split ! $ keep ! (0 ∷ 1 ∷ []) $
    end tt (record p { held = take (before_last p.held) p.held }, (record r { name = p.name; held = past (before_last p.held) p.held }, tt)) (told 𝓤 (refl, refl, refl, refl))))
