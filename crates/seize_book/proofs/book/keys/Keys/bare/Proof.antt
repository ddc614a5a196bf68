-- `bare` gives the rights alone.
use Rattle.seize_book.proofs.CallKit.{[], ◌∷◌, refl, ‵, ◌⊛◌, ◌$◌, !, keep, split, fjoin, use1, nothing, calls, told, token1, Only, keys}
use Rattle.seize_book.specs.Tokens.{notes_own, rights_own}
use Rattle.seize_book.specs.contracts.book.rights.Rights as Rights
use Rattle.seize_book.proofs.Ways.{keys_bared}
use Rattle.seize_book.specs.contracts.book.keys.Keys.bare.{ended, clauses}
use Rattle.seize_book.specs.contracts.book.keys.Keys.bare.Key.{name as #self}
use Rattle.seize_book.proofs.book.keys.Keys.bare.Statement.{statement}
use Rattle.seize_book.proofs.book.keys.Keys.bare.Code as code

pub bare_spec : {M : Type 1} → statement M
bare_spec 𝓤 𝓛 𝓜 𝓡 wired =
    calls 𝓛 ended (keys 𝓛 0 tt, tt) (clauses 𝓛 𝓜.mem 𝓡.returns) _ (λ κs. Only 𝓛 Rights.the_row Rights.the_heap (λ r. refl)) 𝓜 𝓡 #self _ (code.unfolded 𝓤 𝓛.H 𝓜 𝓡 wired) (λ κs qs. refl) (λ κs a are. token1 𝓛 (tt, (tt, tt)) (tt, tt) (tt, tt)) (λ κs qs a are gh is end.
    let b = a.0.now in use1 𝓛 (‵ (rights_own b.name b.held) ⊛ ‵ (notes_own b.held)) (keys_bared 𝓛 b.name b.held) $ split ! $ fjoin ! $ nothing ! $ keep ! (0 ∷ 1 ∷ []) $
    end (record { marker = record {}; name = b.name; held = b.held }) (record b { held = [] }, tt) (told 𝓤 (refl, refl)))
