-- `empty`: no keys own nothing.
use Rattle.seize_book.proofs.CallKit.{[], ◌∷◌, refl, ◌$◌, !, keep, nothing, calls, told, token1, Only, pass}
use Rattle.seize_book.specs.contracts.book.keys.Keys as Keys
use Rattle.seize_book.specs.contracts.book.keys.Keys.empty.{ended, clauses}
use Rattle.seize_book.specs.contracts.book.keys.Keys.empty.Key.{name as #self}
use Rattle.seize_book.proofs.book.keys.Keys.empty.Statement.{statement}
use Rattle.seize_book.proofs.book.keys.Keys.empty.Code as code

pub empty_spec : {M : Type 1} → statement M
empty_spec 𝓤 𝓛 𝓜 𝓡 wired =
    calls 𝓛 ended (pass 𝓛 0 tt 1 tt, tt) (clauses 𝓛 𝓜.mem 𝓡.returns) _ (λ κs. Only 𝓛 Keys.the_row Keys.the_heap (λ r. refl)) 𝓜 𝓡 #self _ (code.unfolded 𝓤 𝓛.H 𝓜 𝓡 wired) (λ κs qs. refl) (λ κs a are. token1 𝓛 (tt, (tt, tt)) (tt, tt) (tt, tt)) (λ κs qs a are gh is end.
    let b = a.0.now in nothing ! $ keep ! (1 ∷ 0 ∷ []) $ end (record { marker = record {}; name = b.name; held = [] }) (b.seen, tt) (told 𝓤 (refl, refl, refl)))
