-- `again`: what a book owns can be had twice, and a `&` lends it.
use Rattle.seize_book.proofs.CallKit.{[], ◌∷◌, refl, ◌$◌, !, keep, calls, told, token1, Only, shown}
use Rattle.seize_book.specs.contracts.book.seen.Seen as Seen
use Rattle.seize_book.specs.contracts.book.seen.Seen.again.{ended, clauses}
use Rattle.seize_book.specs.contracts.book.seen.Seen.again.Key.{name as #self}
use Rattle.seize_book.proofs.book.seen.Seen.again.Statement.{statement}
use Rattle.seize_book.proofs.book.seen.Seen.again.Code as code

pub again_spec : {M : Type 1} → statement M
again_spec 𝓤 𝓛 𝓜 𝓡 wired =
    calls 𝓛 ended (shown 𝓛 0 tt (λ κs. Seen.the_row) (λ κs. Seen.the_lent) (λ κs x. refl), tt) (clauses 𝓛 𝓜.mem 𝓡.returns) _ (λ κs. Only 𝓛 Seen.the_row Seen.the_heap (λ r. refl)) 𝓜 𝓡 #self _ (code.unfolded 𝓤 𝓛.H 𝓜 𝓡 wired) (λ κs qs. refl) (λ κs a are. token1 𝓛 (tt, (tt, tt)) (tt, tt) (tt, tt)) (λ κs qs a are gh is end.
    keep ! (1 ∷ 0 ∷ []) $ end a.0.now (tt, tt) (told 𝓤 (refl, refl)))
