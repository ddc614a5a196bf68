-- `leave_home` begins a lifetime, and ends the one before.
use Rattle.seize_book.proofs.CallKit.{[], ◌∷◌, refl, ‵, later, await, ◌$◌, !, move, keep, fsplit, fjoin, use1, calls, told, unit1, No, held, porter_has}
use Rattle.std.proofs.Common.{false}
use Rattle.seize_book.proofs.Shares.{goes_off}
use Rattle.seize_book.specs.contracts.book.porter.Porter as Porter
use Rattle.seize_book.specs.contracts.book.porter.Porter.leave_home.{ended, clauses}
use Rattle.seize_book.specs.contracts.book.porter.Porter.leave_home.Key.{name as #self}
use Rattle.seize_book.proofs.book.porter.Porter.leave_home.Statement.{statement}
use Rattle.seize_book.proofs.book.porter.Porter.leave_home.Code as code

pub leave_home_spec : {M : Type 1} → statement M
leave_home_spec 𝓤 𝓛 𝓜 𝓡 wired =
    calls 𝓛 ended (held 𝓛 0 tt (λ κs. Porter.the_row) (λ κs. Porter.the_heap) (λ κs x vs. refl), tt) (clauses 𝓛 𝓜.mem 𝓡.returns) _ (λ κs. No 𝓛) 𝓜 𝓡 #self _ (code.unfolded 𝓤 𝓛.H 𝓜 𝓡 wired) (λ κs qs. refl) (λ κs a are. unit1 𝓛 (tt, tt)) (λ κs qs a are gh is end.
    let b = a.0.now in fsplit ! $ move ! (1 ∷ []) $
    use1 𝓛 (later (‵ (porter_has b.name false b.seen))) (goes_off 𝓛 b.name b.seen b.home) $ await ! tt $
    move ! (1 ∷ 0 ∷ []) $ fjoin ! $ keep ! (0 ∷ []) $ end tt (record b { home = false }, tt) (told 𝓤 ((refl, refl), refl, refl)))
