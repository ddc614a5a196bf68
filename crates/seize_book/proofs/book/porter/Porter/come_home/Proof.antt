-- `come_home` ends the porter's period, has all tickets then, and sees the whole list.
use Rattle.seize_book.proofs.CallKit.{List, [], ◌∷◌, refl, ‵, some, given, later, await, ◌$◌, !, move, keep, fsplit, fjoin, pick, learn, use1, calls, told, unit1, No, held, Entry, porter_owns}
use Rattle.std.proofs.Common.{true}
use Rattle.seize_book.proofs.Shares.{goes_home}
use Rattle.seize_book.specs.contracts.book.porter.Porter as Porter
use Rattle.seize_book.proofs.Porters.{IsHome, home_by}
use Rattle.seize_book.specs.contracts.book.porter.Porter.come_home.{ended, clauses}
use Rattle.seize_book.specs.contracts.book.porter.Porter.come_home.Key.{name as #self}
use Rattle.seize_book.proofs.book.porter.Porter.come_home.Statement.{statement}
use Rattle.seize_book.proofs.book.porter.Porter.come_home.Code as code

pub come_home_spec : {M : Type 1} → statement M
come_home_spec 𝓤 𝓛 𝓜 𝓡 wired =
    calls 𝓛 ended (held 𝓛 0 tt (λ κs. Porter.the_row) (λ κs. Porter.the_heap) (λ κs x vs. refl), tt) (clauses 𝓛 𝓜.mem 𝓡.returns) _ (λ κs. No 𝓛) 𝓜 𝓡 #self _ (code.unfolded 𝓤 𝓛.H 𝓜 𝓡 wired) (λ κs qs. refl) (λ κs a are. unit1 𝓛 (tt, tt)) (λ κs qs a are gh is end.
    let b = a.0.now in fsplit ! $ move ! (1 ∷ []) $ use1 𝓛 (later (some (λ (log : List Entry). given (IsHome 𝓛 b.name b.home b.seen log) (‵ (porter_owns b.name true 0 log))))) (goes_home 𝓛 b.name b.seen b.home) $ await ! tt $ pick ! (λ log. learn ! (λ so.
    move ! (1 ∷ 0 ∷ []) $ fjoin ! $ keep ! (0 ∷ []) $ end tt (record b { seen = log; home = true }, tt) (told 𝓤 (home_by 𝓛 b.name b.home b.seen log so)))))
