-- `shut` comes home, and gives the first pass what it has there.
use Rattle.seize_book.proofs.CallKit.{List, [], ◌∷◌, refl, ‵, some, given, later, await, ◌$◌, !, move, keep, fsplit, fjoin, pick, learn, use1, static_lft, yes, calls, told, token1, Of, taken, Entry, pass_owns, porter_owns, mark_made}
use Rattle.std.proofs.Common.{true}
use Rattle.seize_book.proofs.Shares.{goes_home}
use Rattle.seize_book.specs.contracts.book.porter.Porter as Porter
use Rattle.seize_book.proofs.Porters.{IsHome, home_passes, shut_by}
use Rattle.seize_book.specs.contracts.book.pass.Pass as Pass
use Rattle.seize_book.proofs.Fields.{porter_tells}
use Rattle.seize_book.specs.contracts.book.porter.Porter.shut.{ended, clauses}
use Rattle.seize_book.specs.contracts.book.porter.Porter.shut.Key.{name as #self}
use Rattle.seize_book.proofs.book.porter.Porter.shut.Statement.{statement}
use Rattle.seize_book.proofs.book.porter.Porter.shut.Code as code

pub shut_spec : {M : Type 1} → statement M
shut_spec 𝓤 𝓛 𝓜 𝓡 wired =
    calls 𝓛 ended (taken 𝓛 yes (λ κs. Porter.the_row) (λ κs. Porter.the_heap) (λ κs x. refl) (λ κs. porter_tells) (λ κs x f. refl) (λ κs x. tt), tt) (clauses 𝓛 𝓜.mem 𝓡.returns) _ (λ κs. Of 𝓛 (Pass.the_row static_lft) (mark_made 𝓛 static_lft) (Pass.the_heap []) (λ r. refl)) 𝓜 𝓡 #self _ (code.unfolded 𝓤 𝓛.H 𝓜 𝓡 wired) (λ κs qs. refl) (λ κs a are. token1 𝓛 (tt, (tt, tt)) (tt, tt) (tt, (tt, tt))) (λ κs qs a are gh is end.
    let b = a.0 in fsplit ! $ move ! (1 ∷ []) $ use1 𝓛 (later (some (λ (log : List Entry). given (IsHome 𝓛 b.name b.home b.seen log) (‵ (porter_owns b.name true 0 log))))) (goes_home 𝓛 b.name b.seen b.home) $ await ! tt $ pick ! (λ log. learn ! (λ so.
    use1 𝓛 (‵ (pass_owns b.name 0 log)) (home_passes 𝓛 b.name log) $ move ! (1 ∷ 0 ∷ []) $ fjoin ! $ keep ! (0 ∷ []) $
    end (record { marker = record {}; name = b.name; id = 0; size = b.size; seen = log }) (tt, tt) (told 𝓤 (shut_by 𝓛 b.name b.home b.seen log so)))))
