-- `open_again` gives the porter what the pass has of the gate: it is at home.
use Rattle.seize_book.proofs.CallKit.{ℕ, [], ◌∷◌, refl, ‵, heard, ◌$◌, !, move, fsplit, fjoin, rewrite, use1, static_lft, no, calls, told, token1, Only, taken, porter_owns}
use Rattle.std.proofs.Common.{true}
use Rattle.seize_book.specs.Tokens.{lent_pass, IsSole}
use Rattle.seize_book.specs.contracts.book.porter.Porter as Porter
use Rattle.seize_book.proofs.Porters.{pass_homes}
use Rattle.seize_book.specs.contracts.book.pass.Pass as Pass
use Rattle.seize_book.proofs.Fields.{pass_tells}
use Rattle.seize_book.specs.contracts.book.pass.Pass.open_again.{ended, clauses}
use Rattle.seize_book.specs.contracts.book.pass.Pass.open_again.Key.{name as #self}
use Rattle.seize_book.proofs.book.pass.Pass.open_again.Statement.{statement}
use Rattle.seize_book.proofs.book.pass.Pass.open_again.Code as code

pub open_again_spec : {M : Type 1} → statement M
open_again_spec 𝓤 𝓛 𝓜 𝓡 wired =
    calls 𝓛 ended (taken 𝓛 no (λ κs. Pass.the_row static_lft) (λ κs. Pass.the_heap []) (λ κs x. refl) (λ κs. pass_tells) (λ κs x f. refl) (λ κs x. tt), tt) (clauses 𝓛 𝓜.mem 𝓡.returns) _ (λ κs. Only 𝓛 Porter.the_row Porter.the_heap (λ r. refl)) 𝓜 𝓡 #self _ (code.unfolded 𝓤 𝓛.H 𝓜 𝓡 wired) (λ κs qs. refl) (λ κs a are. token1 𝓛 (tt, (tt, tt)) (tt, tt) (tt, (tt, tt))) (λ κs qs a are gh is end.
    let p = a.0 in move ! (1 ∷ []) $ heard ! (IsSole p.id) (λ asked. fsplit ! $ move ! (1 ∷ []) $ rewrite ! 0 (λ (m : ℕ). ‵ (lent_pass p.name [] m p.seen)) asked refl $
    use1 𝓛 (‵ (porter_owns p.name true 0 p.seen)) (pass_homes 𝓛 p.name p.seen) $ move ! (1 ∷ 0 ∷ []) $ fjoin ! $
    end (record { marker = record {}; name = p.name; size = p.size; seen = p.seen; home = true }) (tt, tt) (told 𝓤 ((refl, refl), refl, refl))))
