-- `sight` gives the sight by itself.
use Rattle.seize_book.proofs.CallKit.{ℕ, [], ◌∷◌, refl, ‵, some, given, heard, ◌$◌, !, move, pick, learn, use1, no, calls, told, token1, Of, taken, beside, Gv, unit, ShrRef, marked_made, named, named_lft, Lft}
use Rattle.seize_content.specs.Contents.{sight_owns}
use Rattle.seize_content.specs.contracts.loan.Sight as Sight
use Rattle.seize_words.specs.Glimpses.{IsLentWith}
use Rattle.seize_words.specs.contracts.glimpse.Glimpse as Glimpse
use Rattle.seize_words.proofs.Sights.{glimpse_tells, IsOf, glimpsed}
use Rattle.seize_words.specs.contracts.glimpse.Glimpse.sight.{ended, clauses}
use Rattle.seize_words.specs.contracts.glimpse.Glimpse.sight.Key.{name as #self}
use Rattle.seize_words.proofs.glimpse.Glimpse.sight.Statement.{statement}
use Rattle.seize_words.proofs.glimpse.Glimpse.sight.Code as code

pub sight_spec : {M : Type 1} → statement M
sight_spec 𝓤 𝓛 𝓜 𝓡 wired =
    calls 𝓛 ended (beside 𝓛 0 tt (taken 𝓛 no (λ κs. Glimpse.the_row (named_lft 1 0 tt κs)) (λ κs. Glimpse.the_heap κs.0) (λ κs x. refl) (λ κs. glimpse_tells (named_lft 1 0 tt κs)) (λ κs x f. refl) (λ κs x. tt)), tt) (clauses 𝓛 𝓜.mem 𝓡.returns) _ (λ κs. Of 𝓛 (Sight.the_row (named_lft 1 0 tt κs)) (marked_made (ShrRef (named 0) κs.0 unit) 𝓛) (Sight.the_heap κs.0) (λ r. refl)) 𝓜 𝓡 #self _ (code.unfolded 𝓤 𝓛.H 𝓜 𝓡 wired) (λ κs qs. refl) (λ κs a are. token1 𝓛 (tt, (tt, tt)) (tt, tt) (tt, (tt, tt))) (λ κs qs a are gh is end.
    let κ : Lft = κs.0 in let d = a.0 in move ! (1 ∷ []) $ heard ! (IsLentWith d.value) (λ asked.
    use1 𝓛 (some (λ (t : ℕ × (ℕ × Gv)). given (IsOf d.value t) (‵ (sight_owns κ t.0 t.1.0 t.1.1)))) (glimpsed 𝓛 κ d.value asked) $ pick ! (λ t. learn ! (λ its.
    end (record { marker = record {}; name = t.0; life = t.1.0; value = t.1.1 }) (tt, tt) (told 𝓤 its)))))
