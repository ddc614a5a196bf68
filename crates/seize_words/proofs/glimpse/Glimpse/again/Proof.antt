-- `again` has what a glimpse has twice.
use Rattle.seize_book.proofs.CallKit.{[], ◌∷◌, refl, ‵, ◌⊛◌, ◌$◌, !, keep, split, use1, calls, told, token1, Of, held, beside, unit, ShrRef, marked_made, named, named_lft, Lft}
use Rattle.seize_words.specs.Glimpses.{glimpse}
use Rattle.seize_words.specs.contracts.glimpse.Glimpse as Glimpse
use Rattle.seize_words.proofs.Glimpses.{glimpse_twice}
use Rattle.seize_words.specs.contracts.glimpse.Glimpse.again.{ended, clauses}
use Rattle.seize_words.specs.contracts.glimpse.Glimpse.again.Key.{name as #self}
use Rattle.seize_words.proofs.glimpse.Glimpse.again.Statement.{statement}
use Rattle.seize_words.proofs.glimpse.Glimpse.again.Code as code

pub again_spec : {M : Type 1} → statement M
again_spec 𝓤 𝓛 𝓜 𝓡 wired =
    calls 𝓛 ended (beside 𝓛 1 tt (held 𝓛 0 tt (λ κs. Glimpse.the_row (named_lft 2 1 tt κs)) (λ κs. Glimpse.the_heap κs.1.0) (λ κs x vs. refl)), tt) (clauses 𝓛 𝓜.mem 𝓡.returns) _ (λ κs. Of 𝓛 (Glimpse.the_row (named_lft 2 1 tt κs)) (marked_made (ShrRef (named 1) κs.1.0 unit) 𝓛) (Glimpse.the_heap κs.1.0) (λ r. refl)) 𝓜 𝓡 #self _ (code.unfolded 𝓤 𝓛.H 𝓜 𝓡 wired) (λ κs qs. refl) (λ κs a are. token1 𝓛 (tt, (tt, tt)) (tt, tt) (tt, tt)) (λ κs qs a are gh is end.
    let κ : Lft = κs.1.0 in let b = a.0.now in keep ! (0 ∷ []) $ use1 𝓛 (‵ (glimpse κ b.value) ⊛ ‵ (glimpse κ b.value)) (glimpse_twice 𝓛 κ b.value) $ split ! $
    end (record { marker = record {}; value = b.value }) (b, tt) (told 𝓤 (refl, refl)))
