-- `begin` tells what is known.
use Rattle.seize_book.proofs.CallKit.{[], ◌∷◌, refl, ◌$◌, !, keep, calls, told, unit2, No, held, keys}
use Rattle.seize_book.specs.Private.{own_of}
use Rattle.seize_words.specs.contracts.activation.Activation as Activation
use Rattle.seize_words.specs.contracts.activation.Activation.begin.{ended, clauses}
use Rattle.seize_words.specs.contracts.activation.Activation.begin.Key.{name as #self}
use Rattle.seize_words.proofs.activation.Activation.begin.Statement.{statement}
use Rattle.seize_words.proofs.activation.Activation.begin.Code as code

pub begin_spec : {M : Type 1} → statement M
begin_spec 𝓤 𝓛 𝓜 𝓡 wired =
    calls 𝓛 ended (held 𝓛 0 tt (λ κs. Activation.the_row) (λ κs. Activation.the_heap) (λ κs x vs. refl), (keys 𝓛 1 tt, tt)) (clauses 𝓛 𝓜.mem 𝓡.returns) _ (λ κs. No 𝓛) 𝓜 𝓡 #self _ (code.unfolded 𝓤 𝓛.H 𝓜 𝓡 wired) (λ κs qs. refl) (λ κs a are. unit2 𝓛 (tt, tt) (tt, tt)) (λ κs qs a are gh is end.
    let p = a.0.now in let r = a.1.0.now in keep ! (0 ∷ 1 ∷ []) $
    end tt (record p { since = own_of r.held }, (r, tt)) (told 𝓤 ((refl, refl, refl, refl, refl), refl)))
