-- `of` makes a lifetime, and has all its units.
use Rattle.seize_book.proofs.CallKit.{ℕ, [], ◌∷◌, refl, ‵, some, later, await, ◌$◌, !, move, keep, pick, use0, calls, told, token1, Only, shown}
use Rattle.seize_book.specs.Private.{key_of}
use Rattle.seize_book.specs.contracts.book.keys.Keys as Keys
use Rattle.seize_words.specs.Units.{all_units, has_units}
use Rattle.seize_words.proofs.Activations.{begins}
use Rattle.seize_words.specs.contracts.activation.Activation as Activation
use Rattle.seize_words.specs.contracts.activation.Activation.of.{ended, clauses}
use Rattle.seize_words.specs.contracts.activation.Activation.of.Key.{name as #self}
use Rattle.seize_words.proofs.activation.Activation.of.Statement.{statement}
use Rattle.seize_words.proofs.activation.Activation.of.Code as code

pub of_spec : {M : Type 1} → statement M
of_spec 𝓤 𝓛 𝓜 𝓡 wired =
    calls 𝓛 ended (shown 𝓛 0 tt (λ κs. Keys.the_row) (λ κs. Keys.the_lent) (λ κs x. refl), tt) (clauses 𝓛 𝓜.mem 𝓡.returns) _ (λ κs. Only 𝓛 Activation.the_row Activation.the_heap (λ r. refl)) 𝓜 𝓡 #self _ (code.unfolded 𝓤 𝓛.H 𝓜 𝓡 wired) (λ κs qs. refl) (λ κs a are. token1 𝓛 (tt, (tt, tt)) (tt, tt) (tt, tt)) (λ κs qs a are gh is end.
    let b = a.0.now in keep ! (1 ∷ []) $ use0 𝓛 (later (some (λ (life : ℕ). ‵ (has_units life all_units)))) (begins 𝓛) $ await ! tt $ pick ! (λ life. move ! (1 ∷ 0 ∷ []) $
    end (record { marker = record {}; name = b.name; slot = key_of b.held; life = life; since = []; units = all_units }) (tt, tt) (told 𝓤 (refl, refl, refl))))
