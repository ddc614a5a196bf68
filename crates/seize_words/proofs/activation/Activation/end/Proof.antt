-- `end` ends a lifetime, of which all units are there, and makes another one.
use Rattle.seize_book.proofs.CallKit.{ℕ, ◌≡◌, [], ◌∷◌, refl, ‵, ◌⊛◌, some, later, await, heard, ◌$◌, !, move, split, pick, rewrite, use1, calls, told, token1, Only, held}
use Rattle.seize_book.specs.Tokens.{over}
use Rattle.seize_words.specs.contracts.activation.Ended as Ended
use Rattle.seize_words.specs.contracts.activation.Activation as Activation
use Rattle.seize_words.specs.Units.{all_units, has_units}
use Rattle.seize_words.proofs.Activations.{renews}
use Rattle.seize_words.specs.contracts.activation.Activation.end.{ended, clauses}
use Rattle.seize_words.specs.contracts.activation.Activation.end.Key.{name as #self}
use Rattle.seize_words.proofs.activation.Activation.end.Statement.{statement}
use Rattle.seize_words.proofs.activation.Activation.end.Code as code

pub end_spec : {M : Type 1} → statement M
end_spec 𝓤 𝓛 𝓜 𝓡 wired =
    calls 𝓛 ended (held 𝓛 0 tt (λ κs. Activation.the_row) (λ κs. Activation.the_heap) (λ κs x vs. refl), tt) (clauses 𝓛 𝓜.mem 𝓡.returns) _ (λ κs. Only 𝓛 Ended.the_row Ended.the_heap (λ r. refl)) 𝓜 𝓡 #self _ (code.unfolded 𝓤 𝓛.H 𝓜 𝓡 wired) (λ κs qs. refl) (λ κs a are. token1 𝓛 (tt, (tt, tt)) (tt, tt) (tt, tt)) (λ κs qs a are gh is end.
    let b = a.0.now in move ! (1 ∷ []) $ heard ! (b.units ≡ all_units) (λ asked. rewrite ! 0 (λ (k : ℕ). ‵ (has_units b.life k)) asked refl $
    use1 𝓛 (later (some (λ (life : ℕ). ‵ (has_units life all_units) ⊛ ‵ (over (b.life ∷ []))))) (renews 𝓛 b.life) $ await ! tt $ pick ! (λ life. split ! $
    end (record { marker = record {}; lives = b.life ∷ []; next = life }) (record b { life = life; units = all_units }, tt) (told 𝓤 (refl, refl, refl, refl, refl)))))
