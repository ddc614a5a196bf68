-- `split_many` gives units out.
use Rattle.seize_book.proofs.CallKit.{ℕ, ◌≡◌, [], ◌∷◌, refl, sym, ‵, ◌⊛◌, heard, ◌$◌, !, move, split, rewrite, use1, calls, told, token2, Only, held, number}
use Rattle.std.proofs.Common.{◌+◌, ◌-◌, ◌<◌, arith}
use Rattle.seize_words.specs.Units.{has_units}
use Rattle.seize_words.specs.contracts.activation.Activation as Activation
use Rattle.seize_words.proofs.Units.{cuts}
use Rattle.seize_words.specs.contracts.activation.Activation.split_many.{ended, clauses}
use Rattle.seize_words.specs.contracts.activation.Activation.split_many.Key.{name as #self}
use Rattle.seize_words.proofs.activation.Activation.split_many.Statement.{statement}
use Rattle.seize_words.proofs.activation.Activation.split_many.Code as code

pub split_many_spec : {M : Type 1} → statement M
split_many_spec 𝓤 𝓛 𝓜 𝓡 wired =
    calls 𝓛 ended (held 𝓛 0 tt (λ κs. Activation.the_row) (λ κs. Activation.the_heap) (λ κs x vs. refl), (number 𝓛, tt)) (clauses 𝓛 𝓜.mem 𝓡.returns) _ (λ κs. Only 𝓛 Activation.the_row Activation.the_heap (λ r. refl)) 𝓜 𝓡 #self _ (code.unfolded 𝓤 𝓛.H 𝓜 𝓡 wired) (λ κs qs. refl) (λ κs a are. token2 𝓛 (tt, (tt, tt)) (tt, tt) (tt, tt) (tt, record { fits = are.1.0.1 })) (λ κs qs a are gh is end.
    let b = a.0.now in let count : ℕ = a.1.0 in let n : ℕ = b.units - count in move ! (1 ∷ []) $ heard ! ((0 < count) × (count < b.units)) (λ asked.
    let least : 0 < count = asked.0 in let less : count < b.units = asked.1 in let more : b.units ≡ n + count = omega (arith, less) in rewrite ! 0 (λ (k : ℕ). ‵ (has_units b.life k)) more refl $
    use1 𝓛 (‵ (has_units b.life n) ⊛ ‵ (has_units b.life count)) (cuts 𝓛 b.life n count (omega (arith, less)) least) $ split ! $
    end (record b { units = count }) (record b { units = n }, (tt, tt)) (told 𝓤 (refl, refl, sym more))))
