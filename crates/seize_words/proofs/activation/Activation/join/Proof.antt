-- `join` takes units back.
use Rattle.seize_book.proofs.Kit.{vstruct, ◌∙◌, ◌++◌}
use Rattle.seize_book.proofs.Fields.{no_bytes}
use Rattle.seize_book.proofs.CallKit.{ℕ, ◌≡◌, [], ◌∷◌, refl, ‵, raw, ◌⊛◌, heard, ◌$◌, !, move, split, rewrite, use1, use2, yes, calls, told, unit2, No, held, taken, id⊢, fact}
use Rattle.std.specs.Prelude.{◌+◌, ◌≤◌}
use denote.Laws.{Is, Tells}
use mir.Val.{of_list}
use Rattle.seize_words.specs.Units.{all_units, has_units}
use Rattle.seize_words.specs.contracts.activation.Activation as Activation
use Rattle.seize_words.proofs.Units.{glues}
use Rattle.seize_words.specs.contracts.activation.Activation.join.{ended, clauses}
use Rattle.seize_words.specs.contracts.activation.Activation.join.Key.{name as #self}
use Rattle.seize_words.proofs.activation.Activation.join.Statement.{statement}
use Rattle.seize_words.proofs.activation.Activation.join.Code as code

activation_tells : Tells Activation.the_row (Is Activation.the_row) no_bytes
activation_tells d vs is = is.0.1.0 ∙ (λ i. vstruct (of_list (is.0.1.1.0.1.0 i ++ [])) ∷ [])

pub join_spec : {M : Type 1} → statement M
join_spec 𝓤 𝓛 𝓜 𝓡 wired =
    calls 𝓛 ended (held 𝓛 0 tt (λ κs. Activation.the_row) (λ κs. Activation.the_heap) (λ κs x vs. refl), (taken 𝓛 yes (λ κs. Activation.the_row) (λ κs. Activation.the_heap) (λ κs x. refl) (λ κs. activation_tells) (λ κs x f. refl) (λ κs x. tt), tt)) (clauses 𝓛 𝓜.mem 𝓡.returns) _ (λ κs. No 𝓛) 𝓜 𝓡 #self _ (code.unfolded 𝓤 𝓛.H 𝓜 𝓡 wired) (λ κs qs. refl) (λ κs a are. unit2 𝓛 (tt, tt) (tt, (tt, tt))) (λ κs qs a are gh is end.
    let b = a.0.now in let u = a.1.0 in let Same : Type 0 = u.life ≡ b.life in let Fits : Type 0 = b.units + u.units ≤ all_units in
    move ! (2 ∷ []) $ use1 𝓛 (raw (fact 𝓤 Same) ⊛ raw (fact 𝓤 Fits)) (id⊢ 𝓤 _) $ split ! $ heard ! Same (λ same. heard ! Fits (λ fits.
    move ! (1 ∷ []) $ rewrite ! 0 (λ (life : ℕ). ‵ (has_units life u.units)) same refl $ move ! (1 ∷ 0 ∷ []) $
    use2 𝓛 (‵ (has_units b.life (b.units + u.units))) (glues 𝓛 b.life b.units u.units fits) $
    end tt (record b { units = b.units + u.units }, (tt, tt)) (told 𝓤 refl))))
