-- What a pass has seen is within a size that the book had; a part of the right to set the size tells that this is within the greatest.
use Rattle.seize_book.proofs.CallKit.{ℕ, List, [], ◌∷◌, refl, sym, ‵, ◌⊛◌, given, later, await, heard, ◌$◌, !, move, drop, split, learn, rewrite, use1, use2, calls, told, unit2, No, pass, shown, Entry, Name, pass_owns}
use types.Tokens.{obor_close, shr_bor-open}
use Rattle.seize_book.specs.Bounds.{AllWithin, is_within, size_lent, size_part}
use Rattle.seize_book.specs.contracts.book.sizes.Sizes as Sizes
use Rattle.seize_book.proofs.Bounds.{within_most}
use Rattle.seize_book.proofs.Sizing.{bounds, parts}
use Rattle.seize_book.specs.contracts.book.sizes.Sizes.bound.{ended, clauses}
use Rattle.seize_book.specs.contracts.book.sizes.Sizes.bound.Key.{name as #self}
use Rattle.seize_book.proofs.book.sizes.Sizes.bound.Statement.{statement}
use Rattle.seize_book.proofs.book.sizes.Sizes.bound.Code as code

pub bound_spec : {M : Type 1} → statement M
bound_spec 𝓤 𝓛 𝓜 𝓡 wired =
    calls 𝓛 ended (shown 𝓛 0 tt (λ κs. Sizes.the_row) (λ κs. Sizes.the_lent) (λ κs x. refl), (pass 𝓛 1 tt 2 tt, tt)) (clauses 𝓛 𝓜.mem 𝓡.returns) _ (λ κs. No 𝓛) 𝓜 𝓡 #self _ (code.unfolded 𝓤 𝓛.H 𝓜 𝓡 wired) (λ κs qs. refl) (λ κs a are. unit2 𝓛 (tt, tt) (tt, tt)) (λ κs qs a are gh is end.
    let b = a.0.now in let p = a.1.0.now in let n : Name = p.name in let γ : ℕ = n.gate.sizes in let log : List Entry = p.seen in move ! (3 ∷ 2 ∷ []) $ heard ! _ (λ asked.
    use1 𝓛 (later (‵ (pass_owns n p.id log) ⊛ ‵ (is_within γ log))) (bounds 𝓛 n p.id log) $ await ! tt $ split ! $ move ! (2 ∷ []) $ rewrite ! 0 (λ (z : Name). ‵ (size_lent z.gate.sizes b.most κs.0)) (sym asked) refl $
    -- [the sizes; what the pass owns; that all are within; the sizes' token]
    move ! (0 ∷ 3 ∷ []) $ shr_bor-open ! tt (parts 𝓛 γ b.most) (λ s. move ! (1 ∷ 3 ∷ []) $
    use2 𝓛 (given (AllWithin b.most log) (‵ (size_part γ b.most s))) (within_most 𝓛 γ log b.most s) $ learn ! (λ all. move ! (1 ∷ 0 ∷ []) $ obor_close ! tt $ drop ! $
    end tt (tt, (log, tt)) (told 𝓤 (refl, all))))))
