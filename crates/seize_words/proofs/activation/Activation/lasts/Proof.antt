-- `lasts` tells what is known: the lifetimes that have ended are over, and a share of this one's token is at hand.
use Rattle.seize_book.proofs.CallKit.{[], ◌∷◌, ◌++◌, refl, ‵, raw, ◌⊛◌, some, given, later, await, ◌$◌, !, move, keep, split, pick, learn, use0, use2, calls, told, unit2, No, pass, shown, pass_owns, Lft, Share, flft}
use base.Before.{before}
use contract.BorrowLft.{meet_⊑_left}
use types.Na.{before-Incl, before_lent}
use Rattle.seize_book.specs.Laws.{IsAmong, ended_lives}
use Rattle.seize_words.specs.contracts.activation.Activation as Activation
use Rattle.seize_book.proofs.Looks.{lasts}
use base.Logic.{apply∗, wand}
use contract.Shared.{Lends-one}
use Rattle.seize_words.specs.contracts.activation.Activation.lasts.{ended, clauses}
use Rattle.seize_words.specs.contracts.activation.Activation.lasts.Key.{name as #self}
use Rattle.seize_words.proofs.activation.Activation.lasts.Statement.{statement}
use Rattle.seize_words.proofs.activation.Activation.lasts.Code as code

pub lasts_spec : {M : Type 1} → statement M
lasts_spec 𝓤 𝓛 𝓜 𝓡 wired =
    calls 𝓛 ended (shown 𝓛 0 tt (λ κs. Activation.the_row) (λ κs. Activation.the_lent) (λ κs x. refl), (pass 𝓛 1 tt 2 tt, tt)) (clauses 𝓛 𝓜.mem 𝓡.returns) _ (λ κs. No 𝓛) 𝓜 𝓡 #self _ (code.unfolded 𝓤 𝓛.H 𝓜 𝓡 wired) (λ κs qs. refl) (λ κs a are. unit2 𝓛 (tt, tt) (tt, tt)) (λ κs qs a are gh is end.
    let κ : Lft = κs.0 in let q : Share = qs.0 in let p = a.1.0.now in let β : Lft = a.0.now.life ∷ [] in
    use0 𝓛 (‵ (before (β ++ κ) β)) (before-Incl 𝓛 (β ++ κ) β (meet_⊑_left β κ)) $ move ! (1 ∷ 0 ∷ []) $ use2 𝓛 (‵ (before κ β)) (before_lent 𝓛 κ β β) $
    use2 𝓛 (later (some (λ (r : Share). ‵ (flft β r) ⊛ raw (wand 𝓤 (𝓛.A.lft β r) (𝓛.H.⇛ (𝓛.A.lft κ q)))))) (Lends-one 𝓛 𝓜 𝓡 κ β q) $ await ! tt $ pick ! (λ r. split ! $ move ! (0 ∷ 2 ∷ []) $
    -- [the token of the activation; the pass; the way back]
    move ! (1 ∷ 0 ∷ []) $ use2 𝓛 (later (given (¬ (IsAmong (ended_lives p.seen) a.0.now.life)) (‵ (pass_owns p.name p.id p.seen) ⊛ ‵ (flft β r)))) (lasts 𝓛 p.name p.id p.seen a.0.now.life r) $ await ! tt $ learn ! (λ alive. split ! $
    move ! (1 ∷ 2 ∷ []) $ use2 𝓛 (later (‵ (flft κ q))) (apply∗ 𝓤 (𝓛.A.lft β r) (𝓛.H.⇛ (𝓛.A.lft κ q))) $ await ! tt $ keep ! (0 ∷ 1 ∷ []) $
    end tt (tt, (p.seen, tt)) (told 𝓤 (refl, alive)))))
