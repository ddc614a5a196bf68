-- `lasts`: a share of the activation's token is at hand, so it has not ended in what the pass has seen.
use Rattle.seize_book.proofs.CallKit.{[], ◌∷◌, refl, ‵, raw, ◌⊛◌, some, given, later, await, ◌$◌, !, move, keep, split, fsplit, pick, learn, use2, calls, told, unit2, No, pass, shown, along, pass_owns, Lft, Share, flft, named_lft}
use Rattle.seize_book.specs.Laws.{IsAmong, ended_lives}
use Rattle.seize_words.specs.contracts.lasting.Lasting as Lasting
use Rattle.seize_book.proofs.Looks.{lasts}
use base.Logic.{apply∗, wand}
use contract.Shared.{Lends-one}
use Rattle.seize_words.specs.contracts.lasting.Lasting.lasts.{ended, clauses}
use Rattle.seize_words.specs.contracts.lasting.Lasting.lasts.Key.{name as #self}
use Rattle.seize_words.proofs.lasting.Lasting.lasts.Statement.{statement}
use Rattle.seize_words.proofs.lasting.Lasting.lasts.Code as code

pub lasts_spec : {M : Type 1} → statement M
lasts_spec 𝓤 𝓛 𝓜 𝓡 wired =
    calls 𝓛 ended (along 𝓛 1 tt (shown 𝓛 0 tt (λ κs. Lasting.the_row (named_lft 4 1 tt κs)) (λ κs. Lasting.the_lent κs.1.0) (λ κs x. refl)), (pass 𝓛 2 tt 3 tt, tt)) (clauses 𝓛 𝓜.mem 𝓡.returns) _ (λ κs. No 𝓛) 𝓜 𝓡 #self _ (code.unfolded 𝓤 𝓛.H 𝓜 𝓡 wired) (λ κs qs. refl) (λ κs a are. unit2 𝓛 (tt, tt) (tt, tt)) (λ κs qs a are gh is end.
    let κ : Lft = κs.1.0 in let q : Share = qs.1.0 in let p = a.1.0.now in let β : Lft = a.0.now.life ∷ [] in fsplit ! $
    -- [that the activation lasts; what was seen; the two tokens; the pass]
    move ! (0 ∷ 3 ∷ []) $ use2 𝓛 (later (some (λ (r : Share). ‵ (flft β r) ⊛ raw (wand 𝓤 (𝓛.A.lft β r) (𝓛.H.⇛ (𝓛.A.lft κ q)))))) (Lends-one 𝓛 𝓜 𝓡 κ β q) $ await ! tt $ pick ! (λ r. split ! $ move ! (4 ∷ 0 ∷ []) $
    use2 𝓛 (later (given (¬ (IsAmong (ended_lives p.seen) a.0.now.life)) (‵ (pass_owns p.name p.id p.seen) ⊛ ‵ (flft β r)))) (lasts 𝓛 p.name p.id p.seen a.0.now.life r) $ await ! tt $ learn ! (λ alive. split ! $
    move ! (1 ∷ 2 ∷ []) $ use2 𝓛 (later (‵ (flft κ q))) (apply∗ 𝓤 (𝓛.A.lft β r) (𝓛.H.⇛ (𝓛.A.lft κ q))) $ await ! tt $ keep ! (3 ∷ 0 ∷ 1 ∷ []) $
    end tt (tt, (p.seen, tt)) (told 𝓤 (refl, alive)))))
