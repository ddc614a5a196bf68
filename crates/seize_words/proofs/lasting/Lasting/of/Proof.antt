-- `of`: a share of the activation's token is lent for as long as the activation is, and what a pass has seen is known for good.
use Rattle.seize_book.proofs.CallKit.{[], ◌∷◌, ◌++◌, refl, ‵, ◌⊛◌, ◌$◌, !, move, keep, split, fjoin, use0, use1, use2, calls, told, token2, Of, pass, shown, unit, ShrRef, book_owns, pass_owns, marked_made, named, named_lft, Lft}
use base.Before.{before}
use contract.BorrowLft.{meet_⊑_left}
use types.Na.{before-Incl, before_lent}
use Rattle.seize_words.specs.contracts.activation.Activation as Activation
use Rattle.seize_words.specs.contracts.lasting.Lasting as Lasting
use Rattle.seize_words.proofs.Lasted.{pass_known}
use Rattle.seize_words.specs.contracts.lasting.Lasting.of.{ended, clauses}
use Rattle.seize_words.specs.contracts.lasting.Lasting.of.Key.{name as #self}
use Rattle.seize_words.proofs.lasting.Lasting.of.Statement.{statement}
use Rattle.seize_words.proofs.lasting.Lasting.of.Code as code

pub of_spec : {M : Type 1} → statement M
of_spec 𝓤 𝓛 𝓜 𝓡 wired =
    calls 𝓛 ended (shown 𝓛 0 tt (λ κs. Activation.the_row) (λ κs. Activation.the_lent) (λ κs x. refl), (pass 𝓛 1 tt 2 tt, tt)) (clauses 𝓛 𝓜.mem 𝓡.returns) _ (λ κs. Of 𝓛 (Lasting.the_row (named_lft 3 0 tt κs)) (marked_made (ShrRef (named 0) κs.0 unit) 𝓛) (Lasting.the_heap κs.0) (λ r. refl)) 𝓜 𝓡 #self _ (code.unfolded 𝓤 𝓛.H 𝓜 𝓡 wired) (λ κs qs. refl) (λ κs a are. token2 𝓛 (tt, (tt, tt)) (tt, tt) (tt, tt) (tt, tt)) (λ κs qs a are gh is end.
    let κ : Lft = κs.0 in let p = a.1.0.now in let β : Lft = a.0.now.life ∷ [] in
    use0 𝓛 (‵ (before (β ++ κ) β)) (before-Incl 𝓛 (β ++ κ) β (meet_⊑_left β κ)) $ move ! (1 ∷ 0 ∷ []) $ use2 𝓛 (‵ (before κ β)) (before_lent 𝓛 κ β β) $
    -- [that the activation lasts; the token; the pass]
    move ! (2 ∷ []) $ use1 𝓛 (‵ (pass_owns p.name p.id p.seen) ⊛ ‵ (book_owns p.name p.seen)) (pass_known 𝓛 κ p.name a.0.now.life p.seen p.id) $ split ! $ move ! (2 ∷ 1 ∷ []) $ fjoin ! $ keep ! (2 ∷ 1 ∷ 0 ∷ []) $
    end (record { marker = record {}; name = p.name; life = a.0.now.life; seen = p.seen }) (tt, (p.seen, tt)) (told 𝓤 (refl, (refl, refl, refl))))
