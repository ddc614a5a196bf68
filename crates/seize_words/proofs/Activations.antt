-- Activations: a slot is active while its activation has not ended; and lifetimes are made, ended and lent. Assumes `Logic`.
use Rattle.std.proofs.Common.{◌≡◌, ℕ, zero, Bool, true, false, if◌then◌else◌, List, [], ◌∷◌, ◌++◌, refl, ◌∙◌, ap, subst, ◌⊎◌, inl, inr, ⊎_elim}
use seplogic.Ra.Ura.{Ura}
use base.Fraction.{full_share}
use base.Logic.{SProp, ent, sep, ex}
use base.Fml.{Fml, ftrue, flft}
use types.Logic.{Logic, sem}
use types.Kit.{‵, ◌$◌, ◌∵◌, !, qed, move, keep, fjoin, show, use1, updating, now, done}
use types.Tokens.{lft_end, lft_new}
use denote.Steps.{nothing}
use Rattle.seize_machine.specs.Machine.State.{State, head_at, is_active}
use Rattle.seize_machine.specs.Machine.History.{done_by, is_swap_out}
use Rattle.seize_machine.specs.declared.machine.event.Answer.{Answer}
use Rattle.seize_machine.specs.Machine.Next.{next}
use Rattle.seize_machine.proofs.Facts.{step_of, is_true, and_true}
use Rattle.seize_book.specs.Book.{after, IsLegalList}
use Rattle.seize_book.specs.Entry.{Entry, Made, Used, deeds, timed_deed}
use Rattle.seize_book.specs.Laws.{life_from, life, lives_after, ended_by, ended_from, ended_lives, none_alive, IsAmong}
use Rattle.seize_book.specs.Tokens.{over}
use Rattle.seize_words.specs.Units.{all_units, has_units}
use Rattle.seize_words.proofs.Units.{units, whole}
use Rattle.seize_book.proofs.Lives.{legal_first, active_on, in_right, is_ended}

-- an active slot is active still, in the same activation, or that ended

IsStill : ℕ → (ℕ → ℕ) → List Entry → State → List ℕ → Type 0
IsStill s lives log now over = ((is_active (head_at now s) ≡ true) × (life_from (lives s) s (deeds log) ≡ lives s)) ⊎ IsAmong over (lives s)

still_first : (st : State) (lives : ℕ → ℕ) (log : List Entry) (s : ℕ) → IsLegalList st log → is_active (head_at st s) ≡ true → IsStill s lives log (after st log) (ended_from lives (deeds log))
unfolding IsStill
still_first st lives [] s l a = inl (a, refl)
still_first st lives (Used u ∷ log) s l a = still_first st lives log s l a
still_first st lives (Made x ∷ log) s l a = go (is_true (is_swap_out s x.event)) (λ lives' a'. still_first (done_by next st (timed_deed x)).0 lives' log s (and_true _ _ l).1 a')
  where
    later_on : State
    later_on = (done_by next st (timed_deed x)).0

    go : (is_swap_out s x.event ≡ true) ⊎ (is_swap_out s x.event ≡ false)
        → ((lives : ℕ → ℕ) → is_active (head_at later_on s) ≡ true → IsStill s lives log (after later_on log) (ended_from lives (deeds log)))
        → IsStill s lives (Made x ∷ log) (after later_on log) (ended_from lives (x ∷ deeds log))
    go (inl y) ih = inr (is_ended lives (x ∷ deeds log) s zero x refl y)
    go (inr n) ih =
        let w = legal_first st x log l in let on = active_on s x.size st x.event w.0 (step_of _ _ _ _ w.1) a n in
        let same : lives_after lives x s ≡ lives s = ap (λ (b : Bool). if b then x.life else lives s) on.1 in
        ⊎_elim (λ k. inl (k.0, k.1 ∙ same)) (λ k. inr (in_right (ended_by lives x.event) _ (lives s) (subst (IsAmong (ended_from (lives_after lives x) (deeds log))) same k)))
        (ih (lives_after lives x) (ap (λ (d : State × Answer). is_active (head_at d.0 s)) w.2 ∙ on.0))

still_from : (st : State) (lives : ℕ → ℕ) (own more : List Entry) (s : ℕ) → IsLegalList st (own ++ more) → is_active (head_at (after st own) s) ≡ true
    → ((is_active (head_at (after st (own ++ more)) s) ≡ true) × (life_from (lives s) s (deeds (own ++ more)) ≡ life_from (lives s) s (deeds own)))
    ⊎ IsAmong (ended_from lives (deeds (own ++ more))) (life_from (lives s) s (deeds own))
unfolding IsStill
still_from st lives [] more s l a = still_first st lives more s l a
still_from st lives (Used u ∷ own) more s l a = still_from st lives own more s l a
still_from st lives (Made x ∷ own) more s l a =
    ⊎_elim (λ k. inl k) (λ k. inr (in_right (ended_by lives x.event) _ _ k)) (still_from (done_by next st (timed_deed x)).0 (lives_after lives x) own more s (and_true _ _ l).1 a)

pub still : (st : State) (own more : List Entry) (s : ℕ) → IsLegalList st (own ++ more) → is_active (head_at (after st own) s) ≡ true
    → ((is_active (head_at (after st (own ++ more)) s) ≡ true) × (life s (own ++ more) ≡ life s own)) ⊎ IsAmong (ended_lives (own ++ more)) (life s own)
still st own more s l a = still_from st none_alive own more s l a

module _ {M : Type 1} {𝓤 : Ura M} (𝓛 : Logic 𝓤) where
  open 𝓛 use {H}

  abbrev Pr : Type 2
  Pr = SProp 𝓤

  abbrev ◌⊢◌ : Pr → Pr → Type 1
  P ⊢ Q = ent 𝓤 P Q

  abbrev ◌∗◌ : Pr → Pr → Pr
  P ∗ Q = sep 𝓤 P Q

  abbrev ⟦◌⟧ : Fml → Pr
  ⟦ P ⟧ = sem 𝓛 P

  infix 26 ◌⊢◌
  infixr 35 ◌∗◌
  abbrev all_of : ℕ → Fml
  all_of a = has_units a all_units

  abbrev pub Alive : ℕ → Pr
  Alive a = ⟦ all_of a ⟧

  pub begins : ⟦ ftrue ⟧ ⊢ H.⇛ (ex 𝓤 Alive)
  begins = qed 𝓛 (‵ ftrue ∷ []) ∵ updating ! $ lft_new ! tt (λ a. use1 𝓛 (‵ (all_of a)) (units 𝓛 a) $ now ! $ show ! Alive a $ keep ! (0 ∷ []) $ done !)

  abbrev pub After : ℕ → ℕ → Pr
  After a b = ⟦ all_of b ⟧ ∗ ⟦ over (a ∷ []) ⟧

  pub renews : (a : ℕ) → ⟦ all_of a ⟧ ⊢ H.⇛ (ex 𝓤 (After a))
  renews a = qed 𝓛 (‵ (all_of a) ∷ []) ∵ updating ! $ use1 𝓛 (‵ (flft (a ∷ []) full_share)) (whole 𝓛 a) $ lft_end ! tt $ nothing ! $ move ! (1 ∷ 0 ∷ []) $ fjoin ! $
      lft_new ! tt (λ b. use1 𝓛 (‵ (all_of b)) (units 𝓛 b) $ now ! $ show ! (After a) b $ keep ! (0 ∷ 1 ∷ []) $ done !)
