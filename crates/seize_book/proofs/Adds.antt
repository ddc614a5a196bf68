-- An event that no step of the code makes, by the holder of a pass and of some keys. Assumes `Logic`.
use Rattle.std.proofs.Common.{◌≡◌, ℕ, ◌≤◌, List, [], ◌∷◌, ◌++◌, refl, sym, subst}
use seplogic.Ra.Ura.{Ura}
use base.Logic.{SProp, ent, sep, ex, guard, guard_i}
use base.Fml.{Fml, ftrue}
use types.Logic.{Logic, sem}
use types.Kit.{‵, ◌⊛◌, some, given, later, ◌$◌, ◌∵◌, !, qed, move, keep, split3, join, pick, learn, show, check, use2, updating, await, now, done, rewrite}
use denote.Steps.{nothing}
use Rattle.seize_book.specs.Ledger.{HeldKey, with_list, keys_made}
use Rattle.seize_book.specs.Entry.{Entry, Made, Deed}
use Rattle.seize_book.specs.Book.{after, births}
use Rattle.seize_book.specs.Fair.{Before, MayAdd, AddsEntryWith}
use Rattle.seize_book.specs.Pairs.{MakesNoPair, Pair, all_covered, pairs_by}
use Rattle.seize_book.specs.Tokens.{Name, start, adder_owns, keys_own, pass_owns}
use Rattle.seize_book.proofs.Lives.{stays}
use Rattle.seize_book.proofs.Passes.{keys_after, Made as MadeBy}
use Rattle.seize_book.proofs.Notes.{notes}

module _ {M : Type 1} {𝓤 : Ura M} (𝓛 : Logic 𝓤) (n : Name) (p : ℕ) (seen : List Entry) (held : List (HeldKey Entry)) (e : Deed) where
  open 𝓛 use {H}

  abbrev Pr : Type 2
  Pr = SProp 𝓤

  abbrev ◌⊢◌ : Pr → Pr → Type 1
  P ⊢ Q = ent 𝓤 P Q

  abbrev ◌∗◌ : Pr → Pr → Pr
  P ∗ Q = sep 𝓤 P Q

  abbrev ⟦◌⟧ : Fml → Pr
  ⟦ P ⟧ = sem 𝓛 P

  infix 26 ◌⊢◌
  infixr 35 ◌∗◌
  abbrev ev : List Entry → Entry
  ev log = Made e

  abbrev told : List Entry → Type 0
  told log = Unit {0}

  -- the keys afterwards, where the list was `log` just before
  abbrev then_held : List Entry → List Entry → List (HeldKey Entry)
  then_held log seen' = with_list held seen' ++ keys_made (births (after (start n) log) e.event) seen'

  abbrev pub AddedNow : List Entry × List (HeldKey Entry) → Pr
  AddedNow t = guard 𝓤 (AddsEntryWith n p seen t.0 held t.1 e) (⟦ pass_owns n p t.0 ⟧ ∗ ⟦ keys_own n t.1 ⟧)

  -- it makes no pair
  no_pairs : MakesNoPair e.event → (log : List Entry) → ⟦ ftrue ⟧ ⊢ ⟦ all_covered n.pairs (pairs_by (after (start n) log) (Made e)) ⟧ ∗ ⟦ ftrue ⟧
  no_pairs none log = qed 𝓛 (‵ ftrue ∷ []) ∵ nothing ! $ rewrite ! 0 (λ (ts : List Pair). ‵ (all_covered n.pairs ts)) (sym (none (after (start n) log) e.pass)) refl $ done !

  pub adds : (size : ℕ) → e.pass ≡ p → e.size ≤ size → MayAdd n p seen held e → ⟦ adder_owns n p size seen ⟧ ∗ ⟦ keys_own n held ⟧ ⊢ H.⇛ (ex 𝓤 AddedNow)
  adds size is within may = qed 𝓛 (‵ (adder_owns n p size seen) ∷ ‵ (keys_own n held) ∷ []) ∵ updating ! $ nothing ! $ move ! (2 ∷ 0 ∷ []) $ join ! $ move ! (1 ∷ 0 ∷ []) $
      use2 𝓛 (later (some (λ (log : List Entry). given (MadeBy 𝓛 n p seen held ev told log) (‵ (pass_owns n p (log ++ Made e ∷ [])) ⊛ ‵ (keys_after 𝓛 n held ev log) ⊛ ‵ ftrue))))
      (notes 𝓛 n p size seen held ev told ⟦ ftrue ⟧ (λ _. ⟦ ftrue ⟧) may.0 (λ own log before _. (may.3 own log before, is, within)) (λ log before _. no_pairs may.2.1 log) (λ log before. guard_i 𝓤 (Unit {0}) _ tt) (λ log before _. stays 𝓛 log (Made e) ⟦ ftrue ⟧ may.1)) $ await ! tt $
      pick ! (λ log. learn ! (λ made. split3 ! $
      -- [the pass; the keys; nothing]
      now ! $ show ! AddedNow (log ++ Made e ∷ [], then_held log (log ++ Made e ∷ [])) $
      check ! (record { noted = made.0; before = subst (Before n p seen held) (sym made.1) made.2; keys = subst (λ (l : List Entry). then_held log (log ++ Made e ∷ []) ≡ then_held l (log ++ Made e ∷ [])) (sym made.1) refl }) $ keep ! (0 ∷ 1 ∷ []) $ done !))
