-- A pass learns that all events are within the greatest size, and that is raised. Assumes `Logic`.
--     bounds         all events that a pass has seen are within a size that the book had
--     raises         the greatest size is raised
--     has_knows      what a porter knows of its book can be had beside it
--     parts          a part of the right to raise it has two halves
use Rattle.std.proofs.Common.{ℕ, max, Bool, true, false, List, [], ◌∷◌}
use seplogic.Ra.Ura.{Ura}
use base.Fml.{Fml, finv, ftrue}
use base.Growing.{numbers}
use base.Logic.{SProp, ent, sep, guard, upd, upd_i}
use base.Share
use ghost.Rules.{Halves}
use types.Growing.{at_least_dup, latest_cut, latest_glue}
use types.Kit.{‵, raw, ◌⊛◌, some, given, ◌$◌, ◌∵◌, !, qed, move, keep, join, split, split3, fsplit, fsplit3, fjoin, fjoin3, fpick, fpack, pick, learn, check, frame, assume, suffices, settle, done, use1, use2, use3}
use types.Logic.{Logic, sem}
use denote.Steps.{nothing}
use Rattle.seize_machine.specs.Machine.State.{State}
use Rattle.seize_book.specs.Book.{rules}
use Rattle.seize_book.specs.Bounds.{bounded, had_size, is_within, sets_size, size_part}
use Rattle.seize_book.specs.Entry.{Entry, entry_coded}
use Rattle.seize_book.specs.Fair.{pass_key}
use Rattle.seize_book.specs.Ledger.{Known, logs, reached, standing}
use Rattle.seize_book.specs.Shared.{lending, porter_has}
use Rattle.seize_book.specs.Tokens.{Name, beside, gate_gives, inside, knows, pass_holds, pass_owns, porter_owns, rights_own, rows, start}
use Rattle.seize_book.proofs.Bounds.{Raised, bound_raised, bound_tells}
use Rattle.seize_book.proofs.Append.{looks_beside}
use Rattle.seize_book.proofs.Looks.{Idle, apart, together}
use Rattle.seize_book.proofs.Notes.{knows_twice, opens}
use Rattle.seize_book.proofs.Porters.{porter_knows}

module _ {M : Type 1} {𝓤 : Ura M} (𝓛 : Logic 𝓤) (n : Name) where
  open 𝓛 use {H, A}

  abbrev Pr : Type 2
  Pr = SProp 𝓤

  abbrev ◌⊢◌ : Pr → Pr → Type 1
  P ⊢ Q = ent 𝓤 P Q

  abbrev ◌∗◌ : Pr → Pr → Pr
  P ∗ Q = sep 𝓤 P Q

  abbrev ⟦◌⟧ : Fml → Pr
  ⟦ P ⟧ = sem 𝓛 P

  infix 26 ◌⊢◌
  infixr 35 ◌∗◌
  abbrev γ : ℕ
  γ = n.gate.sizes

  abbrev J : Fml
  J = inside n

  abbrev st : State
  st = start n

  abbrev had : List Entry → Fml
  had log = reached entry_coded n.log log

  -- all events that a pass has seen are within a size that the book had
  pub bounds : (p : ℕ) (seen : List Entry) → ⟦ pass_owns n p seen ⟧ ⊢ H.⇛ (⟦ pass_owns n p seen ⟧ ∗ ⟦ is_within γ seen ⟧)
  bounds p seen = let Z : Pr = ⟦ pass_owns n p seen ⟧ ∗ ⟦ is_within γ seen ⟧ in qed 𝓛 ((‵ (knows n) ⊛ ‵ (pass_holds n p seen)) ∷ []) ∵ split ! $ use1 𝓛 (‵ (knows n) ⊛ ‵ (knows n)) (knows_twice 𝓛 n) $ split ! $
      use1 𝓛 (‵ (finv J)) (opens 𝓛 n) $ suffices ! _ (𝓛.invs.inv_acc J Z) $ frame ! $ assume ! (‵ J) $ move ! (2 ∷ []) $
      -- [the pass; J; the book]
      use1 𝓛 (some (λ (own : List Entry). given (Idle 𝓛 n p own seen) (‵ (rights_own n (pass_key p own ∷ [])) ⊛ ‵ (had seen) ⊛ ‵ (gate_gives n.gate p seen)))) (apart 𝓛 n p seen) $ pick ! (λ own. learn ! (λ past. split3 ! $ move ! (1 ∷ []) $
      use1 𝓛 (‵ (had seen) ⊛ ‵ (had seen)) (at_least_dup (logs entry_coded) 𝓛 n.log seen) $ split ! $
      -- [what it has seen, twice; its key; its copy; J; the book]
      move ! (2 ∷ 0 ∷ 3 ∷ []) $ use3 𝓛 (‵ (pass_holds n p seen)) (together 𝓛 n p seen own past) $ move ! (3 ∷ 0 ∷ []) $ fjoin ! $
      -- [the pass; what it has seen; J]
      nothing ! $ move ! (2 ∷ 0 ∷ []) $ join ! $ nothing ! $ move ! (3 ∷ 0 ∷ 1 ∷ []) $
      use3 𝓛 (some (λ (log : List Entry). given (Known (rules st) [] seen log × Unit {0}) (‵ J ⊛ ‵ ftrue ⊛ ‵ (had log) ⊛ ‵ (is_within γ seen))))
      (looks_beside entry_coded (rules st) (beside n) n.log (rows n) 𝓛 [] seen (λ _. Unit {0}) ⟦ ftrue ⟧ (λ _. ⟦ is_within γ seen ⟧) tt tells) $
      suffices ! _ (upd_i 𝓤 (⟦ J ⟧ ∗ Z)) $ pick ! (λ log. learn ! (λ known. split ! $ frame ! $ split3 ! $ keep ! (3 ∷ 2 ∷ []) $ done !))))
    where
      tells : (log : List Entry) → Known (rules st) [] seen log → ⟦ beside n log ⟧ ∗ ⟦ ftrue ⟧ ⊢ guard 𝓤 (Unit {0}) (⟦ beside n log ⟧ ∗ ⟦ is_within γ seen ⟧)
      tells log known = qed 𝓛 (‵ (beside n log) ∷ ‵ ftrue ∷ []) ∵ fsplit ! $ move ! (1 ∷ []) $ fsplit ! $ fsplit ! $
          -- [the bound; who may append; where all is found; what is past; nothing]
          use1 𝓛 (‵ (bounded γ log) ⊛ ‵ (is_within γ seen)) (bound_tells 𝓛 γ log seen known.1) $ split ! $ check ! tt $
          move ! (0 ∷ 2 ∷ []) $ fjoin ! $ move ! (0 ∷ 2 ∷ []) $ fjoin ! $ move ! (2 ∷ 0 ∷ []) $ fjoin ! $ keep ! (0 ∷ 1 ∷ []) $ done !

  pub raises : (k m : ℕ) → ⟦ knows n ⟧ ∗ ⟦ sets_size γ k ⟧ ⊢ H.⇛ (⟦ sets_size γ (max k m) ⟧ ∗ ⟦ had_size γ m ⟧)
  raises k m = let Z : Pr = ⟦ sets_size γ (max k m) ⟧ ∗ ⟦ had_size γ m ⟧ in qed 𝓛 (‵ (knows n) ∷ ‵ (sets_size γ k) ∷ []) ∵
      use1 𝓛 (‵ (finv J)) (opens 𝓛 n) $ suffices ! _ (𝓛.invs.inv_acc J Z) $ frame ! $ assume ! (‵ J) $
      fpick ! (λ s. let log : List Entry = s.1 in fsplit3 ! $ move ! (2 ∷ []) $ fsplit ! $ fsplit ! $ move ! (1 ∷ []) $ fsplit ! $ fsplit ! $
      -- [the bound; who may append; where all is found; what is past; that it is so; the rosters; the list; the right]
      move ! (0 ∷ 7 ∷ []) $ use2 𝓛 (raw (upd 𝓤 (Raised 𝓛 γ k m log))) (bound_raised 𝓛 γ k m log) $
      settle 𝓛 (⟦ J ⟧ ∗ Z) (‵ (bounded γ log) ⊛ ‵ (sets_size γ (max k m)) ⊛ ‵ (had_size γ m)) $ suffices ! _ (upd_i 𝓤 (⟦ J ⟧ ∗ Z)) $ split3 ! $
      -- [the bound; the right; that it had it; who may append; where all is found; what is past; that it is so; the rosters; the list]
      move ! (0 ∷ 3 ∷ []) $ fjoin ! $ move ! (0 ∷ 3 ∷ []) $ fjoin ! $ move ! (3 ∷ 0 ∷ []) $ fjoin ! $ move ! (0 ∷ 3 ∷ []) $ fjoin ! $
      move ! (3 ∷ 4 ∷ 0 ∷ []) $ fjoin3 ! $ fpack ! (List (List (List Entry)) × List Entry) (standing entry_coded (rules (start n)) (beside n) n.log (rows n)) s $ frame ! $ done !)

  pub has_knows : (home : Bool) (seen : List Entry) → ⟦ porter_has n home seen ⟧ ⊢ ⟦ porter_has n home seen ⟧ ∗ ⟦ knows n ⟧
  has_knows true seen = qed 𝓛 (‵ (porter_has n true seen) ∷ []) ∵ use1 𝓛 (‵ (porter_owns n true 0 seen) ⊛ ‵ (knows n) ⊛ ‵ (reached entry_coded n.log seen)) (porter_knows 𝓛 n true 0 seen) $ split3 ! $ keep ! (0 ∷ 1 ∷ []) $ done !
  has_knows false seen = qed 𝓛 (‵ (porter_has n false seen) ∷ []) ∵ fpick ! (λ t. fsplit ! $ move ! (1 ∷ []) $ fsplit3 ! $ move ! (2 ∷ []) $ fsplit ! $
      -- [the book; what it has seen; the mark; its lifetime; the invariant]
      use1 𝓛 (‵ (knows n) ⊛ ‵ (knows n)) (knows_twice 𝓛 n) $ split ! $ move ! (0 ∷ 2 ∷ []) $ fjoin ! $ move ! (2 ∷ 3 ∷ 0 ∷ []) $ fjoin3 ! $ move ! (2 ∷ 0 ∷ []) $ fjoin ! $
      fpack ! (ℕ × (ℕ × ℕ)) (lending n seen) t $ done !)

pub parts : {M : Type 1} {𝓤 : Ura M} (𝓛 : Logic 𝓤) (γ m : ℕ) → Halves 𝓤 𝓛.H 𝓛.A (size_part γ m)
parts 𝓛 γ m = record {
  cut = λ q. latest_cut numbers 𝓛 q (Share.left q) (Share.right q) γ m (Share.halves q);
  join = λ q. latest_glue numbers 𝓛 q (Share.left q) (Share.right q) γ m (Share.halves q);
}
