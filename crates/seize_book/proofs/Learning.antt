-- A pass learns of a beginning of the list, as the token of a book has seen it; a porter at home knows of it already. Assumes `Logic`.
use Rattle.std.proofs.Common.{◌≡◌, ℕ, true, List, [], ◌∷◌, refl, sym, ◌∙◌, subst, ⊎_elim, arith}
use mathlib.Core.List.{IsPrefix}
use seplogic.Ra.Ura.{Ura}
use base.Growing.{Least, prefix_refl, prefix_trans}
use base.Logic.{SProp, ent, sep, ex, guard}
use base.Fml.{Fml, ftrue, fsep}
use types.Logic.{Logic, sem}
use types.Growing.{at_least_dup, at_least_join}
use types.Kit.{‵, raw, ◌⊛◌, some, given, later, ◌$◌, ◌∵◌, !, qed, move, keep, drop, split, split3, join, fsplit, fjoin, fpick, fpack, pick, learn, rewrite, show, check, done, use1, use2, use3, updating, await, now}
use denote.Steps.{nothing}
use Rattle.seize_machine.specs.Machine.State.{State}
use Rattle.seize_book.specs.Ledger.{HeldKey, Known, fact, logs, reached}
use Rattle.seize_book.specs.Entry.{Entry, entry_coded}
use Rattle.seize_book.specs.Begin.{book_owns}
use Rattle.seize_book.specs.Book.{IsLegalList, after, mine, rules}
use Rattle.seize_book.specs.Fair.{pass_key}
use Rattle.seize_book.specs.Passes.{Longer}
use Rattle.seize_book.specs.Loans.{AllCarryOne}
use Rattle.seize_book.specs.Tokens.{IsSole, Name, gate_gives, gate_keeps, knows, pass_holds, pass_owns, porter_owns, start}
use Rattle.seize_book.proofs.Gates.{agrees, gives_as}
use Rattle.seize_book.proofs.Lists.{between}
use Rattle.seize_book.proofs.Looks.{Idle, apart, together}
use Rattle.seize_book.proofs.Meets.{least_all, longer}
use Rattle.seize_book.proofs.Notes.{knows_twice}
use Rattle.seize_book.proofs.Passes.{rights}
use Rattle.seize_book.proofs.Plans.{legal_prefix}
use Rattle.seize_book.proofs.Porters.{changes, home_passes, pass_homes}

-- the longer of two lists goes on from both
pub longer_left : (x y z : List Entry) → Longer x y z → IsPrefix x z
longer_left x y z longer = ⊎_elim (λ p. subst (IsPrefix x) (sym p.1) p.0) (λ p. subst (IsPrefix x) (sym p.1) (prefix_refl x)) longer

pub longer_right : (x y z : List Entry) → Longer x y z → IsPrefix y z
longer_right x y z longer = ⊎_elim (λ p. subst (IsPrefix y) (sym p.1) (prefix_refl y)) (λ p. subst (IsPrefix y) (sym p.1) p.0) longer

module _ {M : Type 1} {𝓤 : Ura M} (𝓛 : Logic 𝓤) (n : Name) where
  open 𝓛 use {H}

  abbrev Pr : Type 2
  Pr = SProp 𝓤

  abbrev ◌⊢◌ : Pr → Pr → Type 1
  P ⊢ Q = ent 𝓤 P Q

  abbrev ◌∗◌ : Pr → Pr → Pr
  P ∗ Q = sep 𝓤 P Q

  abbrev ⟦◌⟧ : Fml → Pr
  ⟦ P ⟧ = sem 𝓛 P

  infix 26 ◌⊢◌
  infixr 35 ◌∗◌
  abbrev st : State
  st = start n

  abbrev had : List Entry → Fml
  had log = reached entry_coded n.log log

  abbrev gives : ℕ → List Entry → Fml
  gives p seen = gate_gives n.gate p seen

  -- where the pass is alone, it has seen all there is
  abbrev IsAll : ℕ → List Entry → List Entry → Type 0
  IsAll p seen log = IsSole p → log ≡ seen

  abbrev Asked : ℕ → List Entry → List Entry → Fml
  Asked p seen log = fsep (gives p seen) (fact (IsAll p seen log))

  asks : (p : ℕ) (seen log : List Entry) → ⟦ gate_keeps n.gate log ⟧ ∗ ⟦ gives p seen ⟧ ⊢ ⟦ gate_keeps n.gate log ⟧ ∗ ⟦ Asked p seen log ⟧
  asks p seen log = qed 𝓛 (‵ (gate_keeps n.gate log) ∷ ‵ (gives p seen) ∷ []) ∵ use2 𝓛 (given (IsAll p seen log) (‵ (gate_keeps n.gate log) ⊛ ‵ (gives p seen))) (agrees 𝓛 n.gate p log seen) $
      learn ! (λ all. split ! $ move ! (1 ∷ []) $ nothing ! $ fpack ! (IsAll p seen log) (λ _. ftrue) all $ move ! (1 ∷ 0 ∷ []) $ fjoin ! $ move ! (1 ∷ 0 ∷ []) $ done !)

  abbrev changed : List (HeldKey Entry) → List Entry → ℕ → List Entry → types.Kit.Item 𝓤
  changed held z p x = later (some (λ (log : List Entry). given (Known (rules st) held z log × AllCarryOne (after st log).named) (‵ (rights 𝓛 n held) ⊛ ‵ (had log) ⊛ ‵ (Asked p x log))))

  abbrev pub Learned : ℕ → List Entry → List Entry → List Entry → Pr
  Learned p x y z = guard 𝓤 (Longer x y z × (mine st p z ≡ mine st p x) × (IsSole p → z ≡ x) × IsLegalList st z) (⟦ pass_owns n p z ⟧ ∗ ⟦ book_owns n y ⟧)

  -- it has seen the longer of the two
  pub hears : (p : ℕ) (x y : List Entry) → ⟦ pass_owns n p x ⟧ ∗ ⟦ book_owns n y ⟧ ⊢ H.⇛ (ex 𝓤 (Learned p x y))
  hears p x y = qed 𝓛 ((‵ (knows n) ⊛ ‵ (pass_holds n p x)) ∷ ‵ (book_owns n y) ∷ []) ∵ updating ! $ split ! $ move ! (1 ∷ []) $
      use1 𝓛 (some (λ (a : List Entry). given (Idle 𝓛 n p a x) (‵ (rights 𝓛 n (pass_key p a ∷ [])) ⊛ ‵ (had x) ⊛ ‵ (gives p x)))) (apart 𝓛 n p x) $ pick ! (λ a. learn ! (λ past. split3 ! $
      -- [its key; x was reached; its copy; the book; the book's token]
      move ! (4 ∷ []) $ fsplit ! $ move ! (1 ∷ []) $ use1 𝓛 (‵ (had y) ⊛ ‵ (had y)) (at_least_dup (logs entry_coded) 𝓛 n.log y) $ split ! $
      -- [y was reached, twice; the token's book; its key; x was reached; its copy; the book]
      move ! (2 ∷ 0 ∷ []) $ fjoin ! $ move ! (3 ∷ 1 ∷ []) $ use2 𝓛 (some (λ (z : List Entry). given (Least IsPrefix x y z) (‵ (had z)))) (at_least_join (logs entry_coded) 𝓛 n.log x y) $ pick ! (λ z. learn ! (λ least.
      use1 𝓛 (‵ (had z) ⊛ ‵ (had z)) (at_least_dup (logs entry_coded) 𝓛 n.log z) $ split ! $
      -- [z was reached, twice; the book's token; its key; its copy; the book]
      move ! (5 ∷ []) $ use1 𝓛 (‵ (knows n) ⊛ ‵ (knows n)) (knows_twice 𝓛 n) $ split ! $ let held : List (HeldKey Entry) = pass_key p a ∷ [] in
      -- [the book, twice; z was reached, twice; the book's token; its key; its copy]
      move ! (2 ∷ 6 ∷ []) $ join ! $ move ! (1 ∷ 5 ∷ 0 ∷ []) $
      use3 𝓛 (changed held z p x) (changes 𝓛 n held z (gives p x) (Asked p x) (asks p x) (omega arith, tt)) $ await ! tt $ pick ! (λ log. learn ! (λ known. split3 ! $
      -- [its key; what was reached; its copy, and that it is so; the book; z was reached; the book's token]
      move ! (2 ∷ []) $ fsplit ! $ move ! (1 ∷ []) $ fpick ! (λ all. drop ! $
      let same : mine st p z ≡ mine st p a = between st p a z log (prefix_trans a x z past.0 least.0) known.0.1 known.0.2.0.1 in
      use1 𝓛 (‵ (gives p z)) (gives_as 𝓛 n.gate p x z (λ s. least_all x z log least.0 known.0.1 (all s))) $
      -- [its copy; its key; what was reached; the book; z was reached; the book's token]
      move ! (1 ∷ 4 ∷ 0 ∷ []) $ use3 𝓛 (‵ (pass_holds n p z)) (together 𝓛 n p z a (prefix_trans a x z past.0 least.0, sym same)) $
      now ! $ show ! (Learned p x y) z $ check ! (longer x y z least, same ∙ past.1, λ s. sym (least_all x z log least.0 known.0.1 (all s)), legal_prefix st z log known.0.1 known.0.0.0) $ move ! (2 ∷ 0 ∷ []) $ fjoin ! $ keep ! (0 ∷ 2 ∷ []) $ done !)))))))

  -- a porter at home has what the first pass has, which is alone
  pub covered : (x y : List Entry) → ⟦ porter_owns n true 0 x ⟧ ∗ ⟦ book_owns n y ⟧ ⊢ H.⇛ (guard 𝓤 (IsPrefix y x) (⟦ porter_owns n true 0 x ⟧ ∗ ⟦ book_owns n y ⟧))
  covered x y = qed 𝓛 (‵ (porter_owns n true 0 x) ∷ ‵ (book_owns n y) ∷ []) ∵ updating ! $ use1 𝓛 (‵ (pass_owns n 0 x)) (home_passes 𝓛 n x) $
      use2 𝓛 (later (some (λ (z : List Entry). given (Longer x y z × (mine st 0 z ≡ mine st 0 x) × (IsSole 0 → z ≡ x) × IsLegalList st z) (‵ (pass_owns n 0 z) ⊛ ‵ (book_owns n y))))) (hears 0 x y) $ await ! tt $ pick ! (λ z. learn ! (λ so. split ! $
      let all : z ≡ x = so.2 refl in rewrite ! 0 (λ (log : List Entry). ‵ (pass_owns n 0 log)) all refl $ use1 𝓛 (‵ (porter_owns n true 0 x)) (pass_homes 𝓛 n x) $
      now ! $ check ! (subst (IsPrefix y) all (longer_right x y z so.0)) $ done !))
