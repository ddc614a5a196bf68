-- Two passes of one book, and one pass as it goes on. Assumes `Logic`.
use Rattle.std.proofs.Common.{◌≡◌, ℕ, List, [], ◌∷◌, refl, sym, ◌∙◌, ap, subst, ◌⊎◌, inl, inr, ⊎_elim, arith}
use mathlib.Core.List.{IsPrefix}
use seplogic.Ra.Ura.{Ura}
use base.Growing.{Least, prefix_refl, prefix_anti, prefix_trans}
use base.Logic.{SProp, ent, sep, ex, guard, upd_i}
use base.Fml.{Fml, finv}
use types.Logic.{Logic, sem}
use types.Growing.{at_least_dup, at_least_join}
use types.Kit.{‵, ◌⊛◌, some, given, later, ◌$◌, ◌∵◌, !, qed, move, keep, split, split3, join, fsplit, fjoin, pick, learn, show, check, frame, assume, suffices, done, use1, use2, use3, updating, await, now}
use Rattle.seize_machine.specs.Machine.State.{State}
use Rattle.seize_book.specs.Ledger.{AllApart, HeldKey, logs, reached, WithKinds, Known}
use Rattle.seize_book.specs.Entry.{Entry, entry_coded}
use Rattle.seize_book.specs.Book.{mine, rules, kinds}
use Rattle.seize_book.specs.Fair.{pass_key}
use Rattle.seize_book.specs.Passes.{IsSamePass, Longer}
use Rattle.seize_book.specs.Tokens.{Name, rows, start, beside, inside, knows, IsSole, gate_keeps, gate_gives, pass_holds, pass_owns}
use Rattle.seize_book.specs.declared.book.pass.Pass.{Pass}
use Rattle.seize_book.proofs.Apart.{all_apart}
use Rattle.seize_book.proofs.Append.{looks, looks_beside}
use Rattle.seize_book.proofs.Gates.{agrees, gives_as}
use Rattle.seize_book.proofs.Lists.{between}
use Rattle.seize_book.proofs.Looks.{apart, together}
use Rattle.seize_book.proofs.Notes.{knows_twice, opens}
use Rattle.seize_book.proofs.Passes.{rights}

head : Entry → List Entry → Entry
head x [] = x
head x (y ∷ ys) = y

tail : List Entry → List Entry
tail [] = []
tail (x ∷ xs) = xs

-- of two beginnings of one list, one is a beginning of the other
in_line : (p q l : List Entry) → IsPrefix p l → IsPrefix q l → IsPrefix p q ⊎ IsPrefix q p
unfolding head tail
in_line [] q l h k = inl (q, refl)
in_line (x ∷ p) [] l h k = inr (x ∷ p, refl)
in_line (x ∷ p) (y ∷ q) l h k =
    let e : x ≡ y = ap (head x) (h.1 ∙ sym k.1) in
    ⊎_elim (λ t. inl (t.0, λ i. e i ∷ t.1 i)) (λ t. inr (t.0, λ i. sym e i ∷ t.1 i)) (in_line p q (tail l) (h.0, ap tail h.1) (k.0, ap tail k.1))

pub longer : (a b c : List Entry) → Least IsPrefix a b c → Longer a b c
longer a b c l =
    ⊎_elim (λ p. inl (p, prefix_anti c b (l.2 b p (prefix_refl b)) l.1)) (λ p. inr (p, prefix_anti c a (l.2 a (prefix_refl a) p) l.0)) (in_line a b c l.0 l.1)

-- a pass that is the same as before, and again the same, is the same
pub same_twice : (one two three : Pass) → IsSamePass one two → IsSamePass two three → IsSamePass one three
same_twice one two three first second = (second.0 ∙ first.0, second.1 ∙ first.1, second.2 ∙ first.2)

-- where one of them is all that there is
pub least_all : (a c log : List Entry) → IsPrefix a c → IsPrefix c log → log ≡ a → a ≡ c
least_all a c log more past is = prefix_anti a c more (subst (IsPrefix c) is past)

module _ {M : Type 1} {𝓤 : Ura M} (𝓛 : Logic 𝓤) (n : Name) where
  open 𝓛 use {H, A}

  abbrev Pr : Type 2
  Pr = SProp 𝓤

  abbrev ◌⊢◌ : Pr → Pr → Type 1
  P ⊢ Q = ent 𝓤 P Q

  abbrev ◌∗◌ : Pr → Pr → Pr
  P ∗ Q = sep 𝓤 P Q

  abbrev ⟦◌⟧ : Fml → Pr
  ⟦ P ⟧ = sem 𝓛 P

  infix 26 ◌⊢◌
  infixr 35 ◌∗◌
  abbrev st : State
  st = start n

  abbrev had : List Entry → Fml
  had log = reached entry_coded n.log log

  abbrev gives : ℕ → List Entry → Fml
  gives p seen = gate_gives n.gate p seen

  abbrev Knows : List (HeldKey Entry) → List Entry → List Entry → Type 0
  Knows held seen log = Known (rules st) held seen log

  -- what the holders of keys know, with no event
  abbrev Peeked : List (HeldKey Entry) → List Entry → List Entry → Pr
  Peeked held seen log = guard 𝓤 (Knows held seen log) (⟦ rights 𝓛 n held ⟧ ∗ ⟦ had log ⟧)

  pub peeks : (held : List (HeldKey Entry)) (seen : List Entry) → WithKinds kinds held → ⟦ knows n ⟧ ∗ ⟦ rights 𝓛 n held ⟧ ∗ ⟦ had seen ⟧ ⊢ H.⇛ (ex 𝓤 (Peeked held seen))
  peeks held seen w = let J : Fml = inside n in let Z : Pr = ex 𝓤 (Peeked held seen) in
      qed 𝓛 (‵ (knows n) ∷ ‵ (rights 𝓛 n held) ∷ ‵ (had seen) ∷ []) ∵ use1 𝓛 (‵ (finv J)) (opens 𝓛 n) $ suffices ! _ (𝓛.invs.inv_acc J Z) $ frame ! $ assume ! (‵ J) $
      use3 𝓛 (some (λ (log : List Entry). given (Knows held seen log) (‵ J ⊛ ‵ (rights 𝓛 n held) ⊛ ‵ (had log)))) (looks entry_coded (rules st) (beside n) n.log (rows n) 𝓛 held seen w) $
      suffices ! _ (upd_i 𝓤 (⟦ J ⟧ ∗ Z)) $ pick ! (λ log. learn ! (λ known. split ! $ frame ! $ show ! (Peeked held seen) log $ check ! known $ done !))

  -- and what the gate says of two passes
  abbrev Alone : ℕ → ℕ → List Entry → List Entry → List Entry → Type 0
  Alone p q x y log = (IsSole p → log ≡ x) × (IsSole q → log ≡ y)

  abbrev PeekedBy : List (HeldKey Entry) → List Entry → ℕ → ℕ → List Entry → List Entry → List Entry → Pr
  PeekedBy held seen p q x y log = guard 𝓤 (Knows held seen log × Alone p q x y log) (⟦ rights 𝓛 n held ⟧ ∗ ⟦ gives p x ⟧ ∗ ⟦ gives q y ⟧)

  alone_both : (p q : ℕ) (x y log : List Entry) → ⟦ beside n log ⟧ ∗ (⟦ gives p x ⟧ ∗ ⟦ gives q y ⟧) ⊢ guard 𝓤 (Alone p q x y log) (⟦ beside n log ⟧ ∗ (⟦ gives p x ⟧ ∗ ⟦ gives q y ⟧))
  alone_both p q x y log = let keeps : Fml = gate_keeps n.gate log in qed 𝓛 (‵ (beside n log) ∷ (‵ (gives p x) ⊛ ‵ (gives q y)) ∷ []) ∵ fsplit ! $ move ! (1 ∷ []) $ fsplit ! $ move ! (3 ∷ []) $ split ! $
      -- [p's copy; q's; the book's; where all is found; what has ended]
      move ! (2 ∷ 0 ∷ []) $ use2 𝓛 (given (IsSole p → log ≡ x) (‵ keeps ⊛ ‵ (gives p x))) (agrees 𝓛 n.gate p log x) $ learn ! (λ one. split ! $
      -- [the book's copy; p's; q's; where all is found; what has ended]
      move ! (0 ∷ 2 ∷ []) $ use2 𝓛 (given (IsSole q → log ≡ y) (‵ keeps ⊛ ‵ (gives q y))) (agrees 𝓛 n.gate q log y) $ learn ! (λ two. check ! (one, two) $ split ! $
      -- [the book's copy; q's; p's; where all is found; what has ended]
      move ! (0 ∷ 3 ∷ []) $ fjoin ! $ move ! (3 ∷ 0 ∷ []) $ fjoin ! $ move ! (2 ∷ 1 ∷ []) $ join ! $ move ! (1 ∷ 0 ∷ []) $ done !))

  peeks_by : (held : List (HeldKey Entry)) (seen : List Entry) (p q : ℕ) (x y : List Entry) → WithKinds kinds held
      → ⟦ knows n ⟧ ∗ ⟦ rights 𝓛 n held ⟧ ∗ ⟦ had seen ⟧ ∗ (⟦ gives p x ⟧ ∗ ⟦ gives q y ⟧) ⊢ H.⇛ (ex 𝓤 (PeekedBy held seen p q x y))
  peeks_by held seen p q x y w = let J : Fml = inside n in let Z : Pr = ex 𝓤 (PeekedBy held seen p q x y) in
      qed 𝓛 (‵ (knows n) ∷ ‵ (rights 𝓛 n held) ∷ ‵ (had seen) ∷ (‵ (gives p x) ⊛ ‵ (gives q y)) ∷ []) ∵ use1 𝓛 (‵ (finv J)) (opens 𝓛 n) $ suffices ! _ (𝓛.invs.inv_acc J Z) $ frame ! $ assume ! (‵ J) $
      -- [J; the rights; what was seen; the copies]
      move ! (2 ∷ 3 ∷ []) $ join ! $ move ! (1 ∷ 2 ∷ 0 ∷ []) $
      use3 𝓛 (some (λ (log : List Entry). given (Knows held seen log × Alone p q x y log) (‵ J ⊛ ‵ (rights 𝓛 n held) ⊛ ‵ (had log) ⊛ (‵ (gives p x) ⊛ ‵ (gives q y)))))
      (looks_beside entry_coded (rules st) (beside n) n.log (rows n) 𝓛 held seen (Alone p q x y) (⟦ gives p x ⟧ ∗ ⟦ gives q y ⟧) (λ _. ⟦ gives p x ⟧ ∗ ⟦ gives q y ⟧) w (λ log known. alone_both p q x y log)) $
      suffices ! _ (upd_i 𝓤 (⟦ J ⟧ ∗ Z)) $ pick ! (λ log. learn ! (λ known. split ! $ frame ! $ split3 ! $ move ! (2 ∷ []) $ split ! $
      -- [p's copy; q's copy; the rights; what was reached]
      show ! (PeekedBy held seen p q x y) log $ check ! known $ keep ! (2 ∷ 0 ∷ 1 ∷ []) $ done !))

  abbrev pub Met : ℕ → ℕ → List Entry → List Entry → List Entry → Pr
  Met p q x y z = guard 𝓤 (Longer x y z × (mine st p z ≡ mine st p x) × (mine st q z ≡ mine st q y) × ¬ (p ≡ q)) (⟦ pass_owns n p z ⟧ ∗ ⟦ pass_owns n q z ⟧)

  pub meets : (p q : ℕ) (x y : List Entry) → ⟦ pass_owns n p x ⟧ ∗ ⟦ pass_owns n q y ⟧ ⊢ H.⇛ (ex 𝓤 (Met p q x y))
  meets p q x y = qed 𝓛 ((‵ (knows n) ⊛ ‵ (pass_holds n p x)) ∷ (‵ (knows n) ⊛ ‵ (pass_holds n q y)) ∷ []) ∵ updating ! $ split ! $ move ! (2 ∷ []) $ split ! $
      -- [the book; q's pass; the book; p's pass]
      move ! (3 ∷ []) $ use1 𝓛 (some (λ (a : List Entry). given (IsPrefix a x × (mine st p a ≡ mine st p x)) (‵ (rights 𝓛 n (pass_key p a ∷ [])) ⊛ ‵ (had x) ⊛ ‵ (gives p x)))) (apart 𝓛 n p x) $ pick ! (λ a. learn ! (λ past. split3 ! $
      -- [p's key; x was reached; p's copy; the book; q's pass; the book]
      move ! (4 ∷ []) $ use1 𝓛 (some (λ (b : List Entry). given (IsPrefix b y × (mine st q b ≡ mine st q y)) (‵ (rights 𝓛 n (pass_key q b ∷ [])) ⊛ ‵ (had y) ⊛ ‵ (gives q y)))) (apart 𝓛 n q y) $ pick ! (λ b. learn ! (λ past'. split3 ! $
      -- [q's key; y was reached; q's copy; p's key; x was reached; p's copy; the book; the book]
      move ! (4 ∷ 1 ∷ []) $ use2 𝓛 (some (λ (z : List Entry). given (Least IsPrefix x y z) (‵ (had z)))) (at_least_join (logs entry_coded) 𝓛 n.log x y) $ pick ! (λ z. learn ! (λ least.
      use1 𝓛 (‵ (had z) ⊛ ‵ (had z)) (at_least_dup (logs entry_coded) 𝓛 n.log z) $ split ! $ use1 𝓛 (‵ (had z) ⊛ ‵ (had z)) (at_least_dup (logs entry_coded) 𝓛 n.log z) $ split ! $
      -- [z was reached, three times; q's key; q's copy; p's key; p's copy; the book; the book]
      move ! (7 ∷ []) $ use1 𝓛 (‵ (knows n) ⊛ ‵ (knows n)) (knows_twice 𝓛 n) $ split ! $
      -- [the book, twice; z was reached, three times; q's key; q's copy; p's key; p's copy; the book]
      move ! (5 ∷ 7 ∷ []) $ fsplit ! $ move ! (2 ∷ []) $ fsplit ! $
      -- [p's key; nothing; q's key; nothing; the book, twice; z, three times; q's copy; p's copy; the book]
      let held : List (HeldKey Entry) = pass_key p a ∷ pass_key q b ∷ [] in
      move ! (2 ∷ 3 ∷ []) $ fjoin ! $ move ! (1 ∷ 0 ∷ []) $ fjoin ! $
      -- [the keys; nothing; the book, twice; z, three times; q's copy; p's copy; the book]
      use1 𝓛 (given (AllApart held) (‵ (rights 𝓛 n held))) (all_apart entry_coded (rows n) 𝓛 held) $ learn ! (λ apart_are. let differ : ¬ (p ≡ q) = λ e. apart_are.0.0 (refl, e) in
      move ! (8 ∷ 7 ∷ []) $ join ! $ move ! (5 ∷ 0 ∷ []) $ join ! $ move ! (3 ∷ 1 ∷ 0 ∷ []) $
      use3 𝓛 (later (some (λ (log : List Entry). given (Knows held z log × Alone p q x y log) (‵ (rights 𝓛 n held) ⊛ ‵ (gives p x) ⊛ ‵ (gives q y))))) (peeks_by held z p q x y (omega arith, (omega arith, tt))) $ await ! tt $ pick ! (λ log. learn ! (λ known. split3 ! $
      -- [the keys; p's copy; q's copy; nothing; the book; z, twice; the book]
      fsplit ! $ move ! (1 ∷ []) $ fsplit ! $ fjoin ! $
      -- [q's key; p's key; p's copy; q's copy; nothing; the book; z, twice; the book]
      let same : mine st p z ≡ mine st p a = between st p a z log (prefix_trans a x z past.0 least.0) known.0.1 known.0.2.0.1 in
      let same' : mine st q z ≡ mine st q b = between st q b z log (prefix_trans b y z past'.0 least.1) known.0.1 known.0.2.1.0.1 in
      move ! (2 ∷ []) $ use1 𝓛 (‵ (gives p z)) (gives_as 𝓛 n.gate p x z (λ s. least_all x z log least.0 known.0.1 (known.1.0 s))) $
      move ! (3 ∷ []) $ use1 𝓛 (‵ (gives q z)) (gives_as 𝓛 n.gate q y z (λ s. least_all y z log least.1 known.0.1 (known.1.1 s))) $
      -- [q's copy; p's copy; q's key; p's key; nothing; the book; z, twice; the book]
      move ! (2 ∷ 6 ∷ 0 ∷ []) $ use3 𝓛 (‵ (pass_holds n q z)) (together 𝓛 n q z b (prefix_trans b y z past'.0 least.1, sym same')) $
      -- [q's pass; p's copy; p's key; nothing; the book; z; the book]
      now ! $ show ! (Met p q x y) z $ check ! (longer x y z least, same ∙ past.1, same' ∙ past'.1, differ) $
      move ! (4 ∷ 0 ∷ []) $ fjoin ! $ move ! (2 ∷ 3 ∷ []) $ fjoin ! $ move ! (0 ∷ 3 ∷ 2 ∷ []) $
      use3 𝓛 (‵ (pass_holds n p z)) (together 𝓛 n p z a (prefix_trans a x z past.0 least.0, sym same)) $
      -- [p's pass; q's, with its book; the book]
      move ! (2 ∷ 0 ∷ []) $ fjoin ! $ keep ! (0 ∷ 1 ∷ []) $ done !)))))))))
