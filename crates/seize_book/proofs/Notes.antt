-- Events that no step of the code makes: the invariant is opened and closed beside the code. Assumes `Logic`.
use Rattle.std.proofs.Common.{◌≡◌, ℕ, List, [], ◌∷◌, ◌++◌}
use mathlib.Core.List.{IsPrefix}
use seplogic.Ra.Ura.{Ura}
use base.Logic.{SProp, ent, sep, ex, guard, upd, upd_i}
use base.Fml.{Fml, ftrue, fsep, finv, fnamed}
use types.Logic.{Logic, sem}
use types.Kit.{‵, raw, ◌⊛◌, some, given, later, ◌$◌, ◌∵◌, !, qed, move, keep, drop, split, split3, join, fsplit, fjoin, fpick, fpack, pick, learn, show, check, frame, assume, suffices, settle, done, use1, use2, use3, updating, await, now}
use types.Tokens.{res_dup}
use denote.Steps.{nothing}
use Rattle.seize_machine.specs.Machine.State.{State, linked_values, are_distinct}
use Rattle.seize_book.specs.Ledger.{fact, HeldKey, reached, WithKinds, keys_made}
use Rattle.seize_book.specs.Entry.{Entry, entry_coded}
use Rattle.seize_book.specs.Book.{rules, kinds}
use Rattle.seize_book.specs.Tokens.{Name, rows, start, beside, inside, has_family, knows, rights_own, adder_owns, pass_adds, pass_holds, pass_owns}
use Rattle.seize_book.proofs.Append.{MayMint, mint, Minted}
use Rattle.seize_book.proofs.Goes.{kept_now}
use Rattle.seize_book.proofs.Passes.{IsDistinct, keys, by_pass, MayMake, Permits, Tells, Trades, keys_after, Made}

module _ {M : Type 1} {𝓤 : Ura M} (𝓛 : Logic 𝓤) (n : Name) where
  open 𝓛 use {H, A}

  abbrev Pr : Type 2
  Pr = SProp 𝓤

  abbrev ◌⊢◌ : Pr → Pr → Type 1
  P ⊢ Q = ent 𝓤 P Q

  abbrev ◌∗◌ : Pr → Pr → Pr
  P ∗ Q = sep 𝓤 P Q

  abbrev ⟦◌⟧ : Fml → Pr
  ⟦ P ⟧ = sem 𝓛 P

  infix 26 ◌⊢◌
  infixr 35 ◌∗◌
  abbrev J : Fml
  J = inside n

  abbrev st : State
  st = start n

  abbrev had : List Entry → Fml
  had log = reached entry_coded n.log log

  abbrev distinct : Fml
  distinct = fact (are_distinct (linked_values n.links) ≡ Rattle.std.specs.Prelude.true)

  abbrev calls : Fml
  calls = fsep (has_family n) distinct

  calls_twice : ⟦ calls ⟧ ⊢ ⟦ calls ⟧ ∗ ⟦ calls ⟧
  calls_twice = qed 𝓛 (‵ calls ∷ []) ∵ fsplit ! $ res_dup ! $ move ! (2 ∷ []) $ fpick ! (λ so. drop ! $
      nothing ! $ fpack ! (IsDistinct 𝓛 n) (λ _. ftrue) so $ move ! (1 ∷ 0 ∷ []) $ fjoin ! $
      nothing ! $ fpack ! (IsDistinct 𝓛 n) (λ _. ftrue) so $ move ! (2 ∷ 0 ∷ []) $ fjoin ! $ done !)

  -- what is known of a book may be known twice
  pub knows_twice : ⟦ knows n ⟧ ⊢ ⟦ knows n ⟧ ∗ ⟦ knows n ⟧
  knows_twice = qed 𝓛 (‵ (knows n) ∷ []) ∵ fsplit ! $ use1 𝓛 (‵ (fnamed n.number J) ⊛ ‵ (fnamed n.number J)) (𝓛.invs.named_dup n.number J) $ split ! $
      move ! (2 ∷ []) $ use1 𝓛 (‵ calls ⊛ ‵ calls) calls_twice $ split ! $
      -- [the book's call, twice; its invariant, twice]
      move ! (2 ∷ 0 ∷ []) $ fjoin ! $ move ! (2 ∷ 1 ∷ []) $ fjoin ! $ done !

  pub distinct_links : ⟦ knows n ⟧ ⊢ guard 𝓤 (IsDistinct 𝓛 n) ⟦ knows n ⟧
  distinct_links = qed 𝓛 (‵ (knows n) ∷ []) ∵ fsplit ! $ move ! (1 ∷ []) $ fsplit ! $ move ! (1 ∷ []) $ fpick ! (λ so. drop ! $ check ! so $
      nothing ! $ fpack ! (IsDistinct 𝓛 n) (λ _. ftrue) so $ move ! (1 ∷ 0 ∷ []) $ fjoin ! $ move ! (1 ∷ 0 ∷ []) $ fjoin ! $ done !)

  -- the invariant is at hand
  pub opens : ⟦ knows n ⟧ ⊢ ⟦ finv J ⟧
  opens = qed 𝓛 (‵ (knows n) ∷ []) ∵ fsplit ! $ keep ! (0 ∷ []) $ use1 𝓛 (‵ (finv J)) (𝓛.invs.named_inv n.number J) $ done !

  module _ (p size : ℕ) (seen : List Entry) (held : List (HeldKey Entry)) (ev : List Entry → Entry) (Told : List Entry → Type 0) (X : Pr) (Y : List Entry → Pr) where
    abbrev now_at : List Entry → List Entry
    now_at log = log ++ ev log ∷ []

    abbrev pub Noted : List Entry → Pr
    Noted log = guard 𝓤 (Made 𝓛 n p seen held ev Told log) (⟦ pass_owns n p (now_at log) ⟧ ∗ ⟦ keys_after 𝓛 n held ev log ⟧ ∗ Y log)

    -- any event, by the holder of a pass and of the keys of all that it touches
    pub notes : WithKinds kinds held → MayMake 𝓛 n p size seen held ev Told → Permits 𝓛 n p seen held ev Told X → Tells 𝓛 n p seen held Told X → Trades 𝓛 n p seen held ev Told X Y
        → ⟦ adder_owns n p size seen ⟧ ∗ ⟦ keys 𝓛 n held ⟧ ∗ X ⊢ H.⇛ (ex 𝓤 Noted)
    notes within may permits tells trades = let Z : Pr = ex 𝓤 Noted in
        qed 𝓛 ((‵ (knows n) ⊛ ‵ (pass_adds n p size seen)) ∷ ‵ (keys 𝓛 n held) ∷ raw X ∷ []) ∵ split ! $ use1 𝓛 (given (IsDistinct 𝓛 n) (‵ (knows n))) distinct_links $ learn ! (λ distinct.
        use1 𝓛 (‵ (knows n) ⊛ ‵ (knows n)) knows_twice $ split ! $ use1 𝓛 (‵ (finv J)) opens $ suffices ! _ (𝓛.invs.inv_acc J Z) $ frame ! $ assume ! (‵ J) $
        -- [J; the book; the pass; the keys; X]
        move ! (3 ∷ 4 ∷ []) $ join ! $ move ! (1 ∷ 3 ∷ 0 ∷ []) $
        use3 𝓛 (raw (upd 𝓤 (ex 𝓤 (λ log. guard 𝓤 (Made 𝓛 n p seen held ev Told log) (⟦ J ⟧ ∗ ⟦ pass_holds n p (now_at log) ⟧ ∗ ⟦ keys_after 𝓛 n held ev log ⟧ ∗ Y log)))))
        (by_pass 𝓛 n p size seen held ev Told X Y distinct within may permits tells trades) $
        settle 𝓛 (⟦ J ⟧ ∗ Z) (some (λ (log : List Entry). given (Made 𝓛 n p seen held ev Told log) (‵ J ⊛ ‵ (pass_holds n p (now_at log)) ⊛ ‵ (keys_after 𝓛 n held ev log) ⊛ raw (Y log)))) $
        suffices ! _ (upd_i 𝓤 (⟦ J ⟧ ∗ Z)) $ pick ! (λ log. learn ! (λ made. split ! $ frame ! $ split3 ! $
        -- [the pass; the keys; Y; the book]
        move ! (3 ∷ 0 ∷ []) $ fjoin ! $ show ! Noted log $ check ! made $ done !)))

  -- new keys, picked by how many there are of each kind
  abbrev pub Picks : Type 0
  Picks = (ℕ → ℕ) → List (ℕ × ℕ)

  abbrev pub NewKeys : List Entry → Picks → (ℕ → ℕ) × List Entry → Pr
  NewKeys seen births t = guard 𝓤 (IsPrefix seen t.1 × ((r : ℕ) → (rules st).Sized r (t.0 r) t.1)) (⟦ rights_own n (keys_made (births t.0) t.1) ⟧ ∗ ⟦ had t.1 ⟧)

  pub new_keys : (seen : List Entry) (births : Picks) → ((sizes : ℕ → ℕ) → MayMint (rules st) kinds sizes (births sizes)) → ⟦ knows n ⟧ ∗ ⟦ had seen ⟧ ⊢ H.⇛ (ex 𝓤 (NewKeys seen births))
  new_keys seen births may = let Z : Pr = ex 𝓤 (NewKeys seen births) in qed 𝓛 (‵ (knows n) ∷ ‵ (had seen) ∷ []) ∵ use1 𝓛 (‵ (finv J)) opens $ suffices ! _ (𝓛.invs.inv_acc J Z) $ frame ! $ assume ! (‵ J) $
      use2 𝓛 (raw (upd 𝓤 (ex 𝓤 (Minted entry_coded (rules st) (beside n) n.log (rows n) 𝓛 seen births)))) (mint entry_coded (rules st) (beside n) n.log (rows n) 𝓛 seen births (kept_now st) may) $
      settle 𝓛 (⟦ J ⟧ ∗ Z) (some (λ (t : (ℕ → ℕ) × List Entry). given ((rules st).Legal t.1 × IsPrefix seen t.1 × ((r : ℕ) → (rules st).Sized r (t.0 r) t.1)) (‵ J ⊛ ‵ (rights_own n (keys_made (births t.0) t.1)) ⊛ ‵ (had t.1)))) $
      suffices ! _ (upd_i 𝓤 (⟦ J ⟧ ∗ Z)) $ pick ! (λ t. learn ! (λ so. split ! $ frame ! $ show ! (NewKeys seen births) t $ check ! (so.1, so.2) $ done !))

  -- what it gives, in a walk
  abbrev pub minted : List Entry → Picks → types.Kit.Item 𝓤
  minted seen births = later (some (λ (t : (ℕ → ℕ) × List Entry). given (IsPrefix seen t.1 × ((r : ℕ) → (rules st).Sized r (t.0 r) t.1)) (‵ (rights_own n (keys_made (births t.0) t.1)) ⊛ ‵ (had t.1))))
