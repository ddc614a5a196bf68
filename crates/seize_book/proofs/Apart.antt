-- No two keys that are held together are one: a right is three quarters, and there is no more than the whole. Assumes `Logic`.
use Rattle.std.proofs.Common.{◌≡◌, ℕ, true, false, not, List, [], ◌∷◌, map, refl, sym, ◌∙◌, ap, subst}
use Rattle.std.specs.Prelude.{slice_index_or}
use Rattle.std.proofs.lemmas.Bool.{and_from, or_from}
use mathlib.Mathlib.Data.Part.{◌∈◌}
use native.Mathlib.Decide.{ℕ_discrete}
use seplogic.Ra.Ura.{Ura}
use base.Fml.{Share, Fml}
use base.Logic.{SProp, ent, sep, guard}
use base.Share.{three_quarters, three_quarters_once}
use base.Stored.{Coded}
use types.Keyed.{entry, entry_glue}
use types.Kit.{‵, some, given, ◌⊛◌, ◌$◌, ◌∵◌, !, qed, move, split, fsplit, fjoin, pick, learn, check, done, use1, use2}
use types.Logic.{Logic, sem}
use Rattle.seize_machine.specs.Machine.State.{has}
use Rattle.seize_book.specs.Book.{blocks}
use Rattle.seize_book.specs.Entry.{Entry, entry_coded}
use Rattle.seize_book.specs.Homes.{home_of}
use Rattle.seize_book.specs.Ledger.{AllApart, Beside, HeldKey, halved, right, rights}
use Rattle.seize_book.specs.Tokens.{Name, keys_own, rights_own, rows}
use Rattle.seize_book.specs.Values.{LieApart}
use Rattle.seize_book.specs.Private.{are_of_blocks, labels_of}
use Rattle.seize_book.proofs.Further.{first_is}
use Rattle.seize_book.proofs.Lists.{unequal}
use Rattle.seize_book.proofs.Ways.{keys_apart, keys_whole, ways}

module _ {E : Type 0} (c : Coded E) (δs : List ℕ) {M : Type 1} {𝓤 : Ura M} (𝓛 : Logic 𝓤) where
  abbrev Pr : Type 2
  Pr = SProp 𝓤

  abbrev ◌⊢◌ : Pr → Pr → Type 1
  P ⊢ Q = ent 𝓤 P Q

  abbrev ◌∗◌ : Pr → Pr → Pr
  P ∗ Q = sep 𝓤 P Q

  abbrev ⟦◌⟧ : Fml → Pr
  ⟦ P ⟧ = sem 𝓛 P

  infix 26 ◌⊢◌
  infixr 35 ◌∗◌
  abbrev R : ℕ → ℕ → List E → Fml
  R r k own = right c δs r k own

  -- the same right twice is more than the whole
  twice : (Z : Pr) (r k : ℕ) (u v : List E) → ⟦ R r k u ⟧ ∗ ⟦ R r k v ⟧ ⊢ Z
  twice Z r k u v = qed 𝓛 (‵ (R r k u) ∷ ‵ (R r k v) ∷ []) ∵
      use2 𝓛 (some (λ (x : Share × List E). given (◌∈◌ {α = Share × List E} x ((halved c).op (three_quarters, u) (three_quarters, v))) (‵ (entry (halved c) (slice_index_or δs r 0) k x))))
      (entry_glue (halved c) 𝓛 (slice_index_or δs r 0) k (three_quarters, u) (three_quarters, v)) $ pick ! (λ x. learn ! (λ m. absurd (three_quarters_once m.0.0)))

  abbrev Other : ℕ → ℕ → List E → HeldKey E → Pr
  Other r k own g = guard 𝓤 (¬ ((r ≡ g.kind) × (k ≡ g.key))) (⟦ R r k own ⟧ ∗ ⟦ R g.kind g.key g.own ⟧)

  other : (r k : ℕ) (own : List E) (g : HeldKey E) → ⟦ R r k own ⟧ ∗ ⟦ R g.kind g.key g.own ⟧ ⊢ Other r k own g
  other r k own g = go (ℕ_discrete r g.kind) (ℕ_discrete k g.key)
    where
      go : Dec (r ≡ g.kind) → Dec (k ≡ g.key) → ⟦ R r k own ⟧ ∗ ⟦ R g.kind g.key g.own ⟧ ⊢ Other r k own g
      go (no n) d = qed 𝓛 (‵ (R r k own) ∷ ‵ (R g.kind g.key g.own) ∷ []) ∵ check ! (λ t. n t.0) $ done !
      go (yes e) (no n) = qed 𝓛 (‵ (R r k own) ∷ ‵ (R g.kind g.key g.own) ∷ []) ∵ check ! (λ t. n t.1) $ done !
      go (yes e) (yes i) = subst (λ (t : ℕ × ℕ). ⟦ R r k own ⟧ ∗ ⟦ R t.0 t.1 g.own ⟧ ⊢ Other r k own g) (λ j. (e j, i j)) (twice (Other r k own g) r k own g.own)

  beside : (r k : ℕ) (own : List E) (held : List (HeldKey E)) → ⟦ R r k own ⟧ ∗ ⟦ rights c δs held ⟧ ⊢ guard 𝓤 (Beside held r k) (⟦ R r k own ⟧ ∗ ⟦ rights c δs held ⟧)
  beside r k own [] = qed 𝓛 (‵ (R r k own) ∷ ‵ (rights c δs []) ∷ []) ∵ check ! tt $ done !
  beside r k own (g ∷ held) = qed 𝓛 (‵ (R r k own) ∷ ‵ (rights c δs (g ∷ held)) ∷ []) ∵ move ! (1 ∷ []) $ fsplit ! $
      -- [the one; the others; this right]
      move ! (2 ∷ 0 ∷ []) $ use2 𝓛 (given (¬ ((r ≡ g.kind) × (k ≡ g.key))) (‵ (R r k own) ⊛ ‵ (R g.kind g.key g.own))) (other r k own g) $ learn ! (λ one. split ! $
      -- [this right; the one; the others]
      move ! (0 ∷ 2 ∷ []) $ use2 𝓛 (given (Beside held r k) (‵ (R r k own) ⊛ ‵ (rights c δs held))) (beside r k own held) $ learn ! (λ rest. check ! (one, rest) $ split ! $
      -- [this right; the others; the one]
      move ! (2 ∷ 1 ∷ []) $ fjoin ! $ move ! (1 ∷ 0 ∷ []) $ done !))

  pub all_apart : (held : List (HeldKey E)) → ⟦ rights c δs held ⟧ ⊢ guard 𝓤 (AllApart held) ⟦ rights c δs held ⟧
  all_apart [] = qed 𝓛 (‵ (rights c δs []) ∷ []) ∵ check ! tt $ done !
  all_apart (h ∷ held) = qed 𝓛 (‵ (rights c δs (h ∷ held)) ∷ []) ∵ fsplit ! $
      move ! (1 ∷ []) $ use1 𝓛 (given (AllApart held) (‵ (rights c δs held))) (all_apart held) $ learn ! (λ rest.
      -- [the others; the first]
      move ! (1 ∷ 0 ∷ []) $ use2 𝓛 (given (Beside held h.kind h.key) (‵ (R h.kind h.key h.own) ⊛ ‵ (rights c δs held))) (beside h.kind h.key h.own held) $ learn ! (λ first. check ! (first, rest) $ split ! $
      fjoin ! $ done !))

-- so it is of keys, which own the rights and more
pub keys_are_apart : {M : Type 1} {𝓤 : Ura M} (𝓛 : Logic 𝓤) (n : Name) (held : List (HeldKey Entry)) → ent 𝓤 (sem 𝓛 (keys_own n held)) (guard 𝓤 (AllApart held) (sem 𝓛 (keys_own n held)))
keys_are_apart 𝓛 n held = qed 𝓛 (‵ (keys_own n held) ∷ []) ∵ use1 𝓛 (‵ (rights_own n held) ⊛ ‵ (ways 𝓛 n held)) (keys_apart 𝓛 n held) $ split ! $
    use1 𝓛 (given (AllApart held) (‵ (rights_own n held))) (all_apart entry_coded (rows n) 𝓛 held) $ learn ! (λ apart. check ! apart $
    use2 𝓛 (‵ (keys_own n held)) (keys_whole 𝓛 n held) $ done !)

-- Keys of blocks that are apart are those of values that lie apart.

not_in : (held : List (HeldKey Entry)) (k : ℕ) → are_of_blocks held ≡ true → Beside held blocks k → has k (map home_of (labels_of held)) ≡ false
not_in [] k are beside = refl
not_in (h ∷ held) k are beside = let its = first_is h held are in
    or_from _ _ (unequal (home_of h.label) k (λ e. beside.0 (sym its.0, sym (its.1 ∙ e)))) (not_in held k its.2 beside.1)

pub lie_apart : (held : List (HeldKey Entry)) → are_of_blocks held ≡ true → AllApart held → LieApart (labels_of held)
lie_apart [] are apart = refl
lie_apart (h ∷ held) are apart = let its = first_is h held are in
    let none = not_in held (home_of h.label) its.2 (subst (λ (t : ℕ × ℕ). Beside held t.0 t.1) (λ j. (its.0 j, its.1 j)) apart.0) in
    and_from _ _ (ap not none) (lie_apart held its.2 apart.1)
