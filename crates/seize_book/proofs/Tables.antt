-- Where heads lie: what the book has of the entries of its table. Assumes `Logic`.
use Rattle.std.proofs.Common.{◌≡◌, ℕ, suc, ◌+◌, ◌<◌, ◌++◌, List, [], ◌∷◌, length, get_or, sym, ◌∙◌, ap, subst, arith}
use Rattle.std.proofs.lemmas.List.FromFn.{get_or-map-range_with_len, length-map-range_with_len, map-range_with_len_more}
use base.Logic.{SProp, ent, sep, emp}
use base.Fml.{Fml}
use seplogic.Ra.Ura.{Ura}
use types.Logic.{Logic, sem}
use types.Kit.{◌$◌, ◌∵◌, !, qed, done}
use denote.Steps.{nothing}
use Rattle.seize_table.proofs.AllEntries.{all_twice, first_more}
use Rattle.seize_table.proofs.Entries.{filled_twice}
use Rattle.seize_table.specs.Filled.{all_filled}
use Rattle.seize_book.specs.Tokens.{Name, label_at, lies, slot_labels, all_lie}

-- so many labels, of which each is that of its slot
pub labels_long : (n : Name) (m : ℕ) → length (slot_labels n m) ≡ m
labels_long n m = length-map-range_with_len (label_at n) 0 m

pub label_of_slot : (n : Name) (m s : ℕ) → s < m → get_or (slot_labels n m) s 0 ≡ label_at n s
label_of_slot n m s less = get_or-map-range_with_len (label_at n) 0 m s s 0 less (omega arith)

labels_more : (n : Name) (m : ℕ) → slot_labels n (suc m) ≡ slot_labels n m ++ label_at n m ∷ []
labels_more n m = let more : suc m ≡ m + 1 = omega arith in ap (slot_labels n) more ∙ map-range_with_len_more (label_at n) 0 m m (omega arith)

module _ {M : Type 1} {𝓤 : Ura M} (𝓛 : Logic 𝓤) where
  abbrev Pr : Type 2
  Pr = SProp 𝓤

  abbrev ◌⊢◌ : Pr → Pr → Type 1
  P ⊢ Q = ent 𝓤 P Q

  abbrev ◌∗◌ : Pr → Pr → Pr
  P ∗ Q = sep 𝓤 P Q

  abbrev ⟦◌⟧ : Fml → Pr
  ⟦ P ⟧ = sem 𝓛 P

  infix 26 ◌⊢◌
  infixr 35 ◌∗◌
  module _ (n : Name) where
    pub lies_twice : (s : ℕ) → ⟦ lies n s ⟧ ⊢ ⟦ lies n s ⟧ ∗ ⟦ lies n s ⟧
    lies_twice s = filled_twice 𝓛 n.table s (label_at n s)

    pub all_lie_twice : (m : ℕ) → ⟦ all_lie n m ⟧ ⊢ ⟦ all_lie n m ⟧ ∗ ⟦ all_lie n m ⟧
    all_lie_twice m = all_twice 𝓛 n.table 0 (slot_labels n m)

    pub none_lie : emp 𝓤 ⊢ ⟦ all_lie n 0 ⟧
    none_lie = qed 𝓛 [] ∵ nothing ! $ done !

    pub one_more : (m : ℕ) → ⟦ all_lie n m ⟧ ∗ ⟦ lies n m ⟧ ⊢ ⟦ all_lie n (suc m) ⟧
    one_more m = subst (λ (labels : List ℕ). ⟦ all_lie n m ⟧ ∗ ⟦ lies n m ⟧ ⊢ ⟦ all_filled n.table labels ⟧) (sym (labels_more n m))
        (first_more 𝓛 n.table (slot_labels n m) (label_at n m) m (sym (labels_long n m)))
