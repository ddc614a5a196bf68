-- Where a number leads can be had twice, and one number leads to one label, and to one content. Assumes `Logic`.
use Rattle.std.proofs.Common.{◌≡◌, ℕ, List, [], ◌∷◌, ap, sym, ◌∙◌, refl}
use seplogic.Ra.Ura.{Ura}
use base.Logic.{ent, sep}
use types.Logic.{Logic, sem}
use types.Kit.{‵, raw, ◌⊛◌, ◌$◌, ◌∵◌, !, qed, by, move, split, fpick, fpack, use1, use2, rewrite, done}
use contract.Monad.{fact, fact_i}
use denote.RawPtr.{Ptr}
use denote.Steps.{heard}
use Rattle.seize_table.specs.Pairs.{left_of, right_of}
use Rattle.seize_store.specs.RowTokens.{IsInRow, IsRowIn, Way, chunk_in, content_in, entry_of, known_row, label_in, leads_where, lends_by, tells}
use Rattle.seize_store.proofs.Tokens.{row_twice, known_agree}

module _ {M : Type 1} {𝓤 : Ura M} (𝓛 : Logic 𝓤) (store : List ℕ) (n : ℕ) where
  -- what a token of the number's row shows
  known_shows : (φ : ℕ → Type 0) (row : ℕ) (chunks : List (Ptr × ℕ)) → IsRowIn store row chunks → IsInRow n row → φ (chunk_in chunks (entry_of n)).1
      → ent 𝓤 (sem 𝓛 (known_row store row chunks)) (sem 𝓛 (leads_where store n φ))
  known_shows φ row chunks made placed tagged =
      qed 𝓛 (‵ (known_row store row chunks) ∷ []) ∵ fpack ! (Way store n φ) (λ way. known_row store way.row way.chunks) (record { row = row; chunks = chunks; made = made; placed = placed; tagged = tagged }) $ done !

  twice : (φ : ℕ → Type 0) → ent 𝓤 (sem 𝓛 (leads_where store n φ)) (sep 𝓤 (sem 𝓛 (leads_where store n φ)) (sem 𝓛 (leads_where store n φ)))
  twice φ = qed 𝓛 (‵ (leads_where store n φ) ∷ []) ∵ fpick ! (λ way. let K = known_row store way.row way.chunks in use1 𝓛 (‵ K ⊛ ‵ K) (row_twice 𝓛 store way.row way.chunks) $ split ! $
      fpack ! (Way store n φ) (λ w. known_row store w.row w.chunks) way $ move ! (1 ∷ 0 ∷ []) $ fpack ! (Way store n φ) (λ w. known_row store w.row w.chunks) way $ done !)

  -- two of one number are of one tag
  module _ {A : Type 0} (of : ℕ → A) (k j : A) where
    abbrev Says : A → ℕ → Type 0
    Says m tag = of tag ≡ m

    agree : ent 𝓤 (sep 𝓤 (sem 𝓛 (leads_where store n (Says k))) (sem 𝓛 (leads_where store n (Says j)))) (fact 𝓤 (k ≡ j))
    agree = qed 𝓛 (‵ (leads_where store n (Says k)) ∷ ‵ (leads_where store n (Says j)) ∷ []) ∵ fpick ! (λ v. move ! (1 ∷ 0 ∷ []) $ fpick ! (λ w. move ! (1 ∷ 0 ∷ []) $
        let row : v.row ≡ w.row = sym v.placed.lies ∙ w.placed.lies in let Same : Type 0 = v.chunks ≡ w.chunks in
        rewrite ! 0 (λ (r : ℕ). ‵ (known_row store r v.chunks)) row refl $ use2 𝓛 (raw (fact 𝓤 Same)) (known_agree 𝓛 store w.row v.chunks w.chunks) $ heard ! Same (λ same. by ! (fact_i 𝓤 (k ≡ j) _
        (sym v.tagged ∙ (ap (λ (ps : List (Ptr × ℕ)). of (chunk_in ps (entry_of n)).1) same ∙ w.tagged))))))

  pub lends_twice : (γ : ℕ) → ent 𝓤 (sem 𝓛 (lends_by store n γ)) (sep 𝓤 (sem 𝓛 (lends_by store n γ)) (sem 𝓛 (lends_by store n γ)))
  lends_twice γ = twice (λ tag. right_of tag ≡ γ)

  pub known_tells : (row : ℕ) (chunks : List (Ptr × ℕ)) → IsRowIn store row chunks → IsInRow n row
      → ent 𝓤 (sem 𝓛 (known_row store row chunks)) (sem 𝓛 (tells store n (label_in chunks (entry_of n), content_in chunks (entry_of n))))
  known_tells row chunks made placed =
      known_shows (λ tag. (left_of tag, right_of tag) ≡ (label_in chunks (entry_of n), content_in chunks (entry_of n))) row chunks made placed refl

  pub tells_twice : (t : ℕ × ℕ) → ent 𝓤 (sem 𝓛 (tells store n t)) (sep 𝓤 (sem 𝓛 (tells store n t)) (sem 𝓛 (tells store n t)))
  tells_twice t = twice (λ tag. (left_of tag, right_of tag) ≡ t)

  pub tells_agree : (t u : ℕ × ℕ) → ent 𝓤 (sep 𝓤 (sem 𝓛 (tells store n t)) (sem 𝓛 (tells store n u))) (fact 𝓤 (t ≡ u))
  tells_agree = agree (λ tag. (left_of tag, right_of tag))
