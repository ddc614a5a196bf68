-- What is known of a table's first entries: it can be had twice, has that of each entry, and takes one more. Assumes `Logic`.
use Rattle.std.proofs.Common.{zero, suc, ◌+◌, ◌<◌, length, get_or, arith}
use Rattle.seize_table.proofs.Kit.{◌≡◌, ℕ, List, [], ◌∷◌, ◌++◌, sym, subst, Ura, ent, sep, Fml, ftrue, fsep, Logic, sem, ‵, ◌⊛◌, ◌$◌, ◌∵◌, !, qed, by, move, keep, split, fsplit, fjoin, use1, use2, done, RattleType, nothing}
use Rattle.seize_table.specs.Filled.{filled_at, all_filled, all_from}
use Rattle.seize_table.specs.contracts.tls.all_filled.AllFilled as all_filled_row
use Rattle.seize_table.proofs.Entries.{filled_twice}

abbrev pub AllFilled : RattleType
AllFilled = all_filled_row.the_row

module _ {M : Type 1} {𝓤 : Ura M} (𝓛 : Logic 𝓤) where
  module _ (table : List ℕ) where
    pub all_twice : (from : ℕ) (labels : List ℕ) → ent 𝓤 (sem 𝓛 (all_from table from labels)) (sep 𝓤 (sem 𝓛 (all_from table from labels)) (sem 𝓛 (all_from table from labels)))
    all_twice from [] = qed 𝓛 (‵ ftrue ∷ []) ∵ nothing ! $ done !
    all_twice from (l ∷ ls) = let F : Fml = filled_at table from l in let A : Fml = all_from table (suc from) ls in
        qed 𝓛 (‵ (fsep F A) ∷ []) ∵ fsplit ! $ use1 𝓛 (‵ F ⊛ ‵ F) (filled_twice 𝓛 table from l) $ split ! $ move ! (2 ∷ []) $ use1 𝓛 (‵ A ⊛ ‵ A) (all_twice (suc from) ls) $ split ! $
        move ! (2 ∷ 0 ∷ []) $ fjoin ! $ move ! (2 ∷ 1 ∷ []) $ fjoin ! $ done !

    -- that of the k-th of them
    one_of : (from : ℕ) (labels : List ℕ) (k : ℕ) → k < length labels → ent 𝓤 (sem 𝓛 (all_from table from labels)) (sem 𝓛 (filled_at table (from + k) (get_or labels k 0)))
    one_of from [] k h = absurd (omega arith)
    one_of from (l ∷ ls) zero h = let F : Fml = filled_at table from l in let e : from ≡ from + 0 = omega arith in
        subst (λ (n : ℕ). ent 𝓤 (sem 𝓛 (all_from table from (l ∷ ls))) (sem 𝓛 (filled_at table n l))) e (qed 𝓛 (‵ (fsep F (all_from table (suc from) ls)) ∷ []) ∵ fsplit ! $ keep ! (0 ∷ []) $ done !)
    one_of from (l ∷ ls) (suc k) h = let F : Fml = filled_at table from l in let A : Fml = all_from table (suc from) ls in let e : suc from + k ≡ from + suc k = omega arith in
        subst (λ (n : ℕ). ent 𝓤 (sem 𝓛 (all_from table from (l ∷ ls))) (sem 𝓛 (filled_at table n (get_or ls k 0)))) e (qed 𝓛 (‵ (fsep F A) ∷ []) ∵ fsplit ! $ move ! (1 ∷ []) $ keep ! (0 ∷ []) $ by ! (one_of (suc from) ls k (omega arith)))

    -- one more
    one_more : (from : ℕ) (labels : List ℕ) (label n : ℕ) → n ≡ from + length labels → ent 𝓤 (sep 𝓤 (sem 𝓛 (all_from table from labels)) (sem 𝓛 (filled_at table n label))) (sem 𝓛 (all_from table from (labels ++ label ∷ [])))
    one_more from [] label n e = let here : n ≡ from = omega arith in
        subst (λ (k : ℕ). ent 𝓤 (sep 𝓤 (sem 𝓛 (all_from table from [])) (sem 𝓛 (filled_at table k label))) (sem 𝓛 (fsep (filled_at table from label) ftrue))) (sym here)
        (qed 𝓛 (‵ ftrue ∷ ‵ (filled_at table from label) ∷ []) ∵ move ! (1 ∷ 0 ∷ []) $ fjoin ! $ done !)
    one_more from (l ∷ ls) label n e = let F : Fml = filled_at table from l in let A : Fml = all_from table (suc from) ls in let G : Fml = filled_at table n label in
        qed 𝓛 (‵ (fsep F A) ∷ ‵ G ∷ []) ∵ fsplit ! $ move ! (1 ∷ 2 ∷ []) $ use2 𝓛 (‵ (all_from table (suc from) (ls ++ label ∷ []))) (one_more (suc from) ls label n (omega arith)) $ move ! (1 ∷ 0 ∷ []) $ fjoin ! $ done !

    pub first_of : (labels : List ℕ) (k : ℕ) → k < length labels → ent 𝓤 (sem 𝓛 (all_filled table labels)) (sem 𝓛 (filled_at table k (get_or labels k 0)))
    first_of labels k h = let e : 0 + k ≡ k = omega arith in subst (λ (n : ℕ). ent 𝓤 (sem 𝓛 (all_filled table labels)) (sem 𝓛 (filled_at table n (get_or labels k 0)))) e (one_of 0 labels k h)

    pub first_more : (labels : List ℕ) (label n : ℕ) → n ≡ length labels → ent 𝓤 (sep 𝓤 (sem 𝓛 (all_filled table labels)) (sem 𝓛 (filled_at table n label))) (sem 𝓛 (all_filled table (labels ++ label ∷ [])))
    first_more labels label n e = one_more 0 labels label n (omega arith)
