-- Cells that are made one by one are all of one family.
use Rattle.std.proofs.Common.{◌≡◌, ℕ, zero, suc, ◌+◌, ◌<◌, List, sym, subst, arith, slice_index_or}
use denote.Param.Members.{Mut, Called}
use Rattle.core.specs.Array.{IsFromFnResult, IsFromFnResultFrom}

module _ {F B : Type 0} (g : Mut F (ℕ × Unit {0}) B) (P : F → Type 0) (R : B → Type 0) (step : (f q : F) (i : ℕ) (y : B) → P f → Called g f (i, tt) y q → R y × P q) where
  each_at : (n i : ℕ) (f : F) (ys : List B) → P f → IsFromFnResultFrom g f ys i n → (k : ℕ) (d : B) → k < n → R (slice_index_or ys (i + k) d)
  each_at zero i f ys p each k d less = absurd (omega arith)
  each_at (suc n) i f ys p each zero d less = let made = step f each.0 i each.1 p each.3 in
      let here : i ≡ i + 0 = omega arith in subst (λ (j : ℕ). R (slice_index_or ys j d)) here (subst R (sym (each.2.1 d)) made.0)
  each_at (suc n) i f ys p each (suc k) d less = let made = step f each.0 i each.1 p each.3 in
      let there : i + 1 + k ≡ i + suc k = omega arith in subst (λ (j : ℕ). R (slice_index_or ys j d)) there (each_at n (i + 1) each.0 ys made.1 each.4 k d (omega arith))

  pub all_made : (f : F) (ys : List B) (n : ℕ) → P f → IsFromFnResult g f ys n → (k : ℕ) (d : B) → k < n → R (slice_index_or ys k d)
  all_made f ys n p made k d less = let at : 0 + k ≡ k = omega arith in subst (λ (j : ℕ). R (slice_index_or ys j d)) at (each_at n 0 f ys p made.each k d less)
