-- Lists that a comparison of their elements found equal, and a list that begins with another.
use Rattle.std.proofs.Common.{◌≡◌, ℕ, Bool, true, false, List, [], ◌∷◌, ◌++◌, ◌&&◌, length, take, drop, refl, sym, ◌∙◌}
use Rattle.std.proofs.Math.Path.{ap₂}
use Rattle.std.specs.Prelude.{nat_eq}
use Rattle.std.specs.Cmp.Lexicographic.{pointwise}
use Rattle.std.proofs.lemmas.Bool.{eqb-true}
use Rattle.std.proofs.lemmas.List.{take-append-drop}

both : (a b : Bool) → (a && b) ≡ true → (a ≡ true) × (b ≡ true)
both true b e = (refl, e)
both false b e = absurd cc

same : (xs ys : List ℕ) → pointwise nat_eq xs ys ≡ true → xs ≡ ys
same [] [] e = refl
same [] (y ∷ ys) e = absurd cc
same (x ∷ xs) [] e = absurd cc
same (x ∷ xs) (y ∷ ys) e = let (first, others) = both (nat_eq x y) (pointwise nat_eq xs ys) e in ap₂ (λ a b. a ∷ b) (eqb-true x y first) (same xs ys others)

pub begins : (prefix xs rest : List ℕ) → pointwise nat_eq (take (length prefix) xs) prefix ≡ true → rest ≡ drop (length prefix) xs → xs ≡ prefix ++ rest
begins prefix xs rest e r =
    sym (take-append-drop (length prefix) xs) ∙ ap₂ (λ a b. a ++ b) (same (take (length prefix) xs) prefix e) (sym r)
