-- What a rule of links allows is a pair of codes that may be permitted.
use Rattle.std.proofs.Common.{◌≡◌, ℕ, suc, Option, inl, inr, refl, ◌∙◌, arith}
use base.Stored.{Gv}
use Rattle.seize_book.specs.Pairs.{Admits, IsPairOf, content_number, pair_code}
use Rattle.seize_parts.specs.Rules.{HoldsOf, KeepsNumbers, number_if}
use Rattle.seize_parts.proofs.Ruled.{number_said}

module _ {T : Type 0} (code : T → Gv) (keeps : ℕ → Option T → Option T → Type 0) (l : ℕ) (o : Option ℕ) where
  pub pair_of_any : ((x : Option T) → HoldsOf code (keeps l x) o) → IsPairOf (KeepsNumbers code keeps) (pair_code l 0 (content_number o))
  pair_of_any rule = (l, 0, content_number o, refl, λ a covers x is. let y = rule x in (y.0, number_said code o y.0 y.1, y.2))

  pub pair_of_one : (current : Option ℕ) → ((x : Option T) → content_number current ≡ number_if code x → HoldsOf code (keeps l x) o)
      → IsPairOf (KeepsNumbers code keeps) (pair_code l (suc (content_number current)) (content_number o))
  pair_of_one current rule = (l, suc (content_number current), content_number o, refl, goes)
    where
      goes : (a : ℕ) → Admits (suc (content_number current)) a → KeepsNumbers code keeps l a (content_number o)
      goes a (inl none) x is = absurd (omega (arith, none))
      goes a (inr same) x is = let c : content_number current ≡ a = omega (arith, same) in let y = rule x (c ∙ is) in (y.0, number_said code o y.0 y.1, y.2)
