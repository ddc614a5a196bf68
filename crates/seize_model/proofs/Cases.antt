-- What holds in both cases of a test, and which case it is.
use Rattle.std.proofs.Common.{◌≢◌, ◌==◌, ◌≡◌, ◌||◌, refl, ℕ, zero, suc, ◌<◌, ◌≤◌, Bool, true, false, if◌then◌else◌, ◌⊎◌, inl, inr, arith}
use Rattle.seize_machine.proofs.Facts.{is_true, eq_true}

-- what holds of both outcomes of a test
pub either : {A : Type 0} (P : A → Type 0) (b : Bool) (x y : A) → P x → P y → P (if b then x else y)
either P true x y p q = p
either P false x y p q = q

pub if_yes : {A : Type 0} (b : Bool) (x y : A) → b ≡ true → (if b then x else y) ≡ x
if_yes true x y e = refl
if_yes false x y e = absurd (cc)

pub if_no : {A : Type 0} (b : Bool) (x y : A) → b ≡ false → (if b then x else y) ≡ y
if_no false x y e = refl
if_no true x y e = absurd (cc)

-- whether a number is below another
pub in_or_past : (s n : ℕ) → (s < n) ⊎ (n ≤ s)
in_or_past s zero = inr (omega arith)
in_or_past zero (suc n) = inl (omega arith)
in_or_past (suc s) (suc n) = elim (in_or_past s n) [ inl h ↦ inl (omega arith) | inr h ↦ inr (omega arith) ]

-- where none of two holds
pub or_false : (a b : Bool) → (a || b) ≡ false → (a ≡ false) × (b ≡ false)
or_false false false e = (refl, refl)
or_false false true e = absurd (cc)
or_false true b e = absurd (cc)

-- which of two numbers it is
pub or_same : (a b : ℕ) → (a ≡ b) ⊎ (a ≢ b)
or_same a b = elim (is_true (a == b)) [ inl t ↦ inl (eq_true a b t) | inr f ↦ inr (λ e. grind arith) ]
