-- A number of what is lent with a value stands for one weight at most, since codes are of one value each.
--     same_value     values whose codes have one number are one;  weighs_once     a number stands for one weight
use Rattle.std.proofs.Common.{◌≡◌, ℕ, zero, suc, sym, ap, ◌∙◌, arith}
use base.Stored.{Coded}
use Rattle.seize_book.specs.Loans.{loan_number}
use Rattle.seize_words.proofs.Contents.{same_code}
use Rattle.seize_parts.specs.Enders.{Weighs}

pub same_value : {T : Type 0} (coded : Coded T) (x y : T) → loan_number (coded.code x) ≡ loan_number (coded.code y) → x ≡ y
same_value coded x y e = coded.inj x y (same_code _ _ (cc))

same_less : (m n : ℕ) → suc m ≡ suc n → m ≡ n
same_less m n e = omega (arith, e)

pub weighs_once : {T : Type 0} (coded : Coded T) (weight : T → ℕ) (l m n : ℕ)
    → Weighs coded.code weight l m → Weighs coded.code weight l n → m ≡ n
weighs_once coded weight zero m n a b = a ∙ sym b
weighs_once coded weight (suc l) m n a b =
    same_less m n (sym a.2 ∙ ap weight (same_value coded a.0 b.0 (a.1 ∙ sym b.1)) ∙ b.2)
