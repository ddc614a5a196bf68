-- What a reclaimer is given, and what it put.
use Rattle.std.proofs.Common.{◌≡◌, ℕ, List, [], ◌∷◌, ◌++◌, sym, ap, subst, ◌∙◌, append_assoc}
use base.Stored.{Coded, Gv}
use Rattle.seize_book.specs.Loans.{loan_number}
use Rattle.seize_book.specs.Permits.{AllAre}
use Rattle.seize_calls.specs.Handing.{Had}
use Rattle.seize_book.specs.Tokens.{Name}
use Rattle.seize_words.specs.Chunks.{IsLentAs}
use Rattle.seize_parts.specs.Furthers.{HasPut, Joins}
use Rattle.seize_alone.specs.Gone.{AreNamesOf}
use Rattle.seize_parts.specs.declared.reclaim.further.Further.{Further}
use Rattle.seize_parts.specs.Enders.{IsEnderIn}
use Rattle.seize_alone.specs.Gone.{PutAs}
use Rattle.seize_parts.specs.declared.ender.Ender.{Ender}
use Rattle.seize_parts.specs.Lighter.{same_value}

-- what holds of the value whose code the permit is for
pub given : {T : Type 0} (coded : Coded T) (Holds : T → Type 0) (value : T) (ls : List ℕ) → ls ≡ loan_number (coded.code value) ∷ []
    → AllAre (λ g. (x : T) × (coded.code x ≡ g) × Holds x) ls → Holds value
given {T} coded Holds value ls is all =
    let one = (subst (AllAre (λ g. (x : T) × (coded.code x ≡ g) × Holds x)) is all).0 in let x = one.2.0 in
    subst Holds (same_value coded x value (ap loan_number one.2.1 ∙ one.1)) one.2.2

-- one value more was had
pub put_more : {T : Type 0} (code : T → Gv) (puts : ℕ → T → List T) (a b : Had) → PutAs code puts a → PutAs code puts b → PutAs code puts (a ++ b)
put_more code puts [] b one two = two
put_more code puts (x ∷ a) b one two = (one.0, put_more code puts a b one.1 two)

-- a reclaimer of a slot's calls that had nothing yet
pub serves_new : {T R : Type 0} (code : T → Gv) (puts : ℕ → T → List T) (n : Name) (ender ender' : Ender T R) (had : Had) → (had ≡ []) × (ender' ≡ ender) → IsEnderIn n ender
    → IsEnderIn n ender' × PutAs code puts had
serves_new code puts n ender ender' had new is = (subst (IsEnderIn n) (sym new.1) is, subst (PutAs code puts) (sym new.0) tt)

-- one block more has a name
pub names_more : {T : Type 0} (code : T → Gv) (vs : List ℕ) (xs : List T) (v : ℕ) (x : T) → AreNamesOf code vs xs → IsLentAs v (code x) → AreNamesOf code (vs ++ v ∷ []) (xs ++ x ∷ [])
names_more code [] [] v x names lent = (lent, tt)
names_more code (w ∷ vs) (y ∷ xs) v x names lent = (names.0, names_more code vs xs v x names.1 lent)
names_more code [] (y ∷ xs) v x names lent = absurd names
names_more code (w ∷ vs) [] v x names lent = absurd names

-- what is put, one after the other
pub puts_then : {T R : Type 0} (code : T → Gv) (a b c : Further T R) (xs ys : List T) → Joins code a b xs → Joins code b c ys → Joins code a c (xs ++ ys)
puts_then code a b c xs ys one two =
    (two.0 ∙ one.0, two.1 ∙ one.1, λ before names. subst (HasPut code c) (append_assoc before xs ys) (two.2 (before ++ xs) (one.2 before names)))
