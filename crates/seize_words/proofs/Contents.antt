-- The name of a value says one content and one code: what a sight shows by a value's name is what was lent with the value.
use Rattle.std.proofs.Common.{◌≡◌, ℕ, suc, refl, sym, ◌∙◌, ap, arith}
use base.Stored.{Gv, gnil, gnum, gcons}
use Rattle.seize_table.specs.Pairs.{left_of, pair, right_of}
use Rattle.seize_table.proofs.Pairs.{left_pair, right_pair}
use Rattle.seize_book.specs.Loans.{Carries, CarriesNone, code_number}
use Rattle.seize_words.specs.Chunks.{IsLentAs}

kinds : (a b c d : ℕ) → pair a b ≡ pair c d → a ≡ c
kinds a b c d e = sym (left_pair a b) ∙ (ap left_of e ∙ left_pair c d)

parts : (a b c d : ℕ) → pair a b ≡ pair c d → b ≡ d
parts a b c d e = sym (right_pair a b) ∙ (ap right_of e ∙ right_pair c d)

pub same_code : (g h : Gv) → code_number g ≡ code_number h → g ≡ h
same_code gnil gnil e = refl
same_code (gnum n) (gnum m) e = ap gnum (parts 1 n 1 m e)
same_code (gcons a b) (gcons c d) e =
    let both = parts 2 (pair (code_number a) (code_number b)) 2 (pair (code_number c) (code_number d)) e in
    let first : a ≡ c = same_code a c (kinds (code_number a) (code_number b) (code_number c) (code_number d) both) in
    let second : b ≡ d = same_code b d (parts (code_number a) (code_number b) (code_number c) (code_number d) both) in
    ap (λ (x : Gv). gcons x b) first ∙ ap (λ (y : Gv). gcons c y) second
same_code gnil (gnum m) e = absurd (let k : 0 ≡ 1 = kinds 0 0 1 m e in omega (arith, k))
same_code gnil (gcons c d) e = absurd (let k : 0 ≡ 2 = kinds 0 0 2 (pair (code_number c) (code_number d)) e in omega (arith, k))
same_code (gnum n) gnil e = absurd (let k : 1 ≡ 0 = kinds 1 n 0 0 e in omega (arith, k))
same_code (gnum n) (gcons c d) e = absurd (let k : 1 ≡ 2 = kinds 1 n 2 (pair (code_number c) (code_number d)) e in omega (arith, k))
same_code (gcons a b) gnil e = absurd (let k : 2 ≡ 0 = kinds 2 (pair (code_number a) (code_number b)) 0 0 e in omega (arith, k))
same_code (gcons a b) (gnum m) e = absurd (let k : 2 ≡ 1 = kinds 2 (pair (code_number a) (code_number b)) 1 m e in omega (arith, k))

pub same_content : (v : ℕ) (c d : ℕ) (g h : Gv) → Carries v c g → Carries v d h → (c ≡ d) × (g ≡ h)
same_content v c d g h one two = (
  sym one.0 ∙ two.0,
  same_code g h (let e : suc (code_number g) ≡ suc (code_number h) = sym one.1 ∙ two.1 in omega (arith, e)),
)

-- and where one of some code is lent, something is
pub is_lent : (v : ℕ) (g : Gv) → IsLentAs v g → ¬ (CarriesNone v)
is_lent v g lent none = let e : suc (code_number g) ≡ 0 = sym lent ∙ none in omega (arith, e)
