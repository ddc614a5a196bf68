-- Each value that was named is one of those with which something is lent whose code may be.
use Rattle.std.proofs.Common.{◌≡◌, ℕ, zero, suc, Bool, true, false, ◌||◌, ◌==◌, List, [], ◌∷◌, map, refl, sym, ◌∙◌, ap, subst}
use base.Stored.{Gv}
use Rattle.seize_machine.specs.Machine.State.{has}
use Rattle.seize_machine.proofs.Facts.{eq_true}
use Rattle.seize_book.specs.Loans.{AllCarryOne, CarriesOne, loan_number, loan_of}
use Rattle.seize_book.specs.Permits.{AllAre, IsCodeOf}
use Rattle.seize_words.specs.Chunks.{IsLentAs}

permitted : (holds : Gv → Type 0) (vs : List ℕ) (v : ℕ) → has v vs ≡ true → CarriesOne v → AllAre holds (map loan_of vs) → IsCodeOf holds (loan_of v)
permitted holds [] v named lent all = absurd (cc)
permitted holds (u ∷ vs) v named lent all = go (u == v) refl (loan_of u) refl all named (permitted holds vs v)
  where
    go : (b : Bool) → (u == v) ≡ b → (l : ℕ) → loan_of u ≡ l → AllAre holds (l ∷ map loan_of vs) → (b || has v vs) ≡ true
        → (has v vs ≡ true → CarriesOne v → AllAre holds (map loan_of vs) → IsCodeOf holds (loan_of v)) → IsCodeOf holds (loan_of v)
    go true e zero is all h others = absurd (lent (ap loan_of (sym (eq_true u v e)) ∙ is))
    go true e (suc l) is all h others = subst (IsCodeOf holds) (sym is ∙ ap loan_of (eq_true u v e)) all.0
    go false e zero is all h others = others h lent all
    go false e (suc l) is all h others = others h lent all.1

pub have_codes : {T : Type 0} (code : T → Gv) (Holds : T → Type 0) (vs ls : List ℕ) → AllCarryOne vs → ls ≡ map loan_of vs
    → AllAre (λ g. (x : T) × (code x ≡ g) × Holds x) ls → (v : ℕ) → has v vs ≡ true → (x : T) × IsLentAs v (code x)
have_codes {T} code Holds vs ls lent are all v named =
    let is = permitted (λ g. (x : T) × (code x ≡ g) × Holds x) vs v named (lent v named) (subst (AllAre (λ g. (x : T) × (code x ≡ g) × Holds x)) are all) in
    (is.2.0, sym is.1 ∙ ap loan_number (sym is.2.1))
