-- What a collector's reclaimer puts weighs less than the value that it was given.
use Rattle.std.proofs.Common.{◌≡◌, ℕ, zero, suc, ◌+◌, ◌-◌, ◌<◌, map, sum, List, [], ◌∷◌, refl, sym, ap, subst, ◌∙◌, arith}
use Rattle.std.specs.List.{sum_by}
use Rattle.std.proofs.lemmas.List.Sums.{sum_by-cons}
use base.Stored.{Gv}
use Rattle.seize_book.specs.Loans.{loan_number, loan_of}
use Rattle.seize_book.specs.Permits.{AllAre}
use Rattle.seize_calls.specs.Handing.{Had}
use Rattle.seize_calls.specs.Weights.{AreLight, AreWeighed, Weigh}
use Rattle.seize_parts.specs.Enders.{Weighs}
use Rattle.seize_alone.specs.Gone.{PutAs}
use Rattle.seize_alone.specs.Gone.{AreNamesOf}

module _ {T : Type 0} (code : T → Gv) (weight : T → ℕ) (puts : ℕ → T → List T) (lighter : (kind : ℕ) (x : T) → sum (map weight (puts kind x)) < weight x) where
  less_one : (x : T) → weight x ≡ suc (weight x - 1)
  less_one x = omega (arith, lighter 0 x)

  weighs_so : (x : T) (l : ℕ) → l ≡ loan_number (code x) → Weighs code weight l (weight x - 1)
  weighs_so x l is = subst (λ (k : ℕ). Weighs code weight k (weight x - 1)) (sym is) (x, refl, less_one x)

  names_weigh : (vs : List ℕ) (xs : List T) → AreNamesOf code vs xs
      → (ms : List ℕ) × Weigh (Weighs code weight) (map loan_of vs) ms × (sum_by suc ms ≡ sum (map weight xs))
  names_weigh [] [] names = ([], tt, refl)
  names_weigh (v ∷ vs) (x ∷ xs) names =
      let rest = names_weigh vs xs names.1 in let one = less_one x in let first : sum_by suc ((weight x - 1) ∷ rest.0) ≡ suc (weight x - 1) + sum_by suc rest.0 = sum_by-cons suc (weight x - 1) rest.0 in
      let all : sum (map weight (x ∷ xs)) ≡ weight x + sum (map weight xs) = sum_by-cons (λ (n : ℕ). n) (weight x) (map weight xs) in
      ((weight x - 1) ∷ rest.0, (weighs_so x (loan_of v) names.0, rest.1), omega (arith, rest.2, one, first, all))
  names_weigh [] (x ∷ xs) names = absurd names
  names_weigh (v ∷ vs) [] names = absurd names

  pub all_light : (had : Had) → PutAs code puts had → AreLight (Weighs code weight) had
  all_light [] put = tt
  all_light (one ∷ had) put =
      let x = put.0.0 in let names = names_weigh one.2 (puts one.0 x) put.0.2 in let less = lighter one.0 x in let its = less_one x in
      ((weight x - 1, names.0, weighs_so x (loan_number one.1) (ap loan_number (sym put.0.1)), names.1, omega (arith, names.2, less, its)), all_light had put.1)

  pub all_weighed : (Holds : T → Type 0) (ls : List ℕ) → AllAre (λ g. (x : T) × (code x ≡ g) × Holds x) ls → AreWeighed (Weighs code weight) ls
  all_weighed Holds [] all = ([], tt)
  all_weighed Holds (zero ∷ ls) all = let rest = all_weighed Holds ls all in (0 ∷ rest.0, (refl, rest.1))
  all_weighed Holds (suc l ∷ ls) all =
      let rest = all_weighed Holds ls all.1 in let x = all.0.2.0 in
      ((weight x - 1) ∷ rest.0, (weighs_so x (suc l) (sym (all.0.1) ∙ ap loan_number (sym all.0.2.1)), rest.1))
