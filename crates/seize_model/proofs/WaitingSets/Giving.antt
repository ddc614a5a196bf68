-- A number is given back: at once, or after a gathering, and then from the state after it.
use Rattle.std.proofs.Common.{◌≡◌, ◌≢◌, ℕ, zero, suc, ◌<◌, ◌≤◌, Bool, true, false, ◌||◌, ◌==◌, if◌then◌else◌, List, [], ◌∷◌, length, refl, sym, ◌∙◌, ap, inl, inr, arith}
use Rattle.seize_model.specs.Waiting.State.{ModelState}
use Rattle.seize_model.specs.Waiting.Attempt.{StateAndGone, with_gone}
use Rattle.seize_model.specs.Waiting.Further.{Lighter}
use Rattle.seize_model.specs.Waiting.Calls.{gathering, gathers, others_in_use, rest_and_batch, with_number_free}
use Rattle.seize_model.specs.Waiting.Laws.{EndsNow, GivingLaw}
use Rattle.seize_model.proofs.Cases.{if_no, if_yes, or_false}
use Rattle.seize_model.proofs.WaitingSets.Drain.{weighs}
use Rattle.seize_model.proofs.WaitingSets.LastEnd.{IsLone, lone_of, lone_round, no_weight, none_of, round_lighter}

-- where the number goes back at once
pub gathers_none : {T R : Type 0} (puts : R → T → List T) (weight : T → ℕ) (n : ℕ) (st : ModelState T R) (s : ℕ) → (others_in_use st s || (length (rest_and_batch st s) == 0)) ≡ true → gathers puts weight n st s ≡ (st, [])
gathers_none puts weight zero st s ends = refl
gathers_none puts weight (suc n) st s ends = if_yes _ _ _ ends

ends_so : {T R : Type 0} (st : ModelState T R) (s : ℕ) → EndsNow st s → (others_in_use st s || (length (rest_and_batch st s) == 0)) ≡ true
ends_so st s (inl others) = ap (λ (t : Bool). t || (length (rest_and_batch st s) == 0)) others
ends_so {T} {R} st s (inr none) = ap (λ (l : List (T × R)). others_in_use st s || (length l == 0)) none ∙ or_yes (others_in_use st s)
  where
    or_yes : (b : Bool) → (b || true) ≡ true
    or_yes true = refl
    or_yes false = refl

some_left : {X : Type 0} (l : List X) → l ≢ [] → (length l == 0) ≡ false
some_left [] some = absurd (some refl)
some_left (x ∷ l) some = grind arith

if_same : {X : Type 0} (b : Bool) (z x y : X) → (b ≡ false → x ≡ y) → (if b then z else x) ≡ (if b then z else y)
if_same true z x y same = refl
if_same false z x y same = same refl

-- as many rounds as what is left weighs are enough
enough : {T R : Type 0} (puts : R → T → List T) (weight : T → ℕ) → Lighter puts weight → (m n : ℕ) (st : ModelState T R) (s : ℕ) → IsLone T R s st → weighs weight (rest_and_batch st s) ≤ m → weighs weight (rest_and_batch st s) ≤ n
    → gathers puts weight m st s ≡ gathers puts weight n st s
enough puts weight lighter zero n st s lone few more =
    sym (gathers_none puts weight n st s (ends_so st s (inr (none_of (rest_and_batch st s) (no_weight puts weight lighter (rest_and_batch st s) few)))))
enough puts weight lighter (suc m) zero st s lone few more =
    gathers_none puts weight (suc m) st s (ends_so st s (inr (none_of (rest_and_batch st s) (no_weight puts weight lighter (rest_and_batch st s) more))))
enough {T} {R} puts weight lighter (suc m) (suc n) st s lone few more =
    if_same (others_in_use st s || (length (rest_and_batch st s) == 0)) (st, []) (with_gone (gathering puts weight st s).1 (gathers puts weight m (gathering puts weight st s).0 s)) (with_gone (gathering puts weight st s).1 (gathers puts weight n (gathering puts weight st s).0 s)) (λ goes.
    let left : (length (rest_and_batch st s) == 0) ≡ false = (or_false (others_in_use st s) (length (rest_and_batch st s) == 0) goes).1 in
    let less : weighs weight (rest_and_batch (gathering puts weight st s).0 s) < weighs weight (rest_and_batch st s) = round_lighter puts weight lighter st s lone left in
    ap (λ (o : StateAndGone T R). with_gone (gathering puts weight st s).1 o)
    (enough puts weight lighter m n (gathering puts weight st s).0 s (lone_round puts weight lighter st s lone left).0.lone (omega (arith, few, less)) (omega (arith, more, less))))

pub giving : {T R : Type 0} (puts : R → T → List T) (weight : T → ℕ) → Lighter puts weight → GivingLaw {T = T} {R = R} puts weight
giving {T} {R} puts weight lighter st s = (
  λ ends. ap given (gathers_none puts weight (weighs weight (rest_and_batch st s)) st s (ends_so st s ends)),
  λ used off free inactive goes.
      let lone : IsLone T R s st = lone_of st s (used, off) goes.0 free inactive in
      let left : (length (rest_and_batch st s) == 0) ≡ false = some_left (rest_and_batch st s) goes.1 in
      let o : StateAndGone T R = gathering puts weight st s in
      let n : ℕ = weighs weight (rest_and_batch st s) in
      let less : weighs weight (rest_and_batch o.0 s) < weighs weight (rest_and_batch st s) = round_lighter puts weight lighter st s lone left in
      let then_lone : IsLone T R s (gathering puts weight st s).0 = (lone_round puts weight lighter st s lone left).0.lone in (
        ap given
            (enough puts weight lighter n (suc n) st s lone (omega arith) (omega arith)
            ∙ if_no _ _ _ ((λ i. goes.0 i || left i))
            ∙ ap (λ (p : StateAndGone T R). with_gone o.1 p) (enough puts weight lighter n (weighs weight (rest_and_batch o.0 s)) o.0 s then_lone (omega (arith, less)) (omega arith))),
        less,
      ),
)
  where
    given : StateAndGone T R → StateAndGone T R
    given o = (with_number_free o.0 s, o.1)
