-- What comes from some values by what reclaimers put: each has a number, and there are names for them all.
use Rattle.std.proofs.Common.{◌≡◌, ℕ, zero, suc, ◌+◌, ◌≤◌, false, if◌then◌else◌, nat_lt, List, [], ◌∷◌, Option, Some, None, refl, ◌∙◌, ap, arith}
use Rattle.std.specs.List.{AllByRecursion, slice_get}
use Rattle.std.proofs.lemmas.Grind.{common_steps}
use Rattle.seize_machine.specs.Machine.State.{has}
use Rattle.seize_model.specs.Waiting.Further.{put_by}
use Rattle.seize_model.proofs.Simulation.Events.{lt_yes}
use Rattle.seize_model.proofs.Simulation.Names.{Names}
use Rattle.seize_model.proofs.Simulation.Pairs.{pair_of, number_of}
use Rattle.seize_model.proofs.Simulation.Renaming.{AgreeBelow, past}
use Rattle.seize_model.proofs.Simulation.Views.{contents}
use Rattle.seize_model.proofs.Cases.{if_yes, if_no}

-- what a value puts, by its place
abbrev pub put_at : {T R : Type 0} → (R → T → List T) → Option (T × R) → ℕ → Option (T × R)
put_at puts None k = None
put_at puts (Some v) k = slice_get (put_by puts v) k

-- what comes from these roots in so many steps, by its number
abbrev pub stage : {T R : Type 0} → (R → T → List T) → (ℕ → Option (T × R)) → ℕ → ℕ → Option (T × R)
stage puts roots zero n = roots n
stage puts roots (suc steps) n = put_at puts (stage puts roots steps (pair_of n).0) (pair_of n).1

-- a value comes from the roots in some number of steps
abbrev pub Comes : {T R : Type 0} → (R → T → List T) → (ℕ → Option (T × R)) → T × R → Type 0
Comes puts roots v = (steps : ℕ) × (n : ℕ) × (stage puts roots steps n ≡ Some v)

-- what holds at each place holds of each element
pub all_at : {X : Type 0} (P : X → Type 0) (xs : List X) → ((i : ℕ) (x : X) → slice_get xs i ≡ Some x → P x) → AllByRecursion P xs
all_at P [] h = tt
all_at P (x ∷ xs) h = (h 0 x refl, all_at P xs (λ i y e. h (suc i) y e))

-- and so does each value that it puts
comes_on : {T R : Type 0} (puts : R → T → List T) (roots : ℕ → Option (T × R)) (v : T × R) → Comes puts roots v → AllByRecursion (Comes puts roots) (put_by puts v)
comes_on {T} {R} puts roots v c =
    all_at (Comes puts roots) (put_by puts v) (λ k x e.
    (suc c.0, (number_of c.1 k).0, ap (λ (p : ℕ × ℕ). put_at puts (stage puts roots c.0 p.0) p.1) (number_of c.1 k).1 ∙ ap (λ (o : Option (T × R)). put_at puts o k) c.2 ∙ e))

-- The naming: numbers below a bound are as before, and each value that comes from the roots has numbers past every bound.

-- what the value holds, or this where there is none
abbrev pub value_or : {T R : Type 0} → T → Option (T × R) → T
value_or d None = d
value_or d (Some v) = v.0

-- Past the bound a number stands for a value by the second part of its pair; the first part makes it as large as is wanted.
abbrev pub new_naming : {T R : Type 0} → (R → T → List T) → (ℕ → Option (T × R)) → ℕ → (ℕ → T) → ℕ → T
new_naming puts roots bound of n = if nat_lt n bound then of n else value_or (of n) (stage puts roots (pair_of (pair_of n).1).0 (pair_of (pair_of n).1).1)

pub new_naming_below : {T R : Type 0} (puts : R → T → List T) (roots : ℕ → Option (T × R)) (bound : ℕ) (of : ℕ → T) → AgreeBelow bound of (new_naming puts roots bound of)
new_naming_below puts roots bound of n h = if_yes (nat_lt n bound) _ _ (lt_yes n bound h)

-- a number past a list is not in it
has_past : (n : ℕ) (ns : List ℕ) → past ns ≤ n → has n ns ≡ false
has_past n [] h = refl
has_past n (m ∷ ns) h = let rest : has n ns ≡ false = has_past n ns (omega arith) in grind (arith, common_steps)

pub new_naming_names : {T R : Type 0} (puts : R → T → List T) (roots : ℕ → Option (T × R)) (bound : ℕ) (of : ℕ → T) → Names puts (contents (new_naming puts roots bound of)) (Comes puts roots)
new_naming_names {T} {R} puts roots bound of = record {
  number = λ v c named.
      let code : (n : ℕ) × (pair_of n ≡ (c.0, c.1)) × (c.0 ≤ n) = number_of c.0 c.1 in
      let far : (n : ℕ) × (pair_of n ≡ (bound + past named, code.0)) × (bound + past named ≤ n) = number_of (bound + past named) code.0 in
      let second : (pair_of far.0).1 ≡ code.0 = ap (λ (p : ℕ × ℕ). p.1) far.1 in
      let found : stage puts roots (pair_of (pair_of far.0).1).0 (pair_of (pair_of far.0).1).1 ≡ Some v
      = ap (λ (k : ℕ). stage puts roots (pair_of k).0 (pair_of k).1) second ∙ ap (λ (p : ℕ × ℕ). stage puts roots p.0 p.1) code.1 ∙ c.2 in
      (far.0, has_past far.0 named (omega arith), if_no (nat_lt far.0 bound) _ _ (lt_no far.0 bound (omega arith)) ∙ ap (λ (o : Option (T × R)). value_or (of far.0) o) found);
  closed = comes_on puts roots;
  link = λ n v e. e;
}
  where
    lt_no : (a b : ℕ) → b ≤ a → nat_lt a b ≡ false
    lt_no a b h = grind arith
