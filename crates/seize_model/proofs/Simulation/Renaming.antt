-- A state of the machine that shows one of waiting sets shows it under every naming that agrees on the numbers that stand in it.
use Rattle.std.proofs.Common.{◌≡◌, ℕ, zero, suc, ◌+◌, ◌<◌, ◌≤◌, List, [], ◌∷◌, map, get_or, Option, Some, None, option_to_list, refl, ◌∙◌, ap, arith}
use Rattle.seize_machine.specs.Machine.State as machine
use Rattle.seize_model.specs.Waiting.State as waiting
use Rattle.seize_model.specs.Agreement.Shows.{ShowsValues, held_value, ShowsState}
use Rattle.seize_model.proofs.Simulation.Views.{contents, near_of, shows_by}

-- a number past each of these
abbrev pub past : List ℕ → ℕ
past [] = 0
past (n ∷ ns) = suc (n + past ns)

-- and past each of those that elements of a list hold
abbrev pub past_by : {X : Type 0} → (X → List ℕ) → List X → ℕ
past_by f [] = 0
past_by f (x ∷ xs) = past (f x) + past_by f xs

-- past each number that stands in a slot, a retired batch or a link, or that was left
abbrev pub past_state : machine.State → ℕ
past_state ms = past_by (λ (slot : machine.Slot). slot.batch) ms.slots + past_by (λ (b : machine.Batch). b.values) ms.batches + past_by (λ (x : Option ℕ). option_to_list x) ms.links + past ms.rest

-- what an element holds is below what is past all
past_at : {X : Type 0} (f : X → List ℕ) (xs : List X) (i : ℕ) (d : X) → f d ≡ [] → past (f (get_or xs i d)) ≤ past_by f xs
past_at f [] i d e = let none : past (f d) ≡ 0 = ap past e in omega arith
past_at f (x ∷ xs) zero d e = omega arith
past_at f (x ∷ xs) (suc i) d e = let rest : past (f (get_or xs i d)) ≤ past_by f xs = past_at f xs i d e in omega arith

-- the two namings agree below a bound
abbrev pub AgreeBelow : {T : Type 0} → ℕ → (ℕ → T) → (ℕ → T) → Type 0
AgreeBelow bound of other = (n : ℕ) → n < bound → other n ≡ of n

-- numbers below the bound stand for the same
pub map_same : {T : Type 0} (bound : ℕ) (of other : ℕ → T) (ns : List ℕ) → AgreeBelow bound of other → past ns ≤ bound → map other ns ≡ map of ns
map_same bound of other [] same h = refl
map_same bound of other (n ∷ ns) same h = ap (λ x. x ∷ map other ns) (same n (omega arith)) ∙ ap (λ l. of n ∷ l) (map_same bound of other ns same (omega arith))

pub stand_same : {T R : Type 0} (bound : ℕ) (of other : ℕ → T) (ns : List ℕ) (values : List (T × R)) → AgreeBelow bound of other → past ns ≤ bound → ShowsValues of ns values → ShowsValues other ns values
stand_same bound of other ns values same h e = map_same bound of other ns same h ∙ e

held_same : {T : Type 0} (bound : ℕ) (of other : ℕ → T) (links : List (Option ℕ)) → AgreeBelow bound of other → past_by (λ (x : Option ℕ). option_to_list x) links ≤ bound → map (held_value other) links ≡ map (held_value of) links
held_same bound of other [] same h = refl
held_same bound of other (None ∷ links) same h = ap (λ l. None ∷ l) (held_same bound of other links same (omega arith))
held_same bound of other (Some n ∷ links) same h =
    ap (λ x. Some x ∷ map (held_value other) links) (same n (omega arith)) ∙ ap (λ l. Some (of n) ∷ l) (held_same bound of other links same (omega arith))

pub shows_same : {T R : Type 0} (bound : ℕ) (of other : ℕ → T) (st : waiting.ModelState T R) (ms : machine.State) → AgreeBelow bound of other → past_state ms ≤ bound → ShowsState T R of st ms → ShowsState T R other st ms
shows_same {T} {R} bound of other st ms same h shows =
    shows_by other (contents of) st ms (near_of of st ms shows) batches values (held_same bound of other ms.links same (omega arith) ∙ shows.links) (stand_same bound of other ms.rest st.rest same (omega arith) shows.rest)
  where
    batches : (s : ℕ) → ShowsValues other (machine.slot_at ms s).batch (waiting.model_slot st s).batch
    batches s =
        let low : past (machine.slot_at ms s).batch ≤ past_by (λ (slot : machine.Slot). slot.batch) ms.slots
        = past_at (λ (slot : machine.Slot). slot.batch) ms.slots s machine.no_slot refl in
        stand_same bound of other (machine.slot_at ms s).batch (waiting.model_slot st s).batch same (omega arith) (shows.slot s).batch

    values : (b : ℕ) → ShowsValues other (machine.batch_at ms b).values (waiting.retired_at st b)
    values b =
        let low : past (machine.batch_at ms b).values ≤ past_by (λ (x : machine.Batch). x.values) ms.batches
        = past_at (λ (x : machine.Batch). x.values) ms.batches b machine.no_batch refl in
        stand_same bound of other (machine.batch_at ms b).values (waiting.retired_at st b) same (omega arith) (shows.values b)
