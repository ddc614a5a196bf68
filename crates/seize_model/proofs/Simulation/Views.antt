-- What the two models show each other, as a coupling: of what values hold, and of values with their reclaimers.
use Rattle.std.proofs.Common.{◌≡◌, ℕ, pos, List, [], ◌∷◌, map, refl, sym, ◌∙◌, ap, arith}
use Rattle.std.proofs.lemmas.List.{map-id}
use Rattle.seize_machine.specs.Machine.State as machine
use Rattle.seize_model.specs.Waiting.State as waiting
use Rattle.seize_model.specs.Agreement.Shows.{ShowsValues, StandFor, held_value, ShowsSlot, ShowsState, ShowsReclaimers}
use Rattle.seize_model.proofs.Simulation.Coupling.{Naming, Denote, CoupledSlot, NearAt}

-- numbers stand for what values hold
abbrev pub contents : {T R : Type 0} → (ℕ → T) → Naming T R T
contents of = record { link = of; name = of; view = λ v. v.0 }

-- the one from the other, where numbers stand in each of its ways for what waits and what is retired
near_by : {T R X : Type 0} (of : ℕ → T) (name : Naming T R X) (st : waiting.ModelState T R) (ms : machine.State) → ShowsState T R of st ms
    → ((s : ℕ) → Denote name (machine.slot_at ms s).batch (waiting.model_slot st s).batch)
    → ((b : ℕ) → Denote name (machine.batch_at ms b).values (waiting.retired_at st b))
    → map (held_value name.link) ms.links ≡ st.links → Denote name ms.rest st.rest → NearAt name [] st ms
near_by of name st ms h batches values links rest = record {
  numbers = h.numbers;
  as_many = h.slots;
  slot = λ s.
      let own : ShowsSlot _ _ of (waiting.model_slot st s) (machine.slot_at ms s) = h.slot s in
      record { used = own.used; idle = own.idle; batch = batches s; free = own.free; owned = own.owned; inactive = own.inactive; once = own.once };
  heads_are = h.heads;
  retired = h.retired;
  values = values;
  counts = λ b. h.counts b ∙ ap (λ (n : ℕ). pos n) (omega arith);
  links_are = links;
  rest_is = rest;
}

pub shows_by : {T R X : Type 0} (of : ℕ → T) (name : Naming T R X) (st : waiting.ModelState T R) (ms : machine.State) → NearAt name [] st ms
    → ((s : ℕ) → ShowsValues of (machine.slot_at ms s).batch (waiting.model_slot st s).batch)
    → ((b : ℕ) → ShowsValues of (machine.batch_at ms b).values (waiting.retired_at st b))
    → map (held_value of) ms.links ≡ st.links → ShowsValues of ms.rest st.rest → ShowsState T R of st ms
shows_by of name st ms h batches values links rest = record {
  numbers = h.numbers;
  slots = h.as_many;
  slot = λ s.
      let own : CoupledSlot name (waiting.model_slot st s) (machine.slot_at ms s) = h.slot s in
      record { used = own.used; idle = own.idle; batch = batches s; free = own.free; owned = own.owned; inactive = own.inactive; once = own.once };
  heads = h.heads_are;
  retired = h.retired;
  values = values;
  counts = λ b. h.counts b ∙ ap (λ (n : ℕ). pos n) (omega arith);
  links = links;
  rest = rest;
}

pub near_of : {T R : Type 0} (of : ℕ → T) (st : waiting.ModelState T R) (ms : machine.State) → ShowsState T R of st ms → NearAt (contents of) [] st ms
near_of of st ms h = near_by of (contents of) st ms h (λ s. (h.slot s).batch) h.values h.links h.rest

pub shows_of : {T R : Type 0} (of : ℕ → T) (st : waiting.ModelState T R) (ms : machine.State) → NearAt (contents of) [] st ms → ShowsState T R of st ms
shows_of of st ms h = shows_by of (contents of) st ms h (λ s. (h.slot s).batch) h.values h.links_are h.rest_is

-- numbers stand for values with their reclaimers
abbrev pub with_reclaimers : {T R : Type 0} → (ℕ → T) → (ℕ → R) → Naming T R (T × R)
with_reclaimers of by = record { link = of; name = λ n. (of n, by n); view = λ v. v }

pub denote_for : {T R : Type 0} (of : ℕ → T) (by : ℕ → R) (numbers : List ℕ) (values : List (T × R)) → StandFor of by numbers values → Denote (with_reclaimers of by) numbers values
denote_for of by numbers values e = e ∙ sym (map-id values)

pub stand_for : {T R : Type 0} (of : ℕ → T) (by : ℕ → R) (numbers : List ℕ) (values : List (T × R)) → Denote (with_reclaimers of by) numbers values → StandFor of by numbers values
stand_for of by numbers values e = e ∙ map-id values

pub stand_of : {T R : Type 0} (of : ℕ → T) (by : ℕ → R) (numbers : List ℕ) (values : List (T × R)) → Denote (with_reclaimers of by) numbers values → ShowsValues of numbers values
stand_of {T} {R} of by [] [] e = refl
stand_of {T} {R} of by [] (v ∷ values) e = absurd (cc)
stand_of {T} {R} of by (n ∷ numbers) [] e = absurd (cc)
stand_of {T} {R} of by (n ∷ numbers) (v ∷ values) e =
    let first : (of n, by n) ≡ v = cc in
    let rest : Denote (with_reclaimers of by) numbers values = cc in
    ap (λ (x : T × R). x.0 ∷ map of numbers) first ∙ ap (λ l. v.0 ∷ l) (stand_of of by numbers values rest)

pub near_with : {T R : Type 0} (of : ℕ → T) (by : ℕ → R) (st : waiting.ModelState T R) (ms : machine.State)
    → ShowsState T R of st ms → ShowsReclaimers T R of by st ms → NearAt (with_reclaimers of by) [] st ms
near_with of by st ms h r =
    near_by of (with_reclaimers of by) st ms h
    (λ s. denote_for of by _ _ (r.batches s)) (λ b. denote_for of by _ _ (r.retired b)) h.links (denote_for of by _ _ r.rest)

pub shows_with : {T R : Type 0} (of : ℕ → T) (by : ℕ → R) (st : waiting.ModelState T R) (ms : machine.State)
    → NearAt (with_reclaimers of by) [] st ms → ShowsState T R of st ms × ShowsReclaimers T R of by st ms
shows_with of by st ms h = (
  shows_by of (with_reclaimers of by) st ms h
      (λ s. stand_of of by _ _ (h.slot s).batch) (λ b. stand_of of by _ _ (h.values b)) h.links_are (stand_of of by _ _ h.rest_is),
  record { batches = λ s. stand_for of by _ _ (h.slot s).batch; retired = λ b. stand_for of by _ _ (h.values b); rest = stand_for of by _ _ h.rest_is },
)
