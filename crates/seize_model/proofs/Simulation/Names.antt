-- Where each value that waits or is retired has a property that passes from a value to what its reclaimer puts, each call keeps it so.
use Rattle.std.proofs.Common.{◌≡◌, ℕ, zero, suc, ◌==◌, false, List, [], ◌∷◌, ◌++◌, length, get_or, set, refl, sym, subst}
use Rattle.std.specs.List.{AllByRecursion}
use Rattle.std.proofs.lemmas.List.Concat.{flat_map-cons}
use Rattle.std.proofs.Math.ListN.{get_or-map}
use Rattle.seize_machine.specs.Machine.State.{has}
use Rattle.seize_model.specs.Waiting.State.{ModelSlot, ModelState, model_slot, retired_at, set_slot, unmade_slot, is_kept}
use Rattle.seize_model.specs.Waiting.Attempt.{StateAndGone, release, release_all, wait_if_active, with_batch_retired, gives_up, attempt, attempt_if_full, with_batch_value, put, part}
use Rattle.seize_model.specs.Waiting.Further.{put_by, further, settle, still_to_come, with_further}
use Rattle.seize_model.specs.Waiting.Calls.{with_number_in_use, rest_and_batch, with_rest_gathered}
use Rattle.seize_model.specs.declared.kind.Kind.{Kind}
use Rattle.seize_model.proofs.Cases.{either}
use Rattle.seize_model.proofs.Simulation.Coupling.{Naming}
use Rattle.seize_model.proofs.WaitingSets.FurtherValues.{waits_batch}
use Rattle.seize_model.proofs.Counts.{at_set, at_last}

-- Each value with the property has fresh numbers, and each that it puts has the property. A number that stands for a value in a batch
-- stands for it in a link.
pub record Names {T R X : Type 0} (puts : R → T → List T) (of : Naming T R X) (P : T × R → Type 0) : Type 0 where
  pub number : (v : T × R) → P v → (named : List ℕ) → (n : ℕ) × (has n named ≡ false) × (of.name n ≡ of.view v)
  pub closed : (v : T × R) → P v → AllByRecursion P (put_by puts v)
  pub link : (n : ℕ) (v : T × R) → of.name n ≡ of.view v → of.link n ≡ v.0

-- each value of the state has the property
pub record Holds (T R : Type 0) (P : T × R → Type 0) (st : ModelState T R) : Type 0 where
  pub batches : (s : ℕ) → AllByRecursion P (model_slot st s).batch
  pub retired : (b : ℕ) → AllByRecursion P (retired_at st b)
  pub rest : AllByRecursion P st.rest

-- and so has each value gone
abbrev pub HoldsAfter : {T R : Type 0} → (T × R → Type 0) → StateAndGone T R → Type 0
HoldsAfter {T} {R} P o = Holds T R P o.0 × AllByRecursion P o.1

-- a property that every value has
abbrev pub Always : {X : Type 0} → X → Type 0
Always x = Unit {0}

pub all_always : {X : Type 0} (xs : List X) → AllByRecursion Always xs
all_always [] = tt
all_always (x ∷ xs) = (tt, all_always xs)

pub holds_always : {T R : Type 0} (st : ModelState T R) → Holds T R Always st
holds_always st = record { batches = λ s. all_always (model_slot st s).batch; retired = λ b. all_always (retired_at st b); rest = all_always st.rest }

-- Lists.

pub all_append : {X : Type 0} (P : X → Type 0) (xs ys : List X) → AllByRecursion P xs → AllByRecursion P ys → AllByRecursion P (xs ++ ys)
all_append P [] ys h k = k
all_append P (x ∷ xs) ys h k = (h.0, all_append P xs ys h.1 k)

pub all_further : {T R : Type 0} (puts : R → T → List T) (P : T × R → Type 0) → ((v : T × R) → P v → AllByRecursion P (put_by puts v)) → (gone : List (T × R)) → AllByRecursion P gone → AllByRecursion P (further puts gone)
all_further puts P closed [] h = tt
all_further puts P closed (v ∷ gone) h =
    subst (λ l. AllByRecursion P l) (sym (flat_map-cons (put_by puts) v gone))
    (all_append P (put_by puts v) (further puts gone) (closed v h.0) (all_further puts P closed gone h.1))

-- The parts of a call.

pub holds_set : {T R : Type 0} (P : T × R → Type 0) (st : ModelState T R) (s : ℕ) (slot : ModelSlot T R) → Holds T R P st → AllByRecursion P slot.batch → Holds T R P (set_slot st s slot)
holds_set {T} {R} P st s slot h k = record {
  batches = λ i. at_set (λ (x : ModelSlot T R). AllByRecursion P x.batch) st.slots s slot i unmade_slot k (h.batches i);
  retired = h.retired;
  rest = h.rest;
}

pub holds_release : {T R : Type 0} (P : T × R → Type 0) (st : ModelState T R) (b : ℕ) → Holds T R P st → HoldsAfter P (release st b)
holds_release {T} {R} P st b h =
    either (λ (o : StateAndGone T R). HoldsAfter P o) (is_kept st b) _ _ (h, tt)
    (record { batches = h.batches; retired = λ i. at_set (λ (l : List (T × R)). AllByRecursion P l) st.retired b [] i [] tt (h.retired i); rest = h.rest }, h.retired b)

-- a batch that was detached, and one that was detached and released
holds_detached : {T R : Type 0} (P : T × R → Type 0) (st : ModelState T R) (s : ℕ) → Holds T R P st → Holds T R P (with_batch_retired st s)
holds_detached {T} {R} P st s h =
    let emptied : Holds T R P (set_slot st s (record (model_slot st s) { batch = [] })) = holds_set P st s (record (model_slot st s) { batch = [] }) h tt in
    record {
      batches = λ i. subst (λ (x : ModelSlot T R). AllByRecursion P x.batch) (sym (get_or-map (wait_if_active (length st.retired)) (set st.slots s (record (model_slot st s) { batch = [] })) i unmade_slot))
          (subst (λ l. AllByRecursion P l) (sym (waits_batch (length st.retired) _)) (emptied.batches i));
      retired = λ i. at_last (λ (l : List (T × R)). AllByRecursion P l) st.retired (model_slot st s).batch i [] (h.batches s) tt (h.retired i);
      rest = h.rest;
    }

pub holds_attempt : {T R : Type 0} (P : T × R → Type 0) (st : ModelState T R) (s : ℕ) → Holds T R P st → HoldsAfter P (attempt st s)
holds_attempt {T} {R} P st s h =
    either (λ (o : StateAndGone T R). HoldsAfter P o) (gives_up st s) _ _ (h, tt) (holds_release P (with_batch_retired st s) (length st.retired) (holds_detached P st s h))

pub holds_detach : {T R : Type 0} (P : T × R → Type 0) (st : ModelState T R) (s : ℕ) → Holds T R P st → HoldsAfter P (release (with_batch_retired st s) (length st.retired))
holds_detach P st s h = holds_release P (with_batch_retired st s) (length st.retired) (holds_detached P st s h)

pub holds_appended : {T R : Type 0} (P : T × R → Type 0) (st : ModelState T R) (s : ℕ) (v : T × R) → Holds T R P st → P v → Holds T R P (with_batch_value st s v)
holds_appended P st s v h k = holds_set P st s _ h (all_append P (model_slot st s).batch (v ∷ []) (h.batches s) (k, tt))

pub holds_full : {T R : Type 0} (P : T × R → Type 0) (st : ModelState T R) (s : ℕ) → Holds T R P st → HoldsAfter P (attempt_if_full st s)
holds_full {T} {R} P st s h = either (λ (o : StateAndGone T R). HoldsAfter P o) _ _ _ (holds_attempt P st s h) (h, tt)

pub holds_put : {T R : Type 0} (P : T × R → Type 0) (st : ModelState T R) (s : ℕ) (v : T × R) → Holds T R P st → P v → HoldsAfter P (put st s v)
holds_put P st s v h k = holds_full P (with_batch_value st s v) s (holds_appended P st s v h k)

pub holds_release_all : {T R : Type 0} (P : T × R → Type 0) (st : ModelState T R) (bs : List ℕ) → Holds T R P st → HoldsAfter P (release_all st bs)
holds_release_all P st [] h = (h, tt)
holds_release_all {T} {R} P st (b ∷ bs) h =
    let one : HoldsAfter P (release st b) = holds_release P st b h in
    let rest : HoldsAfter P (release_all (release st b).0 bs) = holds_release_all P (release st b).0 bs one.0 in
    (rest.0, all_append P (release st b).1 (release_all (release st b).0 bs).1 one.1 rest.1)

-- a slot whose batch is as before
pub holds_same : {T R : Type 0} (P : T × R → Type 0) (st : ModelState T R) (s : ℕ) (slot : ModelSlot T R) → slot.batch ≡ (model_slot st s).batch → Holds T R P st → Holds T R P (set_slot st s slot)
holds_same P st s slot e h = holds_set P st s slot h (subst (λ l. AllByRecursion P l) (sym e) (h.batches s))

pub holds_part : {T R : Type 0} (P : T × R → Type 0) (st : ModelState T R) (s : ℕ) → Holds T R P st → HoldsAfter P (part st s)
holds_part P st s h = holds_release_all P (set_slot st s (record (model_slot st s) { order = [] })) (model_slot st s).order (holds_same P st s _ refl h)

-- what the values gone put, in turn
holds_settle : {T R : Type 0} (puts : R → T → List T) (P : T × R → Type 0) → ((v : T × R) → P v → AllByRecursion P (put_by puts v)) → (n : ℕ) (st : ModelState T R) (s : ℕ) (queue : List (T × R)) → Holds T R P st → AllByRecursion P queue
    → HoldsAfter P (settle puts n st s queue)
holds_settle puts P closed zero st s queue h k = (h, tt)
holds_settle puts P closed (suc n) st s [] h k = (h, tt)
holds_settle {T} {R} puts P closed (suc n) st s (v ∷ queue) h k =
    let one : HoldsAfter P (put st s v) = holds_put P st s v h k.0 in
    let rest : HoldsAfter P (settle puts n (put st s v).0 s (queue ++ further puts (put st s v).1))
    = holds_settle puts P closed n (put st s v).0 s (queue ++ further puts (put st s v).1) one.0 (all_append P queue (further puts (put st s v).1) k.1 (all_further puts P closed (put st s v).1 one.1)) in
    (rest.0, all_append P (put st s v).1 _ one.1 rest.1)

pub holds_settled : {T R : Type 0} (puts : R → T → List T) (weight : T → ℕ) (P : T × R → Type 0) → ((v : T × R) → P v → AllByRecursion P (put_by puts v)) → (s : ℕ) (o : StateAndGone T R) → HoldsAfter P o → HoldsAfter P (with_further puts weight s o)
holds_settled {T} {R} puts weight P closed s o h =
    let rest : HoldsAfter P (settle puts (still_to_come weight (model_slot o.0 s).batch (further puts o.1)) o.0 s (further puts o.1))
    = holds_settle puts P closed _ o.0 s (further puts o.1) h.0 (all_further puts P closed o.1 h.1) in
    (rest.0, all_append P o.1 _ h.1 rest.1)

-- what was left becomes a batch
pub holds_taken : {T R : Type 0} (P : T × R → Type 0) (st : ModelState T R) (n : ℕ) (kind : Kind) → Holds T R P st → Holds T R P (with_number_in_use st n kind)
holds_taken {T} {R} P st n kind h = record {
  batches = λ i. either (λ (l : List (ModelSlot T R)). AllByRecursion P (get_or l i unmade_slot).batch) (n == length st.slots) _ _
      (at_last (λ (x : ModelSlot T R). AllByRecursion P x.batch) st.slots _ i unmade_slot h.rest tt (h.batches i))
      (at_set (λ (x : ModelSlot T R). AllByRecursion P x.batch) st.slots n _ i unmade_slot h.rest (h.batches i));
  retired = h.retired;
  rest = tt;
}

pub holds_gathered : {T R : Type 0} (P : T × R → Type 0) (st : ModelState T R) (s : ℕ) → Holds T R P st → Holds T R P (with_rest_gathered st s)
holds_gathered P st s h =
    let set_so : Holds _ _ P (set_slot st s (record (model_slot st s) { batch = rest_and_batch st s })) = holds_set P st s _ h (all_append P st.rest (model_slot st s).batch h.rest (h.batches s)) in
    record { batches = set_so.batches; retired = h.retired; rest = tt }
