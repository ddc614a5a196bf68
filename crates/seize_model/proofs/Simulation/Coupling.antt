-- What the machine shows while the only call under way walks a list: the counts have still to fall by the batches of the walk.
use Rattle.std.proofs.Common.{◌≡◌, ◌≢◌, ℕ, ◌+◌, ◌-◌, ◌^◌, ◌<◌, ◌≤◌, pos, Bool, true, false, not, ◌==◌, List, [], length, map, get_or, set, Option, None, refl, sym, ◌∙◌, ap, subst, ◌⊎◌, inl, inr, arith}
use Rattle.std.specs.List.{count_by, list_any}
use Rattle.std.proofs.lemmas.List.{get_or-set_same, get_or-set_other, length-set, map-set}
use Rattle.std.proofs.Math.Seq.{map-set_same}
use Rattle.seize_machine.specs.Machine.State as machine
use Rattle.seize_machine.specs.Machine.State.{Head, Batch, has, no_batch, are_distinct}
use Rattle.seize_model.specs.Waiting.State as waiting
use Rattle.seize_model.specs.Waiting.State.{retired_at, waits_for}
use Rattle.seize_model.specs.Waiting.Calls.{is_free, is_owned}
use Rattle.seize_model.specs.Agreement.Shows.{held_value, head_of}
use Rattle.seize_machine.proofs.Facts.{one, occ, has_none, has_some, distinct_once}
use Rattle.seize_model.proofs.Counts.{count_same, count_set}
use Rattle.seize_model.proofs.Cases.{or_same}

-- What numbers stand for: in links for what they hold, and in batches for what is seen of values with their reclaimers. It is what they
-- hold where a run of events is sought, whose reclaimers nobody knows, and the values with their reclaimers where one is given.
pub record Naming (T R X : Type 0) : Type 0 where
  pub link : ℕ → T
  pub name : ℕ → X
  pub view : T × R → X

-- these numbers stand for these values, in order
abbrev pub Denote : {T R X : Type 0} → Naming T R X → List ℕ → List (T × R) → Type 0
Denote of numbers values = map of.name numbers ≡ map of.view values

-- the two sides of one slot
pub record CoupledSlot {T R X : Type 0} (of : Naming T R X) (slot : waiting.ModelSlot T R) (shown : machine.Slot) : Type 0 where
  pub used : shown.used ≡ not (is_free slot.kind)
  pub idle : shown.call ≡ None
  pub batch : Denote of shown.batch slot.batch
  pub free : is_free slot.kind ≡ true → slot.guards ≡ 0
  pub owned : is_owned slot.kind ≡ true → slot.guards ≤ 1
  pub inactive : waiting.has_guard slot ≡ false → slot.order ≡ []
  pub once : machine.are_distinct slot.order ≡ true

pub no_slot_coupled : {T R X : Type 0} (of : Naming T R X) → CoupledSlot of waiting.unmade_slot machine.no_slot
no_slot_coupled of = record { used = refl; idle = refl; batch = refl; free = λ e. refl; owned = λ e. omega arith; inactive = λ e. refl; once = refl }

pub record Near {T R X : Type 0} (of : Naming T R X) (walk : List ℕ) (st : waiting.ModelState T R) (slots : List machine.Slot) (heads : List Head) (batches : List Batch) (links : List (Option ℕ)) (rest : List ℕ) : Type 0 where
  pub numbers : length st.slots ≤ 2 ^ 64 - 32
  pub as_many : length slots ≡ length st.slots
  pub slot : (s : ℕ) → CoupledSlot of (waiting.model_slot st s) (get_or slots s machine.no_slot)
  pub heads_are : heads ≡ map head_of st.slots
  pub retired : length batches ≡ length st.retired
  pub values : (b : ℕ) → Denote of (get_or batches b no_batch).values (retired_at st b)
  pub counts : (b : ℕ) → (get_or batches b no_batch).count ≡ pos (count_by (waits_for b) st.slots + occ b walk)
  pub links_are : map (held_value of.link) links ≡ st.links
  pub rest_is : Denote of rest st.rest

abbrev pub NearAt : {T R X : Type 0} → Naming T R X → List ℕ → waiting.ModelState T R → machine.State → Type 0
NearAt of walk st ms = Near of walk st ms.slots ms.heads ms.batches ms.links ms.rest

-- What was left changes on both sides.
pub near_rest : {T R X : Type 0} (of : Naming T R X) (walk : List ℕ) (st : waiting.ModelState T R) (slots : List machine.Slot) (heads : List Head) (batches : List Batch) (links : List (Option ℕ)) (rest new : List ℕ) (values : List (T × R))
    → Near of walk st slots heads batches links rest → Denote of new values → Near of walk (record st { rest = values }) slots heads batches links new
near_rest of walk st slots heads batches links rest new values n stand = record {
  numbers = n.numbers;
  as_many = n.as_many;
  slot = n.slot;
  heads_are = n.heads_are;
  retired = n.retired;
  values = n.values;
  counts = n.counts;
  links_are = n.links_are;
  rest_is = stand;
}

-- One slot changes on both sides.

slots_change : {T R X : Type 0} (of : Naming T R X) (xs : List (waiting.ModelSlot T R)) (ys : List machine.Slot) (s : ℕ) (new : waiting.ModelSlot T R) (shown : machine.Slot) → s < length xs → length ys ≡ length xs
    → ((i : ℕ) → CoupledSlot of (get_or xs i waiting.unmade_slot) (get_or ys i machine.no_slot)) → CoupledSlot of new shown
    → (i : ℕ) → CoupledSlot of (get_or (set xs s new) i waiting.unmade_slot) (get_or (set ys s shown) i machine.no_slot)
slots_change {T} {R} of xs ys s new shown h e old now i = go (or_same i s)
  where
    go : (i ≡ s) ⊎ (i ≢ s) → CoupledSlot of (get_or (set xs s new) i waiting.unmade_slot) (get_or (set ys s shown) i machine.no_slot)
    go (inl is) =
        let a : get_or (set xs s new) i waiting.unmade_slot ≡ new = rw is (get_or-set_same xs s new waiting.unmade_slot h) in
        let b : get_or (set ys s shown) i machine.no_slot ≡ shown = rw is (get_or-set_same ys s shown machine.no_slot (rw e h)) in
        subst (λ y. CoupledSlot of (get_or (set xs s new) i waiting.unmade_slot) y) (sym b) (subst (λ x. CoupledSlot of x shown) (sym a) now)
    go (inr not) =
        let a : get_or (set xs s new) i waiting.unmade_slot ≡ get_or xs i waiting.unmade_slot = get_or-set_other xs s i new waiting.unmade_slot not in
        let b : get_or (set ys s shown) i machine.no_slot ≡ get_or ys i machine.no_slot = get_or-set_other ys s i shown machine.no_slot not in
        subst (λ y. CoupledSlot of (get_or (set xs s new) i waiting.unmade_slot) y) (sym b) (subst (λ x. CoupledSlot of x (get_or ys i machine.no_slot)) (sym a) (old i))

-- a change of a slot that leaves its head
pub near_set : {T R X : Type 0} (of : Naming T R X) (walk : List ℕ) (st : waiting.ModelState T R) (slots : List machine.Slot) (heads : List Head) (batches : List Batch) (links : List (Option ℕ)) (rest : List ℕ) (s : ℕ) (new : waiting.ModelSlot T R) (shown : machine.Slot)
    → Near of walk st slots heads batches links rest → s < length st.slots → CoupledSlot of new shown → head_of new ≡ head_of (waiting.model_slot st s) → new.order ≡ (waiting.model_slot st s).order
    → Near of walk (waiting.set_slot st s new) (set slots s shown) heads batches links rest
near_set of walk st slots heads batches links rest s new shown n h now head order = record {
  numbers = rw (length-set st.slots s new) n.numbers;
  as_many = length-set slots s shown ∙ n.as_many ∙ sym (length-set st.slots s new);
  slot = slots_change of st.slots slots s new shown h n.as_many n.slot now;
  heads_are = n.heads_are ∙ sym (map-set_same head_of st.slots s new waiting.unmade_slot head);
  retired = n.retired;
  values = n.values;
  counts = λ b. n.counts b ∙ ap (λ (k : ℕ). pos (k + occ b walk)) (sym (count_same (waits_for b) st.slots s new waiting.unmade_slot (ap (λ (l : List ℕ). list_any (λ x. x == b) l) order)));
  links_are = n.links_are;
  rest_is = n.rest_is;
}

-- a change of a slot's head that leaves no batch in its order: the batches that were there are walked
pub near_out : {T R X : Type 0} (of : Naming T R X) (st : waiting.ModelState T R) (slots : List machine.Slot) (heads : List Head) (batches : List Batch) (links : List (Option ℕ)) (rest : List ℕ) (s : ℕ) (new : waiting.ModelSlot T R) (shown : machine.Slot)
    → Near of [] st slots heads batches links rest → s < length st.slots → CoupledSlot of new shown → new.order ≡ []
    → Near of (waiting.model_slot st s).order (waiting.set_slot st s new) (set slots s shown) (set heads s (head_of new)) batches links rest
near_out of st slots heads batches links rest s new shown n h now order = record {
  numbers = rw (length-set st.slots s new) n.numbers;
  as_many = length-set slots s shown ∙ n.as_many ∙ sym (length-set st.slots s new);
  slot = slots_change of st.slots slots s new shown h n.as_many n.slot now;
  heads_are = ap (λ (l : List Head). set l s (head_of new)) n.heads_are ∙ sym (map-set head_of st.slots s new);
  retired = n.retired;
  values = n.values;
  counts = λ b.
      let none : waits_for b new ≡ false = ap (λ (l : List ℕ). list_any (λ x. x == b) l) order in
      let less : count_by (waits_for b) (set st.slots s new) + one (waits_for b (waiting.model_slot st s)) ≡ count_by (waits_for b) st.slots + one false
      = count_set (waits_for b) st.slots s new waiting.unmade_slot h ∙ ap (λ (t : Bool). count_by (waits_for b) st.slots + one t) none in
      let own : occ b (waiting.model_slot st s).order ≡ one (waits_for b (waiting.model_slot st s)) = once_counts b (waiting.model_slot st s).order (n.slot s).once in
      let all : count_by (waits_for b) st.slots + occ b [] ≡ count_by (waits_for b) (set st.slots s new) + occ b (waiting.model_slot st s).order = omega arith in
      n.counts b ∙ ap (λ (k : ℕ). pos k) all;
  links_are = n.links_are;
  rest_is = n.rest_is;
}
  where
    once_counts : (b : ℕ) (order : List ℕ) → are_distinct order ≡ true → occ b order ≡ one (has b order)
    once_counts b order e = count_has (has b order) refl (distinct_once b order e)
      where
        count_has : (t : Bool) → has b order ≡ t → (occ b order ≤ 1 → occ b order ≡ one t)
        count_has true e le = omega (arith, has_some b order e)
        count_has false e le = has_none b order e
