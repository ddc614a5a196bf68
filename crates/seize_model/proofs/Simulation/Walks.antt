-- A parting and a retirement within a call, on both sides.
use Rattle.std.proofs.Common.{◌≡◌, ℕ, ◌<◌, ◌≤◌, pos, ◌-ℤ◌, Bool, true, false, not, ◌==◌, if◌then◌else◌, nat_le, max, List, [], ◌∷◌, ◌++◌, length, map, get_or, set, None, refl, sym, ◌∙◌, ap, subst, arith, append_assoc}
use Rattle.std.specs.List.{count_by}
use Rattle.std.proofs.lemmas.List.Concat.{flat_map-cons}
use Rattle.std.proofs.lemmas.List.{get_or-set_same, length-set}
use Rattle.seize_machine.specs.Machine.State as machine
use Rattle.seize_machine.specs.Machine.State.{State, Batch, Mark, Rest, has, are_distinct, no_batch}
use Rattle.seize_machine.specs.Machine.Event.{SubCount}
use Rattle.seize_model.specs.Waiting.State as waiting
use Rattle.seize_model.specs.Waiting.State.{model_slot, waits_for, is_kept}
use Rattle.seize_model.specs.Waiting.Attempt.{StateAndGone, with_gone, release, release_all, attempt, is_full, attempt_if_full, put, with_batch_value}
use Rattle.seize_model.specs.Waiting.Further.{further, put_by}
use Rattle.seize_machine.proofs.Facts.{and_true, not_true}
use Rattle.seize_model.proofs.Simulation.Paths.{Carried}
use Rattle.seize_model.proofs.Simulation.Determinism.{only_sub}
use Rattle.seize_machine.proofs.Facts.{after_put as put_place}
use Rattle.seize_model.proofs.Simulation.Events.{busy, at_rest, sub_step, with_count}
use Rattle.seize_model.proofs.Simulation.Coupling.{Near, NearAt, Denote, CoupledSlot, Naming}
use Rattle.seize_model.proofs.Simulation.Releases.{near_less, near_release, BothGone, batch_with}
use Rattle.seize_model.proofs.Simulation.Names.{Holds, HoldsAfter, holds_release, holds_appended}
use Rattle.seize_model.proofs.Simulation.Work.{Handing, hands_on, Does, nothing_done, attempt_does, own_slot, in_slots, near_batch, denote_append, denote_length}
use Rattle.seize_model.proofs.Cases.{either}
use Rattle.seize_model.proofs.Counts.{set_twice}

pub further_append : {T R : Type 0} (puts : R → T → List T) (xs ys : List (T × R)) → further puts (xs ++ ys) ≡ further puts xs ++ further puts ys
further_append puts [] ys = refl
further_append {T} {R} puts (x ∷ xs) ys =
    flat_map-cons (put_by puts) x (xs ++ ys) ∙ ap (λ (l : List (T × R)). put_by puts x ++ l) (further_append puts xs ys)
    ∙ sym (append_assoc (put_by puts x) (further puts xs) (further puts ys))
    ∙ ap (λ (l : List (T × R)). l ++ further puts ys) (sym (flat_map-cons (put_by puts) x xs))

-- one piece of work after what was handed before it
pub does_after : {T R X : Type 0} (puts : R → T → List T) (of : Naming T R X) (K : State → List ℕ → Type 0) (size s guards : ℕ) (queue more hs given : List ℕ) (gone : List (T × R)) (o : StateAndGone T R)
    → Denote of given gone → Denote of more (further puts gone) → Does puts of K size s guards (queue ++ more) (hs ++ given) o
    → Does puts of K size s guards queue hs (with_gone gone o)
does_after puts of K size s guards queue more hs given gone o e f d = record {
  base = d.base;
  batch = d.batch;
  more = more ++ d.more;
  handed = given ++ d.handed;
  comes = subst (λ (q : List ℕ). K (busy d.base s d.batch (Rest [] []) q) (hs ++ (given ++ d.handed))) (append_assoc queue more d.more)
      (subst (λ (l : List ℕ). K (busy d.base s d.batch (Rest [] []) ((queue ++ more) ++ d.more)) l) (append_assoc hs given d.handed) d.comes);
  near = d.near;
  gone = denote_append of given d.handed gone o.1 e d.gone;
  further_stand = denote_append of more d.more (further puts gone) (further puts o.1) f d.further_stand ∙ ap (λ l. map of.view l) (sym (further_append puts gone o.1));
  within = d.within;
  same_size = d.same_size;
  same_guards = d.same_guards;
}

pub walk_does : {T R X : Type 0} (puts : R → T → List T) (of : Naming T R X) (P : T × R → Type 0) (K : State → List ℕ → Type 0) (size guards : ℕ) (st : waiting.ModelState T R) (base : State) (s : ℕ) (batch walk queue hs : List ℕ) → Carried puts of P s size K
    → Holds T R P st → NearAt of walk st (at_rest base s batch) → s < length base.slots
    → are_distinct walk ≡ true → st.size ≡ size → (model_slot st s).guards ≡ guards
    → K (busy base s batch (Rest [] walk) queue) hs → Does puts of K size s guards queue hs (release_all st walk)
walk_does {T} {R} puts of P K size guards st base s batch [] queue hs carried holds n h distinct e g now =
    subst (λ k. Does puts of K k s guards queue hs (st, [])) e
    (subst (λ k. Does puts of K st.size s k queue hs (st, [])) g
    (nothing_done puts of K st base s batch queue hs n h now))
walk_does {T} {R} puts of P K size guards st base s batch (b ∷ walk) queue hs carried holds n h distinct e g now =
    let held : HoldsAfter P (release st b) = holds_release P st b holds in
    let d : (not (has b walk) ≡ true) × (are_distinct walk ≡ true) = and_true _ _ distinct in
    let first : has b walk ≡ false = not_true _ d.0 in
    let k : ℕ = count_by (waits_for b) st.slots in
    let slots : List machine.Slot = (at_rest base s batch).slots in
    let less : (b < length base.batches) × ((get_or base.batches b no_batch).count -ℤ pos 1 ≡ pos k) × Near of walk st slots base.heads (batch_with base.batches b false (pos k)) base.links base.rest
    = near_less of b walk st slots base.heads base.batches base.links base.rest n first in
    let there : b < length (batch_with base.batches b false (pos k)) = rw (length-set base.batches b (record { values = (get_or base.batches b no_batch).values; count = pos k })) less.0 in
    let gone : BothGone of b walk slots base.heads (batch_with base.batches b false (pos k)) base.links base.rest k (k == 0) (release st b)
    = near_release of b walk st slots base.heads (batch_with base.batches b false (pos k)) base.links base.rest less.2 there first in
    let own : get_or (batch_with base.batches b false (pos k)) b no_batch ≡ record { values = (get_or base.batches b no_batch).values; count = pos k }
    = get_or-set_same base.batches b (record { values = (get_or base.batches b no_batch).values; count = pos k }) no_batch less.0 in
    let set_there : batch_with (batch_with base.batches b false (pos k)) b (k == 0) (pos k) ≡ (with_count base b (pos k)).batches
    = ap (λ (x : Batch). set (batch_with base.batches b false (pos k)) b (record { values = if k == 0 then [] else x.values; count = pos k })) own ∙ set_twice base.batches b (record { values = (get_or base.batches b no_batch).values; count = pos k }) (record { values = if k == 0 then [] else (get_or base.batches b no_batch).values; count = pos k }) in
    let near : Near of walk (release st b).0 slots base.heads (with_count base b (pos k)).batches base.links base.rest
    = subst (λ (l : List Batch). Near of walk (release st b).0 slots base.heads l base.links base.rest) set_there gone.0 in
    let given : List ℕ = if k == 0 then (get_or base.batches b no_batch).values else [] in
    let stand : Denote of (if k == 0 then (get_or base.batches b no_batch).values else []) (release st b).1
    = subst (λ (x : Batch). Denote of (if k == 0 then x.values else []) (release st b).1) own gone.1 in
    let counted : K (busy (with_count base b (pos k)) s batch (Rest given walk) queue) hs
    = carried.forced _ _ (SubCount s) _ hs (sub_step size base s b batch walk queue (pos k) h less.1) refl (refl, refl, refl) (only_sub size base s b batch walk queue h) now in
    let handing : Handing puts of K (with_count base b (pos k)) s batch given walk queue hs (release st b).1
    = hands_on puts of P s size K carried (with_count base b (pos k)) batch given walk queue hs (release st b).1 h stand held.1 counted in
    let later : State = record (with_count base b (pos k)) { gone = handing.gone; named = handing.named } in
    let rest : Does puts of K size s guards (queue ++ handing.more) (hs ++ given) (release_all (release st b).0 walk)
    = walk_does puts of P K size guards (release st b).0 later s batch walk (queue ++ handing.more) (hs ++ given) carried held.0 near h d.1
    (either (λ (o : StateAndGone T R). o.0.size ≡ size) (is_kept st b) _ _ e e)
    (either (λ (o : StateAndGone T R). (model_slot o.0 s).guards ≡ guards) (is_kept st b) _ _ g g)
    handing.comes in
    does_after puts of K size s guards queue handing.more hs given (release st b).1 (release_all (release st b).0 walk) stand handing.stand rest

-- Retirements.

-- an attempt, if the batch is full
pub full_does : {T R X : Type 0} (puts : R → T → List T) (of : Naming T R X) (P : T × R → Type 0) (K : State → List ℕ → Type 0) (st : waiting.ModelState T R) (base : State) (s : ℕ) (batch queue hs : List ℕ) → Carried puts of P s st.size K
    → Holds T R P st → NearAt of [] st (at_rest base s batch) → s < length base.slots
    → K (busy base s batch (put_place st.size (length base.slots) batch) queue) hs → Does puts of K st.size s (model_slot st s).guards queue hs (attempt_if_full st s)
full_does {T} {R} puts of P K st base s batch queue hs carried holds near h now =
    go (is_full st.size (model_slot st s).batch) refl
    (subst (λ k. K (busy base s batch (if nat_le (max 1 st.size) k then Mark 0 (length base.slots) [] else Rest [] []) queue) hs) long now)
  where
    long : length batch ≡ length (model_slot st s).batch
    long = denote_length of batch (model_slot st s).batch (own_slot of st base s batch near h).batch

    go : (t : Bool) → is_full st.size (model_slot st s).batch ≡ t → K (busy base s batch (if t then Mark 0 (length base.slots) [] else Rest [] []) queue) hs
        → Does puts of K st.size s (model_slot st s).guards queue hs (if t then attempt st s else (st, []))
    go true e k = attempt_does puts of P K st base s batch queue hs carried holds near h (some st.size (length batch) (length (model_slot st s).batch) long e) k
      where
        some : (a b c : ℕ) → b ≡ c → nat_le (max 1 a) c ≡ true → 1 ≤ b
        some a b c same e = grind arith
    go false e k = nothing_done puts of K st base s batch queue hs near h k

pub after_put : {T R X : Type 0} (puts : R → T → List T) (of : Naming T R X) (P : T × R → Type 0) (K : State → List ℕ → Type 0) (st : waiting.ModelState T R) (base : State) (s n : ℕ) (v : T × R) (batch queue hs : List ℕ) → Carried puts of P s st.size K
    → Holds T R P st → P v → NearAt of [] st (at_rest base s batch) → s < length base.slots → of.name n ≡ of.view v
    → K (busy base s (batch ++ n ∷ []) (put_place st.size (length base.slots) (batch ++ n ∷ [])) queue) hs → Does puts of K st.size s (model_slot st s).guards queue hs (put st s v)
after_put {T} {R} puts of P K st base s n v batch queue hs carried holds own_holds near h stands now =
    subst (λ g. Does puts of K st.size s g queue hs (put st s v)) guards
    (full_does puts of P K (with_batch_value st s v) base s (batch ++ n ∷ []) queue hs carried (holds_appended P st s v holds own_holds) next_near h now)
  where
    own : CoupledSlot of (model_slot st s) (record { used = true; batch = batch; call = None })
    own = own_slot of st base s batch near h

    within : s < length st.slots
    within = rw (← in_slots of st base s batch near) h

    both : Denote of (batch ++ n ∷ []) ((model_slot st s).batch ++ v ∷ [])
    both = denote_append of batch (n ∷ []) (model_slot st s).batch (v ∷ []) own.batch (ap (λ x. x ∷ []) stands)

    next_near : NearAt of [] (with_batch_value st s v) (at_rest base s (batch ++ n ∷ []))
    next_near = near_batch of st base s batch (batch ++ n ∷ []) ((model_slot st s).batch ++ v ∷ []) near h both

    guards : (model_slot (with_batch_value st s v) s).guards ≡ (model_slot st s).guards
    guards = ap (λ (x : waiting.ModelSlot T R). x.guards) (get_or-set_same st.slots s (record (model_slot st s) { batch = (model_slot st s).batch ++ v ∷ [] }) waiting.unmade_slot within)
