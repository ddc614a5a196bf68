-- The further values within a call, on both sides, to the end of the call's queue.
use Rattle.std.proofs.Common.{◌≡◌, ℕ, zero, suc, ◌<◌, ◌≤◌, List, [], ◌∷◌, ◌++◌, length, refl, sym, ◌∙◌, subst, arith, append_assoc, append-nil}
use Rattle.std.specs.List.{AllByRecursion}
use Rattle.seize_machine.specs.Machine.State.{State, Rest}
use Rattle.seize_machine.specs.Machine.Event.{Put}
use Rattle.seize_model.specs.Waiting.State as waiting
use Rattle.seize_model.specs.Waiting.State.{model_slot}
use Rattle.seize_model.specs.Waiting.Attempt.{StateAndGone, put, with_gone}
use Rattle.seize_model.specs.Waiting.Further.{further, settle, with_further, still_to_come, Lighter}
use Rattle.seize_model.proofs.Simulation.Paths.{Carried}
use Rattle.seize_model.proofs.Simulation.Determinism.{only_queue}
use Rattle.seize_machine.proofs.Facts.{after_put as put_place}
use Rattle.seize_model.proofs.Simulation.Events.{busy, at_rest, put_next_step}
use Rattle.seize_model.proofs.Simulation.Coupling.{NearAt, Denote, Naming}
use Rattle.seize_model.proofs.Simulation.Names.{Holds, HoldsAfter, all_append, all_further, holds_put}
use Rattle.seize_model.proofs.Simulation.Work.{Does, denote_append}
use Rattle.seize_model.proofs.Simulation.Walks.{after_put}
use Rattle.seize_model.proofs.WaitingSets.FurtherValues.{falls}

-- the work of a call of s to where it may return
pub record Ends {T R X : Type 0} (of : Naming T R X) (K : State → List ℕ → Type 0) (size s guards : ℕ) (hs : List ℕ) (o : StateAndGone T R) : Type 0 where
  pub base : State
  pub batch : List ℕ
  pub handed : List ℕ
  pub comes : K (busy base s batch (Rest [] []) []) (hs ++ handed)
  pub near : NearAt of [] o.0 (at_rest base s batch)
  pub gone : Denote of handed o.1
  pub within : s < length base.slots
  pub same_size : o.0.size ≡ size
  pub same_guards : (model_slot o.0 s).guards ≡ guards

ends_after : {T R X : Type 0} (of : Naming T R X) (K : State → List ℕ → Type 0) (size s guards : ℕ) (hs given : List ℕ) (gone : List (T × R)) (o : StateAndGone T R)
    → Denote of given gone → Ends of K size s guards (hs ++ given) o → Ends of K size s guards hs (with_gone gone o)
ends_after of K size s guards hs given gone o e d = record {
  base = d.base;
  batch = d.batch;
  handed = given ++ d.handed;
  comes = subst (λ (l : List ℕ). K (busy d.base s d.batch (Rest [] []) []) l) (append_assoc hs given d.handed) d.comes;
  near = d.near;
  gone = denote_append of given d.handed gone o.1 e d.gone;
  within = d.within;
  same_size = d.same_size;
  same_guards = d.same_guards;
}

-- nothing is queued
at_once : {T R X : Type 0} (of : Naming T R X) (K : State → List ℕ → Type 0) (size guards : ℕ) (st : waiting.ModelState T R) (base : State) (s : ℕ) (batch hs : List ℕ) → NearAt of [] st (at_rest base s batch) → s < length base.slots → st.size ≡ size → (model_slot st s).guards ≡ guards
    → K (busy base s batch (Rest [] []) []) hs → Ends of K size s guards hs (st, [])
at_once of K size guards st base s batch hs n h e g now = record {
  base = base;
  batch = batch;
  handed = [];
  comes = subst (λ (l : List ℕ). K (busy base s batch (Rest [] []) []) l) (sym (append-nil hs)) now;
  near = n;
  gone = refl;
  within = h;
  same_size = e;
  same_guards = g;
}

pub settle_ends : {T R X : Type 0} (puts : R → T → List T) (weight : T → ℕ) → Lighter puts weight → (of : Naming T R X) (P : T × R → Type 0) (K : State → List ℕ → Type 0) (n size guards : ℕ) (st : waiting.ModelState T R) (base : State) (s : ℕ) (batch queue hs : List ℕ) (values : List (T × R)) → Carried puts of P s size K
    → Holds T R P st → AllByRecursion P values → NearAt of [] st (at_rest base s batch) → s < length base.slots → Denote of queue values → st.size ≡ size → (model_slot st s).guards ≡ guards → still_to_come weight (model_slot st s).batch values ≤ n
    → K (busy base s batch (Rest [] []) queue) hs → Ends of K size s guards hs (settle puts n st s values)
settle_ends puts weight lighter of P K zero size guards st base s batch [] hs [] carried holds all near h e same g le now = at_once of K size guards st base s batch hs near h same g now
settle_ends puts weight lighter of P K (suc n) size guards st base s batch [] hs [] carried holds all near h e same g le now = at_once of K size guards st base s batch hs near h same g now
settle_ends puts weight lighter of P K n size guards st base s batch [] hs (v ∷ values) carried holds all near h e same g le now = absurd (cc)
settle_ends puts weight lighter of P K n size guards st base s batch (q ∷ queue) hs [] carried holds all near h e same g le now = absurd (cc)
settle_ends puts weight lighter of P K zero size guards st base s batch (q ∷ queue) hs (v ∷ values) carried holds all near h e same g le now = absurd (omega (arith, falls puts weight lighter st s v values))
settle_ends {T} {R} puts weight lighter of P K (suc n) size guards st base s batch (q ∷ queue) hs (v ∷ values) carried holds all near h e same g le now =
    let held : HoldsAfter P (put st s v) = holds_put P st s v holds all.0 in
    let first : of.name q ≡ of.view v = cc in
    let rest : Denote of queue values = cc in
    let own : Carried puts of P s st.size K = subst (λ k. Carried puts of P s k K) (sym same) carried in
    let put_now : K (busy base s (batch ++ q ∷ []) (put_place st.size (length base.slots) (batch ++ q ∷ [])) queue) hs
    = own.forced _ _ (Put s) _ hs (put_next_step st.size base s q batch queue h) refl (refl, refl, refl) (only_queue st.size base s q batch queue h) now in
    let does : Does puts of K st.size s (model_slot st s).guards queue hs (put st s v) = after_put puts of P K st base s q v batch queue hs own holds all.0 near h first put_now in
    let falls_here : still_to_come weight (model_slot (put st s v).0 s).batch (values ++ further puts (put st s v).1) < still_to_come weight (model_slot st s).batch (v ∷ values) = falls puts weight lighter st s v values in
    let fuel : still_to_come weight (model_slot (put st s v).0 s).batch (values ++ further puts (put st s v).1) ≤ n = omega arith in
    ends_after of K size s guards hs does.handed (put st s v).1 (settle puts n (put st s v).0 s (values ++ further puts (put st s v).1)) does.gone
    (settle_ends puts weight lighter of P K n size guards (put st s v).0 does.base s does.batch (queue ++ does.more) (hs ++ does.handed) (values ++ further puts (put st s v).1) carried held.0
    (all_append P values (further puts (put st s v).1) all.1 (all_further puts P carried.closed (put st s v).1 held.1)) does.near does.within
    (denote_append of queue does.more values (further puts (put st s v).1) rest does.further_stand) (does.same_size ∙ same) (does.same_guards ∙ g) fuel does.comes)

-- a call's own work, and then what the values gone put
pub settled_ends : {T R X : Type 0} (puts : R → T → List T) (weight : T → ℕ) → Lighter puts weight → (of : Naming T R X) (P : T × R → Type 0) (K : State → List ℕ → Type 0) (size s guards : ℕ) (hs : List ℕ) (o : StateAndGone T R) → Carried puts of P s size K
    → HoldsAfter P o → Does puts of K size s guards [] hs o → Ends of K size s guards hs (with_further puts weight s o)
settled_ends {T} {R} puts weight lighter of P K size s guards hs o carried held d =
    ends_after of K size s guards hs d.handed o.1 (settle puts (still_to_come weight (model_slot o.0 s).batch (further puts o.1)) o.0 s (further puts o.1)) d.gone
    (settle_ends puts weight lighter of P K (still_to_come weight (model_slot o.0 s).batch (further puts o.1)) size guards o.0 d.base s d.batch d.more (hs ++ d.handed) (further puts o.1) carried held.0 (all_further puts P carried.closed o.1 held.1) d.near d.within d.further_stand d.same_size d.same_guards (omega arith) d.comes)
