-- Hands, attempts and retirements within a call, on both sides.
use Rattle.std.proofs.Common.{◌≡◌, ℕ, ◌<◌, ◌≤◌, pos, Bool, true, false, ◌||◌, ◌==◌, if◌then◌else◌, nat_lt, List, [], ◌∷◌, ◌++◌, length, map, get_or, set, None, refl, sym, ◌∙◌, ap, subst, arith, length-append, append_assoc, append-nil}
use Rattle.std.specs.List.{count_by, AllByRecursion}
use Rattle.std.proofs.lemmas.List.Concat.{flat_map-cons}
use Rattle.std.proofs.lemmas.List.{get_or-set_same, length-set, length-map, map-append}
use Rattle.std.proofs.Math.ListN.{get_or-map}
use Rattle.std.proofs.Math.Seq.{get_or-append_seam, set-append_seam}
use Rattle.seize_machine.specs.Machine.State as machine
use Rattle.seize_machine.specs.Machine.State.{State, Head, Batch, Mark, Rest, no_batch}
use Rattle.seize_model.specs.Waiting.State as waiting
use Rattle.seize_model.specs.Waiting.State.{model_slot, waits_for}
use Rattle.seize_model.specs.Waiting.Attempt.{StateAndGone, release, wait_if_active, attempt, gives_up, with_batch_retired, active_slots}
use Rattle.seize_model.specs.Waiting.Further.{further, put_by}
use Rattle.seize_model.specs.Agreement.Shows.{head_of}
use Rattle.seize_model.proofs.Simulation.Paths.{Carried, along}
use Rattle.seize_model.proofs.Simulation.Events.{busy, at_rest, with_gone}
use Rattle.seize_model.proofs.Simulation.Attempts.{actives, with_front, with_waiting, attempts_on, attempts_stop, place_with_waiting}
use Rattle.seize_model.proofs.Simulation.Coupling.{Near, NearAt, near_set, Denote, CoupledSlot, Naming}
use Rattle.seize_model.proofs.Simulation.Releases.{near_release, BothGone, batch_with}
use Rattle.seize_model.proofs.Simulation.Detachment.{actives_count, near_waits}
use Rattle.seize_model.proofs.Simulation.Names.{Holds, holds_detach}
use Rattle.seize_model.proofs.Cases.{either}
use Rattle.seize_model.proofs.WaitingSets.Orders.{by_active}
use Rattle.seize_model.proofs.Counts.{set_twice}

pub denote_append : {T R X : Type 0} (of : Naming T R X) (ns ms : List ℕ) (xs ys : List (T × R)) → Denote of ns xs → Denote of ms ys → Denote of (ns ++ ms) (xs ++ ys)
denote_append of ns ms xs ys e f = map-append of.name ns ms ∙ ap (λ l. l ++ map of.name ms) e ∙ ap (λ l. map of.view xs ++ l) f ∙ sym (map-append of.view xs ys)

pub denote_length : {T R X : Type 0} (of : Naming T R X) (ns : List ℕ) (xs : List (T × R)) → Denote of ns xs → length ns ≡ length xs
denote_length of ns xs e = sym (length-map ns of.name) ∙ ap length e ∙ length-map xs of.view

-- Hands.

-- the values that were given up are handed
pub record Handing {T R X : Type 0} (puts : R → T → List T) (of : Naming T R X) (K : State → List ℕ → Type 0) (base : State) (s : ℕ) (batch given walk queue hs : List ℕ) (values : List (T × R)) : Type 0 where
  pub gone : List ℕ
  pub named : List ℕ
  pub more : List ℕ
  pub comes : K (busy (record base { gone = gone; named = named }) s batch (Rest [] walk) (queue ++ more)) (hs ++ given)
  pub stand : Denote of more (further puts values)

pub hands_on : {T R X : Type 0} (puts : R → T → List T) (of : Naming T R X) (P : T × R → Type 0) (s size : ℕ) (K : State → List ℕ → Type 0) → Carried puts of P s size K
    → (base : State) (batch given walk queue hs : List ℕ) (values : List (T × R)) → s < length base.slots → Denote of given values → AllByRecursion P values
    → K (busy base s batch (Rest given walk) queue) hs → Handing puts of K base s batch given walk queue hs values
hands_on puts of P s size K carried base batch [] walk queue hs [] h e all k = record {
  gone = base.gone;
  named = base.named;
  more = [];
  comes = subst (λ (l : List ℕ). K (busy base s batch (Rest [] walk) l) (hs ++ [])) (sym (append-nil queue)) (subst (λ (l : List ℕ). K (busy base s batch (Rest [] walk) queue) l) (sym (append-nil hs)) k);
  stand = refl;
}
hands_on puts of P s size K carried base batch [] walk queue hs (x ∷ values) h e all k = absurd (cc)
hands_on puts of P s size K carried base batch (v ∷ given) walk queue hs [] h e all k = absurd (cc)
hands_on {T} {R} puts of P s size K carried base batch (v ∷ given) walk queue hs (x ∷ values) h e all k =
    let own : of.name v ≡ of.view x = cc in
    let rest_stand : Denote of given values = cc in
    let put : (ns : List ℕ) × Denote of ns (put_by puts x) × K (busy (with_gone base v ns) s batch (Rest given walk) (queue ++ ns)) (hs ++ v ∷ [])
    = carried.hands base v x batch given walk queue hs h own all.0 k in
    let on : Handing puts of K (with_gone base v put.0) s batch given walk (queue ++ put.0) (hs ++ v ∷ []) values
    = hands_on puts of P s size K carried (with_gone base v put.0) batch given walk (queue ++ put.0) (hs ++ v ∷ []) values h rest_stand all.1 put.2 in
    record {
      gone = on.gone;
      named = on.named;
      more = put.0 ++ on.more;
      comes = subst (λ (l : List ℕ). K (busy (record base { gone = on.gone; named = on.named }) s batch (Rest [] walk) l) (hs ++ v ∷ given)) (append_assoc queue put.0 on.more)
          (subst (λ (l : List ℕ). K (busy (record base { gone = on.gone; named = on.named }) s batch (Rest [] walk) ((queue ++ put.0) ++ on.more)) l) (append_assoc hs (v ∷ []) given) on.comes);
      stand = denote_append of put.0 on.more (put_by puts x) (further puts values) put.1 on.stand ∙ ap (λ l. map of.view l) (sym (flat_map-cons (put_by puts) x values));
    }

-- A piece of the work of a call of s, to where the call goes on with its queue.
pub record Does {T R X : Type 0} (puts : R → T → List T) (of : Naming T R X) (K : State → List ℕ → Type 0) (size s guards : ℕ) (queue hs : List ℕ) (o : StateAndGone T R) : Type 0 where
  pub base : State
  pub batch : List ℕ
  pub more : List ℕ
  pub handed : List ℕ
  pub comes : K (busy base s batch (Rest [] []) (queue ++ more)) (hs ++ handed)
  pub near : NearAt of [] o.0 (at_rest base s batch)
  pub gone : Denote of handed o.1
  pub further_stand : Denote of more (further puts o.1)
  pub within : s < length base.slots
  pub same_size : o.0.size ≡ size
  pub same_guards : (model_slot o.0 s).guards ≡ guards

pub nothing_done : {T R X : Type 0} (puts : R → T → List T) (of : Naming T R X) (K : State → List ℕ → Type 0) (st : waiting.ModelState T R) (base : State) (s : ℕ) (batch queue hs : List ℕ) → NearAt of [] st (at_rest base s batch) → s < length base.slots
    → K (busy base s batch (Rest [] []) queue) hs → Does puts of K st.size s (model_slot st s).guards queue hs (st, [])
nothing_done puts of K st base s batch queue hs n h k = record {
  base = base;
  batch = batch;
  more = [];
  handed = [];
  comes = subst (λ (q : List ℕ). K (busy base s batch (Rest [] []) q) (hs ++ [])) (sym (append-nil queue)) (subst (λ (l : List ℕ). K (busy base s batch (Rest [] []) queue) l) (sym (append-nil hs)) k);
  near = n;
  gone = refl;
  further_stand = refl;
  within = h;
  same_size = refl;
  same_guards = refl;
}

-- Attempts.

pub in_slots : {T R X : Type 0} (of : Naming T R X) (st : waiting.ModelState T R) (base : State) (s : ℕ) (batch : List ℕ) → NearAt of [] st (at_rest base s batch) → length base.slots ≡ length st.slots
in_slots of st base s batch n = sym (length-set base.slots s _) ∙ n.as_many

pub in_heads : {T R X : Type 0} (of : Naming T R X) (st : waiting.ModelState T R) (base : State) (s : ℕ) (batch : List ℕ) → NearAt of [] st (at_rest base s batch) → length base.heads ≡ length base.slots
in_heads of st base s batch n = ap length n.heads_are ∙ length-map st.slots head_of ∙ sym (in_slots of st base s batch n)

-- the slot of the call, between its pieces of work
pub own_slot : {T R X : Type 0} (of : Naming T R X) (st : waiting.ModelState T R) (base : State) (s : ℕ) (batch : List ℕ) → NearAt of [] st (at_rest base s batch) → s < length base.slots
    → CoupledSlot of (model_slot st s) (record { used = true; batch = batch; call = None })
own_slot {T} {R} of st base s batch n h = subst (λ x. CoupledSlot of (model_slot st s) x) (get_or-set_same base.slots s _ machine.no_slot h) (n.slot s)

-- with another batch on both sides
pub near_batch : {T R X : Type 0} (of : Naming T R X) (st : waiting.ModelState T R) (base : State) (s : ℕ) (batch new : List ℕ) (values : List (T × R)) → NearAt of [] st (at_rest base s batch) → s < length base.slots → Denote of new values
    → NearAt of [] (waiting.set_slot st s (record (model_slot st s) { batch = values })) (at_rest base s new)
near_batch of st base s batch new values n h stand =
    let own : CoupledSlot of (model_slot st s) (record { used = true; batch = batch; call = None }) = own_slot of st base s batch n h in
    let within : s < length st.slots = rw (← in_slots of st base s batch n) h in
    subst (λ (l : List machine.Slot). Near of [] (waiting.set_slot st s (record (model_slot st s) { batch = values })) l base.heads base.batches base.links base.rest) (set_twice base.slots s _ _)
    (near_set of [] st (at_rest base s batch).slots base.heads base.batches base.links base.rest s (record (model_slot st s) { batch = values }) (record { used = true; batch = new; call = None }) n within
    (record { used = own.used; idle = refl; batch = stand; free = own.free; owned = own.owned; inactive = own.inactive; once = own.once }) refl refl)

waits_guards : {T R : Type 0} (b : ℕ) (slot : waiting.ModelSlot T R) → (wait_if_active b slot).guards ≡ slot.guards
waits_guards b slot = by_active (λ x t. x.guards ≡ slot.guards) b slot (λ e. refl) (λ e. refl)

detached_guards : {T R : Type 0} (st : waiting.ModelState T R) (s : ℕ) → s < length st.slots → (model_slot (with_batch_retired st s) s).guards ≡ (model_slot st s).guards
detached_guards {T} {R} st s h =
    ap (λ (x : waiting.ModelSlot T R). x.guards) (get_or-map (wait_if_active (length st.retired)) (set st.slots s (record (model_slot st s) { batch = [] })) s waiting.unmade_slot)
    ∙ waits_guards (length st.retired) _
    ∙ ap (λ (x : waiting.ModelSlot T R). x.guards) (get_or-set_same st.slots s (record (model_slot st s) { batch = [] }) waiting.unmade_slot h)

pub attempt_does : {T R X : Type 0} (puts : R → T → List T) (of : Naming T R X) (P : T × R → Type 0) (K : State → List ℕ → Type 0) (st : waiting.ModelState T R) (base : State) (s : ℕ) (batch queue hs : List ℕ) → Carried puts of P s st.size K
    → Holds T R P st → NearAt of [] st (at_rest base s batch) → s < length base.slots → 1 ≤ length batch
    → K (busy base s batch (Mark 0 (length base.slots) []) queue) hs → Does puts of K st.size s (model_slot st s).guards queue hs (attempt st s)
attempt_does {T} {R} puts of P K st base s batch queue hs carried holds n h some k =
    go (gives_up st s) refl
  where
    own : CoupledSlot of (model_slot st s) (record { used = true; batch = batch; call = None })
    own = own_slot of st base s batch n h

    all : length base.heads ≡ length base.slots
    all = in_heads of st base s batch n

    long : length batch ≡ length (model_slot st s).batch
    long = denote_length of batch (model_slot st s).batch own.batch

    active : length (actives 0 base.heads) ≡ active_slots st
    active = ap (λ (l : List Head). length (actives 0 l)) n.heads_are ∙ actives_count 0 st.slots

    gives : (a b c d : ℕ) → 1 ≤ a → a ≡ b → c ≡ d → ((b == 0) || nat_lt b d) ≡ true → a < c
    gives a b c d p e f g = grind arith

    keeps_on : (a b c d : ℕ) → 1 ≤ a → a ≡ b → c ≡ d → ((b == 0) || nat_lt b d) ≡ false → c ≤ a
    keeps_on a b c d p e f g = grind arith

    within : s < length st.slots
    within = rw (← in_slots of st base s batch n) h

    emptied : waiting.ModelState T R
    emptied = waiting.set_slot st s (record (model_slot st s) { batch = [] })

    on : gives_up st s ≡ false → Does puts of K st.size s (model_slot st s).guards queue hs (release (with_batch_retired st s) (length st.retired))
    on e =
        let b : ℕ = length st.retired in
        let won : ℕ = length (actives 0 base.heads) in
        let fresh : Batch = record { values = batch; count = pos won } in
        let kept : NearAt of [] (waiting.set_slot st s (record (model_slot st s) { batch = [] })) (at_rest base s []) = near_batch of st base s batch [] [] n h refl in
        let waits : (count_by (waits_for b) (with_batch_retired st s).slots ≡ won) × Near of [] (with_batch_retired st s) (at_rest base s []).slots (map (with_front b) base.heads) (base.batches ++ fresh ∷ []) base.links base.rest
        = near_waits of batch (model_slot st s).batch (waiting.set_slot st s (record (model_slot st s) { batch = [] })) (at_rest base s []).slots base.heads base.batches base.links base.rest kept own.batch in
        let last : b < length (base.batches ++ fresh ∷ []) = omega (arith, length-append base.batches (fresh ∷ []), n.retired) in
        let gone : BothGone of b [] (at_rest base s []).slots (map (with_front b) base.heads) (base.batches ++ fresh ∷ []) base.links base.rest won (won == 0) (release (with_batch_retired st s) b)
        = subst (λ (k : ℕ). BothGone of b [] (at_rest base s []).slots (map (with_front b) base.heads) (base.batches ++ fresh ∷ []) base.links base.rest k (k == 0) (release (with_batch_retired st s) b)) waits.0
        (near_release of b [] (with_batch_retired st s) (at_rest base s []).slots (map (with_front b) base.heads) (base.batches ++ fresh ∷ []) base.links base.rest waits.1 last refl) in
        let place : b ≡ length base.batches = sym n.retired in
        let own_batch : get_or (base.batches ++ fresh ∷ []) b no_batch ≡ fresh = rw place (get_or-append_seam base.batches fresh [] no_batch) in
        let put_there : batch_with (base.batches ++ fresh ∷ []) b (won == 0) (pos won) ≡ (with_waiting base batch).batches
        = ap (λ (x : Batch). set (base.batches ++ fresh ∷ []) b (record { values = if won == 0 then [] else x.values; count = pos won })) own_batch
        ∙ ap (λ (k : ℕ). set (base.batches ++ fresh ∷ []) k (record { values = if won == 0 then [] else batch; count = pos won })) place
        ∙ set-append_seam base.batches fresh [] _ in
        let near : NearAt of [] (release (with_batch_retired st s) b).0 (at_rest (with_waiting base batch) s [])
        = subst (λ (k : ℕ). Near of [] (release (with_batch_retired st s) b).0 (at_rest base s []).slots (map (with_front k) base.heads) (with_waiting base batch).batches base.links base.rest) place
        (subst (λ (l : List Batch). Near of [] (release (with_batch_retired st s) b).0 (at_rest base s []).slots (map (with_front b) base.heads) l base.links base.rest) put_there gone.0) in
        let stand : Denote of (if won == 0 then batch else []) (release (with_batch_retired st s) b).1
        = subst (λ (x : Batch). Denote of (if won == 0 then x.values else []) (release (with_batch_retired st s) b).1) own_batch gone.1 in
        let tried : K (busy (with_waiting base batch) s [] (place_with_waiting base batch) queue) hs
        = along puts of P s st.size K carried _ _ hs (attempts_on st.size base s batch queue h all (keeps_on _ _ _ _ some long active e)) k in
        let handing : Handing puts of K (with_waiting base batch) s [] (if won == 0 then batch else []) [] queue hs (release (with_batch_retired st s) (length st.retired)).1
        = hands_on puts of P s st.size K carried (with_waiting base batch) [] (if won == 0 then batch else []) [] queue hs (release (with_batch_retired st s) (length st.retired)).1 h stand (holds_detach P st s holds).1 tried in
        record {
          base = record (with_waiting base batch) { gone = handing.gone; named = handing.named };
          batch = [];
          more = handing.more;
          handed = if won == 0 then batch else [];
          comes = handing.comes;
          near = near;
          gone = stand;
          further_stand = handing.stand;
          within = h;
          same_size = either (λ (o : StateAndGone T R). o.0.size ≡ st.size) (waiting.is_kept (with_batch_retired st s) b) _ _ refl refl;
          same_guards = either (λ (o : StateAndGone T R). (model_slot o.0 s).guards ≡ (model_slot st s).guards) (waiting.is_kept (with_batch_retired st s) b) _ _ (detached_guards st s within) (detached_guards st s within);
        }

    go : (t : Bool) → gives_up st s ≡ t → Does puts of K st.size s (model_slot st s).guards queue hs (if t then (st, []) else release (with_batch_retired st s) (length st.retired))
    go true e = nothing_done puts of K st base s batch queue hs n h (along puts of P s st.size K carried _ _ hs (attempts_stop st.size base s batch queue h all (gives _ _ _ _ some long active e)) k)
    go false e = on e
