-- What the steps of a call keep, each call keeps.
use Rattle.std.proofs.Common.{◌≡◌, ℕ, zero, suc, ◌+◌, ◌-◌, ◌^◌, ◌≤◌, Bool, true, false, not, ◌||◌, ◌==◌, if◌then◌else◌, List, [], ◌∷◌, ◌++◌, length, set, Option, Some, None, Result, Ok, Err, refl, sym, ◌∙◌, ap, subst, arith}
use Rattle.std.proofs.lemmas.List.{get_or-set_same}
use Rattle.seize_table.specs.declared.refusal.Refusal.{Refusal}
use Rattle.seize_model.specs.declared.kind.Kind.{Kind}
use Rattle.seize_model.specs.declared.kind.Kind.TheVariants.{Registered, Owned}
use Rattle.seize_model.specs.Waiting.State.{ModelSlot, ModelState, model_slot, unmade_slot, has_guard}
use Rattle.seize_model.specs.Waiting.Attempt.{StateAndGone, attempt, attempt_if_full, put, part}
use Rattle.seize_model.specs.Waiting.Further.{further, settle, still_to_come, with_further}
use Rattle.seize_model.specs.Waiting.Calls as calls
use Rattle.seize_model.specs.Waiting.Calls.{is_free, is_owned, least_unused, with_number_in_use, set_guards, others_in_use, rest_and_batch, with_rest_gathered, gathers, with_number_free, give_back, taking, gathering}
use Rattle.seize_model.specs.Waiting.Lists.{Call, Register, EnterOwned, Enter, Leave, End, Refresh, Flush, Retire, Protect, Swap, step, retire_old}
use Rattle.seize_model.proofs.Cases.{either}
use Rattle.seize_model.proofs.Counts.{same_at}
use Rattle.seize_model.proofs.WaitingSets.Beside.{Ignores, ignores_of, attempt_beside, full_beside, put_beside, part_beside, settled_beside}
use Rattle.seize_model.proofs.WaitingSets.Taken.{slot_taken, none_more}
use Rattle.seize_model.proofs.WaitingSets.Refusals.{IsUsed, IsIdle, in_use, used_of, guard_of, none_of_two, registered_of}

-- what a slot in use shows, steps leave as it is
pub ignores_kind : {T R : Type 0} (i : ℕ) → Ignores (λ (st : ModelState T R). is_free (model_slot st i).kind)
ignores_kind {T} {R} i = ignores_of (λ (x : ModelSlot T R). is_free x.kind) (λ slot batch order. refl) i

pub ignores_guards : {T R : Type 0} (i : ℕ) → Ignores (λ (st : ModelState T R). (model_slot st i).guards)
ignores_guards {T} {R} i = ignores_of (λ (x : ModelSlot T R). x.guards) (λ slot batch order. refl) i

-- the steps of calls keep this of a state
pub record Invariant {T R : Type 0} (puts : R → T → List T) (weight : T → ℕ) (P : ModelState T R → Type 0) : Type 0 where
  pub owned : (st : ModelState T R) (s : ℕ) → P st → is_owned (model_slot st s).kind ≡ true → (model_slot st s).guards ≤ 1
  pub taking : (st : ModelState T R) (kind : Kind) → is_free kind ≡ false → P st → P (attempt_if_full (with_number_in_use st (least_unused st.slots) kind) (least_unused st.slots)).0
  pub ending : (st : ModelState T R) (s : ℕ) → IsIdle st s → P st → P (give_back puts weight st s).0
  pub guarding : (st : ModelState T R) (s n : ℕ) → IsUsed st s → 1 ≤ n → (is_owned (model_slot st s).kind ≡ true → n ≤ 1) → P st → P (set_guards st s n)
  pub leaving : (st : ModelState T R) (s : ℕ) → IsUsed st s → P st → P (part (set_guards st s 0) s).0
  pub parting : (st : ModelState T R) (s : ℕ) → IsUsed st s → P st → P (part st s).0
  pub attempt_by : (st : ModelState T R) (s : ℕ) → IsUsed st s → P st → P (attempt st s).0
  pub retirement : (st : ModelState T R) (s : ℕ) (v : T × R) → IsUsed st s → P st → P (put st s v).0
  pub link_change : (st : ModelState T R) (link : ℕ) (new : Option T) → P st → P (record st { links = set st.links link new })

module _ {T R : Type 0} (P : ModelState T R → Type 0) (puts : R → T → List T) (weight : T → ℕ) (retirement : (st : ModelState T R) (s : ℕ) (v : T × R) → IsUsed st s → P st → P (put st s v).0) where
  settle_keeps : (m : ℕ) (st : ModelState T R) (s : ℕ) (queue : List (T × R)) → IsUsed st s → P st → P (settle puts m st s queue).0
  settle_keeps zero st s queue used h = h
  settle_keeps (suc m) st s [] used h = h
  settle_keeps (suc m) st s (v ∷ queue) used h =
      settle_keeps m (put st s v).0 s (queue ++ further puts (put st s v).1) (put_beside (λ (k : ModelState T R). is_free (model_slot k s).kind) (ignores_kind s) st s v ∙ used) (retirement st s v used h)

  pub settled_keeps : (s : ℕ) (o : StateAndGone T R) → IsUsed o.0 s → P o.0 → P (with_further puts weight s o).0
  settled_keeps s o used h = settle_keeps (still_to_come weight (model_slot o.0 s).batch (further puts o.1)) o.0 s (further puts o.1) used h

-- a gathering, after which the slot is idle still
gathered_idle : {T R : Type 0} (puts : R → T → List T) (weight : T → ℕ) (st : ModelState T R) (s : ℕ) → IsIdle st s
    → IsUsed (attempt (with_rest_gathered st s) s).0 s × IsIdle (gathering puts weight st s).0 s
gathered_idle {T} {R} puts weight st s idle =
    let kind : is_free (model_slot (attempt (with_rest_gathered st s) s).0 s).kind ≡ false = attempt_beside (λ (k : ModelState T R). is_free (model_slot k s).kind) (ignores_kind s) (with_rest_gathered st s) s ∙ (ignores_kind s).slot st s (rest_and_batch st s) (model_slot st s).order ∙ idle.0 in
    let guards : (model_slot (attempt (with_rest_gathered st s) s).0 s).guards ≡ (model_slot st s).guards = attempt_beside (λ (k : ModelState T R). (model_slot k s).guards) (ignores_guards s) (with_rest_gathered st s) s ∙ (ignores_guards s).slot st s (rest_and_batch st s) (model_slot st s).order in (
      kind,
      (
        settled_beside puts weight (λ (k : ModelState T R). is_free (model_slot k s).kind) (ignores_kind s) s (attempt (with_rest_gathered st s) s) ∙ kind,
        ap (λ (n : ℕ). not (n == 0)) (settled_beside puts weight (λ (k : ModelState T R). (model_slot k s).guards) (ignores_guards s) s (attempt (with_rest_gathered st s) s) ∙ guards) ∙ idle.1,
      ),
    )

-- what gatherings keep, and the freeing of a number, is kept where a number is given back
pub gives_keep : {T R : Type 0} (P : ModelState T R → Type 0) (puts : R → T → List T) (weight : T → ℕ)
    → ((st : ModelState T R) (s : ℕ) (v : T × R) → IsUsed st s → P st → P (put st s v).0)
    → ((st : ModelState T R) (s : ℕ) → IsIdle st s → P st → P (attempt (with_rest_gathered st s) s).0)
    → ((st : ModelState T R) (s : ℕ) → IsIdle st s → P st → P (with_number_free st s))
    → (st : ModelState T R) (s : ℕ) → IsIdle st s → P st → P (give_back puts weight st s).0
gives_keep {T} {R} P puts weight retirement gathered freeing st s idle h =
    let ends : IsIdle (gathers puts weight _ st s).0 s × P (gathers puts weight _ st s).0 = rounds _ st idle h in
    freeing (gathers puts weight _ st s).0 s ends.0 ends.1
  where
    rounds : (n : ℕ) (st : ModelState T R) → IsIdle st s → P st → IsIdle (gathers puts weight n st s).0 s × P (gathers puts weight n st s).0
    rounds zero st idle h = (idle, h)
    rounds (suc n) st idle h =
        let o : StateAndGone T R = attempt (with_rest_gathered st s) s in
        let still : IsUsed (attempt (with_rest_gathered st s) s).0 s × IsIdle (gathering puts weight st s).0 s = gathered_idle puts weight st s idle in
        either (λ (o : StateAndGone T R). IsIdle o.0 s × P o.0) (others_in_use st s || (length (rest_and_batch st s) == 0)) _ _ (idle, h)
        (rounds n (gathering puts weight st s).0 still.1 (settled_keeps P puts weight retirement s o still.0 (gathered st s idle h)))

module _ {T R : Type 0} (P : ModelState T R → Type 0) (puts : R → T → List T) (weight : T → ℕ) (inv : Invariant puts weight P) where
  unless_keeps : {A : Type 0} (refusal : Option Refusal) (st : ModelState T R) (a : calls.Response A T R)
      → P st → (refusal ≡ None → P a.1.0) → P (calls.unless refusal st a).1.0
  unless_keeps None st a h k = k refl
  unless_keeps (Some r) st a h k = h

  further_keeps : (s : ℕ) (o : StateAndGone T R) → IsUsed o.0 s → P o.0 → P (with_further puts weight s o).0
  further_keeps = settled_keeps P puts weight inv.retirement

  -- the slot whose number was taken
  taken_keeps : (st : ModelState T R) (kind : Kind) → is_free kind ≡ false → P st
      → (let o : StateAndGone T R = taking puts weight st (least_unused st.slots) kind in
      P o.0 × IsUsed o.0 (least_unused st.slots) × ((model_slot o.0 (least_unused st.slots)).guards ≡ 0))
  taken_keeps st kind used h =
      let n : ℕ = least_unused st.slots in
      let taken : ModelState T R = with_number_in_use st (least_unused st.slots) kind in
      let o : StateAndGone T R = attempt_if_full (with_number_in_use st (least_unused st.slots) kind) (least_unused st.slots) in
      let kinds : is_free (model_slot o.0 n).kind ≡ false = full_beside (λ (k : ModelState T R). is_free (model_slot k n).kind) (ignores_kind n) taken n ∙ ap (λ (x : ModelSlot T R). is_free x.kind) (slot_taken st kind) ∙ used in
      let guards : (model_slot o.0 n).guards ≡ 0 = full_beside (λ (k : ModelState T R). (model_slot k n).guards) (ignores_guards n) taken n ∙ ap (λ (x : ModelSlot T R). x.guards) (slot_taken st kind) in (
        further_keeps n o kinds (inv.taking st kind used h),
        settled_beside puts weight (λ (k : ModelState T R). is_free (model_slot k n).kind) (ignores_kind n) n o ∙ kinds,
        settled_beside puts weight (λ (k : ModelState T R). (model_slot k n).guards) (ignores_guards n) n o ∙ guards,
      )

  register_keeps : (st : ModelState T R) → P st → P (calls.take_number puts weight st Registered 0).1.0
  register_keeps st h =
      let taken = taken_keeps st Registered refl h in
      either (λ (a : calls.Response ℕ T R). P a.1.0) (least_unused st.slots == 2 ^ 64 - 32) _ _ h
      (subst P (sym (none_more _ (least_unused st.slots) taken.2)) taken.0)

  owned_keeps : (st : ModelState T R) → P st → P (calls.take_number puts weight st Owned 1).1.0
  owned_keeps st h =
      let taken = taken_keeps st Owned refl h in
      either (λ (a : calls.Response ℕ T R). P a.1.0) (least_unused st.slots == 2 ^ 64 - 32) _ _ h
      (inv.guarding _ (least_unused st.slots) 1 taken.1 (omega arith) (λ e. omega arith) taken.0)

  -- a slot that has left, whose number is given back if it is owned
  left_keeps : (st : ModelState T R) (s : ℕ) → IsUsed st s × (has_guard (model_slot st s) ≡ true) → P st
      → P (calls.given_back_if puts weight (is_owned (model_slot st s).kind) s (with_further puts weight s (calls.one_guard_less st s))).0
  left_keeps st s g h = go ((model_slot st s).guards == 1) refl (is_owned (model_slot st s).kind) refl
    where
      parted : StateAndGone T R
      parted = part (set_guards st s 0) s

      used : IsUsed (part (set_guards st s 0) s).0 s
      used = part_beside (λ (k : ModelState T R). is_free (model_slot k s).kind) (ignores_kind s) (set_guards st s 0) s
          ∙ same_at (λ (x : ModelSlot T R). is_free x.kind) st.slots s (record (model_slot st s) { guards = 0 }) unmade_slot refl s ∙ g.0

      off : (model_slot (part (set_guards st s 0) s).0 s).guards ≡ 0
      off = part_beside (λ (k : ModelState T R). (model_slot k s).guards) (ignores_guards s) (set_guards st s 0) s
          ∙ ap (λ (x : ModelSlot T R). x.guards) (get_or-set_same st.slots s (record (model_slot st s) { guards = 0 }) unmade_slot (in_use st s g.0))

      idle : IsIdle (with_further puts weight s (part (set_guards st s 0) s)).0 s
      idle = (
        settled_beside puts weight (λ (k : ModelState T R). is_free (model_slot k s).kind) (ignores_kind s) s (part (set_guards st s 0) s) ∙ used,
        ap (λ (n : ℕ). not (n == 0)) (settled_beside puts weight (λ (k : ModelState T R). (model_slot k s).guards) (ignores_guards s) s (part (set_guards st s 0) s) ∙ off),
      )

      last : P (with_further puts weight s (part (set_guards st s 0) s)).0
      last = further_keeps s (part (set_guards st s 0) s) used (inv.leaving st s g.0 h)

      many : (n : ℕ) → not (n == 0) ≡ true → (n == 1) ≡ false → 2 ≤ n
      many n e f = grind arith

      less : 2 ≤ (model_slot st s).guards → is_owned (model_slot st s).kind ≡ false → P (set_guards st s ((model_slot st s).guards - 1))
      less some is = inv.guarding st s ((model_slot st s).guards - 1) g.0 (omega arith) (λ e. absurd (let c : true ≡ false = sym e ∙ is in cc)) h

      go : (t : Bool) → ((model_slot st s).guards == 1) ≡ t → (owned : Bool) → is_owned (model_slot st s).kind ≡ owned
          → P (calls.given_back_if puts weight owned s (with_further puts weight s (if t then part (set_guards st s 0) s else (set_guards st s ((model_slot st s).guards - 1), [])))).0
      go true e true is = inv.ending (with_further puts weight s (part (set_guards st s 0) s)).0 s idle last
      go true e false is = last
      go false e true is = let some : 2 ≤ (model_slot st s).guards = many _ g.1 e in absurd (omega (arith, some, inv.owned st s h is))
      go false e false is =
          further_keeps s (set_guards st s ((model_slot st s).guards - 1), []) (same_at (λ (x : ModelSlot T R). is_free x.kind) st.slots s (record (model_slot st s) { guards = (model_slot st s).guards - 1 }) unmade_slot refl s ∙ g.0) (less (many _ g.1 e) is)

  retire_keeps : (st : ModelState T R) (s : ℕ) (value : T) (reclaim : R) → P st → P (calls.retire puts weight st s value reclaim).1.0
  retire_keeps st s value reclaim h =
      unless_keeps (calls.unused st s) st _ h (λ e.
      let used : IsUsed st s = used_of st s e in
      further_keeps s (put st s (value, reclaim)) (put_beside (λ (k : ModelState T R). is_free (model_slot k s).kind) (ignores_kind s) st s (value, reclaim) ∙ used) (inv.retirement st s (value, reclaim) used h))

  pub swap_keeps : (st : ModelState T R) (s link : ℕ) (new : Option T) → P st → P (calls.swap st s link new).1.0
  swap_keeps st s link new h = unless_keeps (calls.no_guard st s) st _ h (λ e. inv.link_change st link new h)

  swapped_keeps : (s : ℕ) (new : Option T) (reclaim : R) (answer : Result (Option T) Refusal) (o : StateAndGone T R)
      → P o.0 → P (retire_old puts weight s new reclaim answer o).1.0
  swapped_keeps s new reclaim (Err r) o h = h
  swapped_keeps s new reclaim (Ok None) o h = h
  swapped_keeps s new reclaim (Ok (Some v)) o h = retire_keeps o.0 s v reclaim h

  pub step_keeps : (st : ModelState T R) (call : Call T R) → P st → P (step puts weight st call).1.0
  step_keeps st Register h = register_keeps st h
  step_keeps st EnterOwned h = owned_keeps st h
  step_keeps st (Enter s) h =
      unless_keeps (calls.first_refusal (calls.not_registered st s) (calls.too_many st s)) st _ h (λ e.
      let known : IsUsed st s × (is_owned (model_slot st s).kind ≡ false) = registered_of st s (none_of_two (calls.not_registered st s) (calls.too_many st s) e).0 in
      inv.guarding st s ((model_slot st s).guards + 1) known.0 (omega arith) (λ f. absurd (let c : true ≡ false = sym f ∙ known.1 in cc)) h)
  step_keeps st (Leave s) h = unless_keeps (calls.no_guard st s) st _ h (λ e. left_keeps st s (guard_of st s e) h)
  step_keeps st (End s) h =
      unless_keeps (calls.not_registered st s) st _ h (λ e. go ((registered_of st s e).0) (has_guard (model_slot st s)) refl)
    where
      go : IsUsed st s → (t : Bool) → has_guard (model_slot st s) ≡ t → (let a : calls.Response Bool T R = if t then (Ok false, (st, [])) else (Ok true, give_back puts weight st s) in P a.1.0)
      go used true e = h
      go used false e = inv.ending st s (used, e) h
  step_keeps st (Refresh s) h =
      unless_keeps (calls.no_guard st s) st _ h (λ e.
      let used : IsUsed st s = (guard_of st s e).0 in
      further_keeps s (calls.part_if_alone st s)
      (either (λ (o : StateAndGone T R). IsUsed o.0 s) (is_owned (model_slot st s).kind || ((model_slot st s).guards == 1)) _ _ (part_beside (λ (k : ModelState T R). is_free (model_slot k s).kind) (ignores_kind s) st s ∙ used) used)
      (either (λ (o : StateAndGone T R). P o.0) (is_owned (model_slot st s).kind || ((model_slot st s).guards == 1)) _ _ (inv.parting st s used h) h))
  step_keeps st (Flush s) h =
      unless_keeps (calls.no_guard st s) st _ h (λ e.
      let used : IsUsed st s = (guard_of st s e).0 in
      further_keeps s (attempt st s) (attempt_beside (λ (k : ModelState T R). is_free (model_slot k s).kind) (ignores_kind s) st s ∙ used) (inv.attempt_by st s used h))
  step_keeps st (Retire s v r) h = retire_keeps st s v r h
  step_keeps st (Protect s l) h = unless_keeps (calls.no_guard st s) st _ h (λ e. h)
  step_keeps st (Swap s l new r) h = swapped_keeps s new r (calls.swap st s l new).0 (calls.swap st s l new).1 (swap_keeps st s l new h)
