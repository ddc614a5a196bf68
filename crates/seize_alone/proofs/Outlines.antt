-- What calls leave as it is, beside the size: the outline of a state, which is each slot's kind and number of guards, and the links.
use Rattle.std.proofs.Common.{◌≡◌, ℕ, zero, suc, ◌==◌, ◌-◌, ◌||◌, Bool, true, false, if◌then◌else◌, List, [], ◌∷◌, ◌++◌, length, get_or, map, set, Option, Some, None, refl, sym, ◌∙◌, ap}
use Rattle.std.specs.Prelude.{Ok}
use Rattle.std.proofs.Math.ListN.{get_or-map}
use Rattle.std.proofs.Math.Seq.{map-set_same}
use Rattle.std.proofs.lemmas.List.{length-map, length-set}
use Rattle.seize_table.specs.declared.refusal.Refusal.{Refusal}
use Rattle.seize_machine.proofs.Facts.{eq_true}
use Rattle.seize_model.specs.declared.kind.Kind.{Kind}
use Rattle.seize_model.specs.declared.kind.Kind.TheVariants.{Free}
use Rattle.seize_model.specs.Waiting.State.{ModelSlot, ModelState, has_guard, unmade_slot, set_slot, model_slot}
use Rattle.seize_model.specs.Waiting.Attempt.{StateAndGone, attempt, attempt_if_full, gives_up, is_full, part, put, release, release_all, wait_if_active, with_batch_retired, with_batch_value}
use Rattle.seize_model.specs.Waiting.Calls.{flush, gathering, is_owned, no_guard, one_guard_less, part_if_alone, refresh, rest_and_batch, retire, set_guards, taking, unless, unused, with_number_free, with_number_in_use, with_rest_gathered}
use Rattle.seize_model.specs.Waiting.Further.{afterwards, further, settle, with_further}
use Rattle.seize_model.proofs.Cases.{either}
use Rattle.seize_model.proofs.WaitingSets.Beside.{releases_beside}
use Rattle.seize_alone.specs.Calls.{OutlineStays, SameOutline}

abbrev pub outline_of : {T R : Type 0} → ModelSlot T R → Kind × ℕ
outline_of slot = (slot.kind, slot.guards)

abbrev pub outline : {T R : Type 0} → ModelState T R → List (Kind × ℕ)
outline st = map outline_of st.slots

-- the outline and the links
abbrev pub frame : {T R : Type 0} → ModelState T R → List (Kind × ℕ) × List (Option T)
frame st = (outline st, st.links)

-- Readers. `a` and `b` are explicit: an equation of outlines does not determine the states.

module _ {T R : Type 0} where
  pub outline_at : (st : ModelState T R) (t : ℕ) → get_or (outline st) t (Free, 0) ≡ outline_of (model_slot st t)
  outline_at st t = get_or-map outline_of st.slots t unmade_slot

  pub slot_in : (a b : ModelState T R) → outline a ≡ outline b → (t : ℕ) → outline_of (model_slot a t) ≡ outline_of (model_slot b t)
  slot_in a b same t = sym (outline_at a t) ∙ ap (λ (l : List (Kind × ℕ)). get_or l t (Free, 0)) same ∙ outline_at b t

  pub kind_in : (a b : ModelState T R) → outline a ≡ outline b → (t : ℕ) → (model_slot a t).kind ≡ (model_slot b t).kind
  kind_in a b same t = ap (λ (o : Kind × ℕ). o.0) (slot_in a b same t)

  pub guards_in : (a b : ModelState T R) → outline a ≡ outline b → (t : ℕ) → (model_slot a t).guards ≡ (model_slot b t).guards
  guards_in a b same t = ap (λ (o : Kind × ℕ). o.1) (slot_in a b same t)

  pub slots_in : (a b : ModelState T R) → outline a ≡ outline b → length a.slots ≡ length b.slots
  slots_in a b same = sym (length-map a.slots outline_of) ∙ ap (λ (l : List (Kind × ℕ)). length l) same ∙ length-map b.slots outline_of

-- The parts of calls.

module _ {T R : Type 0} where
  pub set_frame : (st : ModelState T R) (s : ℕ) (slot : ModelSlot T R) → outline_of slot ≡ outline_of (model_slot st s) → frame (set_slot st s slot) ≡ frame st
  set_frame st s slot same = ap (λ (l : List (Kind × ℕ)). (l, st.links)) (map-set_same outline_of st.slots s slot unmade_slot same)

  waits_outline : (b : ℕ) (slots : List (ModelSlot T R)) → map outline_of (map (wait_if_active b) slots) ≡ map outline_of slots
  waits_outline b [] = refl
  waits_outline b (slot ∷ slots) =
      ap (λ (o : Kind × ℕ). o ∷ map outline_of (map (wait_if_active b) slots)) (either (λ (x : ModelSlot T R). outline_of x ≡ outline_of slot) (has_guard slot) _ _ refl refl)
      ∙ ap (λ (l : List (Kind × ℕ)). outline_of slot ∷ l) (waits_outline b slots)

  pub released_frame : (st : ModelState T R) (bs : List ℕ) → frame (release_all st bs).0 ≡ frame st
  released_frame st bs = releases_beside (λ (k : ModelState T R). frame k) (λ k retired. refl) st bs

  pub release_frame : (st : ModelState T R) (b : ℕ) → frame (release st b).0 ≡ frame st
  release_frame st b = released_frame st (b ∷ [])

  pub part_frame : (st : ModelState T R) (s : ℕ) → frame (part st s).0 ≡ frame st
  part_frame st s = released_frame (set_slot st s (record (model_slot st s) { order = [] })) (model_slot st s).order ∙ set_frame st s (record (model_slot st s) { order = [] }) refl

  retired_frame : (st : ModelState T R) (s : ℕ) → frame (with_batch_retired st s) ≡ frame st
  retired_frame st s =
      ap (λ (l : List (Kind × ℕ)). (l, st.links)) (waits_outline (length st.retired) (set st.slots s (record (model_slot st s) { batch = [] })))
      ∙ set_frame st s (record (model_slot st s) { batch = [] }) refl

  pub attempt_frame : (st : ModelState T R) (s : ℕ) → frame (attempt st s).0 ≡ frame st
  attempt_frame st s = either (λ (o : StateAndGone T R). frame o.0 ≡ frame st) (gives_up st s) _ _ refl (release_frame (with_batch_retired st s) (length st.retired) ∙ retired_frame st s)

  pub full_frame : (st : ModelState T R) (s : ℕ) → frame (attempt_if_full st s).0 ≡ frame st
  full_frame st s = either (λ (o : StateAndGone T R). frame o.0 ≡ frame st) (is_full st.size (model_slot st s).batch) _ _ (attempt_frame st s) refl

  pub put_frame : (st : ModelState T R) (s : ℕ) (v : T × R) → frame (put st s v).0 ≡ frame st
  put_frame st s v = full_frame (with_batch_value st s v) s ∙ set_frame st s (record (model_slot st s) { batch = (model_slot st s).batch ++ v ∷ [] }) refl

  pub settle_frame : (puts : R → T → List T) (n : ℕ) (st : ModelState T R) (s : ℕ) (queue : List (T × R)) → frame (settle puts n st s queue).0 ≡ frame st
  settle_frame puts zero st s queue = refl
  settle_frame puts (suc n) st s [] = refl
  settle_frame puts (suc n) st s (v ∷ queue) = settle_frame puts n (put st s v).0 s (queue ++ further puts (put st s v).1) ∙ put_frame st s v

  pub alone_frame : (st : ModelState T R) (s : ℕ) → frame (part_if_alone st s).0 ≡ frame st
  alone_frame st s = either (λ (o : StateAndGone T R). frame o.0 ≡ frame st) (is_owned (model_slot st s).kind || ((model_slot st s).guards == 1)) _ _ (part_frame st s) refl

  pub less_frame : (st : ModelState T R) (s : ℕ) → frame (one_guard_less st s).0 ≡ frame (set_guards st s ((model_slot st s).guards - 1))
  less_frame st s = by_case ((model_slot st s).guards == 1) refl
    where
      by_case : (k : Bool) → ((model_slot st s).guards == 1) ≡ k
          → frame (if k then part (set_guards st s 0) s else (set_guards st s ((model_slot st s).guards - 1), [])).0 ≡ frame (set_guards st s ((model_slot st s).guards - 1))
      by_case true last = part_frame (set_guards st s 0) s ∙ ap (λ (n : ℕ). frame (set_guards st s (n - 1))) (sym (eq_true (model_slot st s).guards 1 last))
      by_case false other = refl

  unless_frame : (r : Option Refusal) (st : ModelState T R) (o : StateAndGone T R) → frame o.0 ≡ frame st → frame (unless {A = Unit {0}} r st (Ok tt, o)).1.0 ≡ frame st
  unless_frame None st o is = is
  unless_frame (Some r) st o is = refl

-- Whole calls.

module _ {T R : Type 0} (puts : R → T → List T) (weight : T → ℕ) where
  pub afterwards_frame : (st : ModelState T R) (s : ℕ) (queue : List (T × R)) → frame (afterwards puts weight st s queue).0 ≡ frame st
  afterwards_frame st s queue = settle_frame puts _ st s queue

  further_frame : (st : ModelState T R) (s : ℕ) (o : StateAndGone T R) → frame o.0 ≡ frame st → frame (with_further puts weight s o).0 ≡ frame st
  further_frame st s o is = afterwards_frame o.0 s (further puts o.1) ∙ is

  pub parts_frame : (st : ModelState T R) (s : ℕ) → frame (with_further puts weight s (one_guard_less st s)).0 ≡ frame (set_guards st s ((model_slot st s).guards - 1))
  parts_frame st s = further_frame (set_guards st s ((model_slot st s).guards - 1)) s (one_guard_less st s) (less_frame st s)

  -- where a number is taken, what was left is attempted besides
  pub taking_frame : (st : ModelState T R) (n : ℕ) (kind : Kind) → frame (taking puts weight st n kind).0 ≡ frame (with_number_in_use st n kind)
  taking_frame st n kind = further_frame (with_number_in_use st n kind) n (attempt_if_full (with_number_in_use st n kind) n) (full_frame (with_number_in_use st n kind) n)

  pub gathering_frame : (st : ModelState T R) (s : ℕ) → frame (gathering puts weight st s).0 ≡ frame st
  gathering_frame st s =
      further_frame st s (attempt (with_rest_gathered st s) s)
      (attempt_frame (with_rest_gathered st s) s ∙ set_frame st s (record (model_slot st s) { batch = rest_and_batch st s }) refl)

  pub gathering_outline : (st : ModelState T R) (s : ℕ) → outline (gathering puts weight st s).0 ≡ outline st
  gathering_outline st s = ap (λ (f : List (Kind × ℕ) × List (Option T)). f.0) (gathering_frame st s)

  pub gathering_links : (st : ModelState T R) (s : ℕ) → (gathering puts weight st s).0.links ≡ st.links
  gathering_links st s = ap (λ (f : List (Kind × ℕ) × List (Option T)). f.1) (gathering_frame st s)

  pub retire_frame : (st : ModelState T R) (s : ℕ) (x : T) (kind : R) → frame (retire puts weight st s x kind).1.0 ≡ frame st
  retire_frame st s x kind = unless_frame (unused st s) st (with_further puts weight s (put st s (x, kind))) (further_frame st s (put st s (x, kind)) (put_frame st s (x, kind)))

  pub flush_frame : (st : ModelState T R) (s : ℕ) → frame (flush puts weight st s).1.0 ≡ frame st
  flush_frame st s = unless_frame (no_guard st s) st (with_further puts weight s (attempt st s)) (further_frame st s (attempt st s) (attempt_frame st s))

  pub refresh_frame : (st : ModelState T R) (s : ℕ) → frame (refresh puts weight st s).1.0 ≡ frame st
  refresh_frame st s = unless_frame (no_guard st s) st (with_further puts weight s (part_if_alone st s)) (further_frame st s (part_if_alone st s) (alone_frame st s))

  pub retire_outline : (st : ModelState T R) (s : ℕ) (x : T) (kind : R) → outline (retire puts weight st s x kind).1.0 ≡ outline st
  retire_outline st s x kind = ap (λ (f : List (Kind × ℕ) × List (Option T)). f.0) (retire_frame st s x kind)

  pub retire_links : (st : ModelState T R) (s : ℕ) (x : T) (kind : R) → (retire puts weight st s x kind).1.0.links ≡ st.links
  retire_links st s x kind = ap (λ (f : List (Kind × ℕ) × List (Option T)). f.1) (retire_frame st s x kind)

  pub flush_outline : (st : ModelState T R) (s : ℕ) → outline (flush puts weight st s).1.0 ≡ outline st
  flush_outline st s = ap (λ (f : List (Kind × ℕ) × List (Option T)). f.0) (flush_frame st s)

  pub flush_links : (st : ModelState T R) (s : ℕ) → (flush puts weight st s).1.0.links ≡ st.links
  flush_links st s = ap (λ (f : List (Kind × ℕ) × List (Option T)). f.1) (flush_frame st s)

  pub refresh_outline : (st : ModelState T R) (s : ℕ) → outline (refresh puts weight st s).1.0 ≡ outline st
  refresh_outline st s = ap (λ (f : List (Kind × ℕ) × List (Option T)). f.0) (refresh_frame st s)

  pub refresh_links : (st : ModelState T R) (s : ℕ) → (refresh puts weight st s).1.0.links ≡ st.links
  refresh_links st s = ap (λ (f : List (Kind × ℕ) × List (Option T)). f.1) (refresh_frame st s)

  pub part_outline : (st : ModelState T R) (s : ℕ) → outline (with_further puts weight s (one_guard_less st s)).0 ≡ outline (set_guards st s ((model_slot st s).guards - 1))
  part_outline st s = ap (λ (f : List (Kind × ℕ) × List (Option T)). f.0) (parts_frame st s)

  pub part_links : (st : ModelState T R) (s : ℕ) → (with_further puts weight s (one_guard_less st s)).0.links ≡ st.links
  part_links st s = ap (λ (f : List (Kind × ℕ) × List (Option T)). f.1) (parts_frame st s)

same_outline : {T : Type 0} (st now : ModelState T ℕ) → frame now ≡ frame st → SameOutline st now
same_outline {T} st now same =
    let o : outline now ≡ outline st = ap (λ (f : List (Kind × ℕ) × List (Option T)). f.0) same in (
      λ t. (kind_in now st o t, guards_in now st o t),
      ap (λ (f : List (Kind × ℕ) × List (Option T)). f.1) same,
    )

pub outline_stays : {T : Type 0} (puts : ℕ → T → List T) (weight : T → ℕ) → OutlineStays puts weight
outline_stays puts weight st s = (
  same_outline st (refresh puts weight st s).1.0 (refresh_frame puts weight st s),
  same_outline st (flush puts weight st s).1.0 (flush_frame puts weight st s),
  λ x kind. same_outline st (retire puts weight st s x kind).1.0 (retire_frame puts weight st s x kind),
  same_outline st (gathering puts weight st s).0 (gathering_frame puts weight st s),
  λ kind. same_outline (with_number_in_use st s kind) (taking puts weight st s kind).0 (taking_frame puts weight st s kind),
)
