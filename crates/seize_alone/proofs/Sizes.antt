-- No call changes the size of a state, nor does a number that is taken or goes back.
use Rattle.std.proofs.Common.{◌≡◌, ℕ, zero, suc, ◌==◌, ◌-◌, ◌||◌, Bool, true, false, if◌then◌else◌, List, [], ◌∷◌, ◌++◌, length, set, Option, Some, None, refl, ◌∙◌}
use Rattle.std.specs.Prelude.{Ok}
use Rattle.std.specs.List.{sum_by}
use Rattle.seize_table.specs.declared.refusal.Refusal.{Refusal}
use Rattle.seize_model.specs.declared.kind.Kind.{Kind}
use Rattle.seize_model.specs.Waiting.State.{ModelState, is_kept, retired_at, set_slot, model_slot}
use Rattle.seize_model.specs.Waiting.Attempt.{StateAndGone, attempt, attempt_if_full, gives_up, is_full, part, put, release, release_all, with_batch_retired, with_batch_value, with_gone}
use Rattle.seize_model.specs.Waiting.Calls.{gathering, gathers, give_back, given_back_if, is_owned, no_guard, one_guard_less, others_in_use, part_if_alone, rest_and_batch, set_guards, taking, unless, unused, with_number_in_use, with_rest_gathered}
use Rattle.seize_model.specs.Waiting.Further.{further, settle, with_further}
use Rattle.seize_alone.specs.Calls.{SizeStays}

abbrev size_of : {T R : Type 0} → StateAndGone T R → ℕ
size_of o = o.0.size

release_size : {T R : Type 0} (st : ModelState T R) (b : ℕ) → (release st b).0.size ≡ st.size
release_size st b = by_case (is_kept st b)
  where
    by_case : (k : Bool) → size_of (if k then (st, []) else (record st { retired = set st.retired b [] }, retired_at st b)) ≡ st.size
    by_case true = refl
    by_case false = refl

pub attempt_size : {T R : Type 0} (st : ModelState T R) (s : ℕ) → (attempt st s).0.size ≡ st.size
attempt_size st s = by_case (gives_up st s)
  where
    by_case : (k : Bool) → size_of (if k then (st, []) else release (with_batch_retired st s) (length st.retired)) ≡ st.size
    by_case true = refl
    by_case false = release_size (with_batch_retired st s) (length st.retired)

full_size : {T R : Type 0} (st : ModelState T R) (s : ℕ) → (attempt_if_full st s).0.size ≡ st.size
full_size st s = by_case (is_full st.size (model_slot st s).batch)
  where
    by_case : (k : Bool) → size_of (if k then attempt st s else (st, [])) ≡ st.size
    by_case true = attempt_size st s
    by_case false = refl

put_size : {T R : Type 0} (st : ModelState T R) (s : ℕ) (v : T × R) → (put st s v).0.size ≡ st.size
put_size st s v = full_size (with_batch_value st s v) s

released_size : {T R : Type 0} (st : ModelState T R) (bs : List ℕ) → (release_all st bs).0.size ≡ st.size
released_size st [] = refl
released_size st (b ∷ bs) = released_size (release st b).0 bs ∙ release_size st b

part_size : {T R : Type 0} (st : ModelState T R) (s : ℕ) → (part st s).0.size ≡ st.size
part_size st s = released_size (set_slot st s (record (model_slot st s) { order = [] })) (model_slot st s).order

settle_size : {T R : Type 0} (puts : R → T → List T) (n : ℕ) (st : ModelState T R) (s : ℕ) (queue : List (T × R)) → (settle puts n st s queue).0.size ≡ st.size
settle_size puts zero st s queue = refl
settle_size puts (suc n) st s [] = refl
settle_size puts (suc n) st s (v ∷ queue) = settle_size puts n (put st s v).0 s (queue ++ further puts (put st s v).1) ∙ put_size st s v

less_size : {T R : Type 0} (st : ModelState T R) (s : ℕ) → (one_guard_less st s).0.size ≡ st.size
less_size st s = by_case ((model_slot st s).guards == 1)
  where
    by_case : (k : Bool) → size_of (if k then part (set_guards st s 0) s else (set_guards st s ((model_slot st s).guards - 1), [])) ≡ st.size
    by_case true = part_size (set_guards st s 0) s
    by_case false = refl

alone_size : {T R : Type 0} (st : ModelState T R) (s : ℕ) → (part_if_alone st s).0.size ≡ st.size
alone_size st s = by_case (is_owned (model_slot st s).kind || ((model_slot st s).guards == 1))
  where
    by_case : (k : Bool) → size_of (if k then part st s else (st, [])) ≡ st.size
    by_case true = part_size st s
    by_case false = refl

unless_size : {T R : Type 0} (r : Option Refusal) (st : ModelState T R) (o : StateAndGone T R) → o.0.size ≡ st.size → (unless {A = Unit {0}} r st (Ok tt, o)).1.0.size ≡ st.size
unless_size None st o is = is
unless_size (Some r) st o is = refl

module _ {T : Type 0} (puts : ℕ → T → List T) (weight : T → ℕ) where
  pub further_size : (st : ModelState T ℕ) (s : ℕ) (o : StateAndGone T ℕ) → o.0.size ≡ st.size → (with_further puts weight s o).0.size ≡ st.size
  further_size st s o is = settle_size puts _ o.0 s (further puts o.1) ∙ is

  pub parts_size : (st : ModelState T ℕ) (s : ℕ) → (with_further puts weight s (one_guard_less st s)).0.size ≡ st.size
  parts_size st s = further_size st s (one_guard_less st s) (less_size st s)

  pub taking_size : (st : ModelState T ℕ) (n : ℕ) (kind : Kind) → (taking puts weight st n kind).0.size ≡ st.size
  taking_size st n kind = further_size st n (attempt_if_full (with_number_in_use st n kind) n) (full_size (with_number_in_use st n kind) n)

  pub gathering_size : (st : ModelState T ℕ) (s : ℕ) → (gathering puts weight st s).0.size ≡ st.size
  gathering_size st s = further_size st s (attempt (with_rest_gathered st s) s) (attempt_size (with_rest_gathered st s) s)

  gathers_size : (n : ℕ) (st : ModelState T ℕ) (s : ℕ) → (gathers puts weight n st s).0.size ≡ st.size
  gathers_size zero st s = refl
  gathers_size (suc n) st s = by_case (others_in_use st s || (length (rest_and_batch st s) == 0)) (gathers_size n (gathering puts weight st s).0 s ∙ gathering_size st s)
    where
      by_case : (k : Bool) → (gathers puts weight n (gathering puts weight st s).0 s).0.size ≡ st.size
          → size_of (if k then (st, []) else (let o : StateAndGone T ℕ = gathering puts weight st s in with_gone o.1 (gathers puts weight n o.0 s))) ≡ st.size
      by_case true is = refl
      by_case false is = is

  pub give_size : (st : ModelState T ℕ) (s : ℕ) → (give_back puts weight st s).0.size ≡ st.size
  give_size st s = gathers_size (sum_by (λ v. weight v.0) (rest_and_batch st s)) st s

  given_size : (st : ModelState T ℕ) (owned : Bool) (s : ℕ) (o : StateAndGone T ℕ) → o.0.size ≡ st.size → (given_back_if puts weight owned s o).0.size ≡ st.size
  given_size st true s o is = give_size o.0 s ∙ is
  given_size st false s o is = is

  pub size_stays : SizeStays puts weight
  size_stays st s = (
    unless_size (no_guard st s) st (given_back_if puts weight (is_owned (model_slot st s).kind) s (with_further puts weight s (one_guard_less st s)))
        (given_size st (is_owned (model_slot st s).kind) s (with_further puts weight s (one_guard_less st s)) (parts_size st s)),
    unless_size (no_guard st s) st (with_further puts weight s (part_if_alone st s)) (further_size st s (part_if_alone st s) (alone_size st s)),
    unless_size (no_guard st s) st (with_further puts weight s (attempt st s)) (further_size st s (attempt st s) (attempt_size st s)),
    λ x kind. unless_size (unused st s) st (with_further puts weight s (put st s (x, kind))) (further_size st s (put st s (x, kind)) (put_size st s (x, kind))),
    λ kind. taking_size st s kind,
    gathering_size st s,
  )
