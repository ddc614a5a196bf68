-- Numbers that are not in use, and the rest, in a reached state.
use Rattle.std.proofs.Common.{◌≡◌, ℕ, ◌+◌, ◌*◌, ◌<◌, ◌≤◌, max, Bool, true, false, not, ◌||◌, List, [], ◌∷◌, length, refl, sym, ◌∙◌, ap, subst, arith}
use Rattle.std.specs.List.{list_any}
use Rattle.std.proofs.lemmas.List.Sums.{sum_by-cons}
use Rattle.seize_machine.specs.Machine.State.{State, no_slot, slot_at, head_at, is_active, opening}
use Rattle.seize_machine.specs.Machine.Frames.{used}
use Rattle.seize_machine.specs.Machine.History.{IsReached, end_of}
use Rattle.seize_machine.proofs.Invariants.Rested.{RestFits, frees, free_one, Lasts, lasts_step, Off, off_step, opening_off}
use Rattle.seize_machine.proofs.Invariants.Reached.{reached_inv, reached_rest_fits}
use Rattle.seize_machine.proofs.Invariants.States.{reached_holds}

pub free_empty : (st : State) → IsReached st → (s : ℕ) → (slot_at st s).used ≡ false → (slot_at st s ≡ no_slot) × (is_active (head_at st s) ≡ false)
free_empty st r s u = (
  (reached_inv st r).sound.free s u,
  reached_holds Off (λ slots links distinct. opening_off slots links) (λ st t d r step p. off_step t.size st t.event d (reached_inv st r).sound.free step p) st r s u,
)

all_used : (us : List Bool) → list_any (λ u. not u) us ≡ false → frees us ≡ 0
all_used [] h = refl
all_used (true ∷ us) h = omega (arith, sum_by-cons free_one true us, all_used us h)
all_used (false ∷ us) h = absurd (cc)

none : (rest : List ℕ) → length rest ≤ 0 → rest ≡ []
none [] h = refl
none (v ∷ rest) h = absurd (omega (arith, h))

-- where every number is in use the rest is empty
pub no_rest : (st : State) → IsReached st → list_any (λ u. not u) (used st) ≡ false → st.rest ≡ []
no_rest st r h =
    let f : (k : ℕ) × RestFits k st = reached_rest_fits st r in
    let fits : length st.rest + 0 ≤ 0 * max f.0 (length st.slots) = subst (λ (n : ℕ). length st.rest + n ≤ n * max f.0 (length st.slots)) (all_used (used st) h) f.1 in
    none st.rest (omega (arith, fits))
