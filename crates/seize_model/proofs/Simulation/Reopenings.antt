-- Reclaiming all leads to a state that a machine just opened shows.
use Rattle.std.proofs.Common.{◌≡◌, ℕ, List, [], ◌∷◌, length, map, replicate, refl, sym, ◌∙◌, ap, subst}
use Rattle.std.specs.List.{range_with_len}
use Rattle.std.proofs.lemmas.List.{length-set}
use Rattle.seize_machine.specs.Machine.State.{opening}
use Rattle.seize_model.specs.Waiting.State.{ModelSlot, ModelState, model_slot, unmade_slot}
use Rattle.seize_model.specs.Waiting.Attempt.{part}
use Rattle.seize_model.specs.Waiting.Calls.{set_guards, part_all, reclaim_all}
use Rattle.seize_model.specs.Agreement.Shows.{ShowsReclaimers, ShowsState}
use Rattle.seize_model.specs.Agreement.Reopening.{ReopenedLaw}
use Rattle.seize_model.proofs.WaitingSets.Beside.{part_beside, ignores_links, ignores_many}
use Rattle.seize_model.proofs.Simulation.Openings.{free_slots, opened_shown, opened_shown_with}

-- The slots: as many as there were, and all free.

all_free : {T R : Type 0} (xs : List (ModelSlot T R)) → (let ys : List (ModelSlot T R) = map (λ slot. unmade_slot) xs in ys ≡ replicate (length xs) unmade_slot)
all_free [] = refl
all_free (x ∷ xs) = ap (λ l. unmade_slot ∷ l) (all_free xs)

parts_many : {T R : Type 0} (st : ModelState T R) (ss : List ℕ) → length (part_all st ss).0.slots ≡ length st.slots
parts_many st [] = refl
parts_many {T} {R} st (s ∷ ss) =
    parts_many (set_guards (part st s).0 s 0) ss ∙ length-set (part st s).0.slots s (record (model_slot (part st s).0 s) { guards = 0 })
    ∙ part_beside (λ (k : ModelState T R). length k.slots) ignores_many st s

slots_after : {T R : Type 0} (puts : R → T → List T) (weight : T → ℕ) (st : ModelState T R)
    → (reclaim_all puts weight st).0.slots ≡ replicate (length st.slots) unmade_slot
slots_after {T} {R} puts weight st =
    all_free (part_all st (range_with_len 0 (length st.slots))).0.slots ∙ ap (λ (n : ℕ). replicate n (unmade_slot {T = T} {R = R})) (parts_many st (range_with_len 0 (length st.slots)))

-- The links stay.

parts_links : {T R : Type 0} (st : ModelState T R) (ss : List ℕ) → (part_all st ss).0.links ≡ st.links
parts_links st [] = refl
parts_links {T} {R} st (s ∷ ss) =
    parts_links (set_guards (part st s).0 s 0) ss
    ∙ part_beside (λ (k : ModelState T R). k.links) ignores_links st s

pub reopens : {T R : Type 0} (puts : R → T → List T) (weight : T → ℕ) → ReopenedLaw puts weight
reopens {T} {R} puts weight of by st before shows = (
  subst (λ k. ShowsState T R of k (opening (length st.slots) before.links)) (sym same)
      (opened_shown T R of later.size (length st.slots) before.links shows.numbers),
  subst (λ k. ShowsReclaimers T R of by k (opening (length st.slots) before.links)) (sym same)
      (opened_shown_with of by later.size (length st.slots) before.links),
)
  where
    later : ModelState T R
    later = (reclaim_all puts weight st).0

    same : (reclaim_all puts weight st).0 ≡ free_slots of (reclaim_all puts weight st).0.size (length st.slots) before.links
    same =
        ap (λ (l : List (ModelSlot T R)). record (reclaim_all puts weight st).0 { slots = l }) (slots_after puts weight st)
        ∙ ap (λ l. record (free_slots of (reclaim_all puts weight st).0.size (length st.slots) before.links) { links = l })
        (parts_links st (range_with_len 0 (length st.slots)) ∙ sym shows.links)
