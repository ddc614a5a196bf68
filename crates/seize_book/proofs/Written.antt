-- What is stored in fields: chains stay as entries are added, and so does what was written for an insertion that another slot tries.
use Rattle.std.proofs.Common.{◌≡◌, ◌≢◌, ℕ, ◌<◌, ◌==◌, Bool, true, false, if◌then◌else◌, List, [], ◌∷◌, ◌++◌, length, Option, Some, None, refl, sym, ◌∙◌, ap, subst, append-nil, ⊎_elim}
use Rattle.std.proofs.lemmas.List.{get_or_append_left}
use Rattle.seize_machine.specs.Machine.State.{State, Slot, Progress, Place, Try, slot_at, linked_values, are_distinct}
use Rattle.seize_machine.specs.Machine.Next.{of_call}
use Rattle.seize_machine.specs.Machine.Frames.{changes_slot}
use Rattle.seize_machine.specs.Machine.History.{IsReached}
use Rattle.seize_machine.specs.declared.machine.event.Answer.{Answer}
use Rattle.seize_machine.proofs.Facts.{Stands, slot_frame, step_of}
use Rattle.seize_book.specs.Blocks.{Plan, no_plan, plan_value, planned_by, plans}
use Rattle.seize_book.specs.Book.{IsLegalList, Does, after}
use Rattle.seize_book.specs.Chains.{HasChains, IsLed, IsWriting, field_value, field_value_after, field_value_from, first_field, insertion_fields, insertion_value, next_field, uses, written_at}
use Rattle.seize_book.specs.Entry.{Entry, Made, Used, Deed, Use}
use Rattle.seize_book.specs.Homes.{HasOne, IsSound, home_of}
use Rattle.seize_book.specs.Tokens.{Name, start}
use Rattle.seize_book.proofs.Chains.{chained_step, chained_write, fields_apart}
use Rattle.seize_book.proofs.Fronts.{held_values}
use Rattle.seize_book.proofs.Lists.{after_push, after_used, reached_after, unequal}
use Rattle.seize_book.proofs.Plans.{plans_append, plans_long, tried_there}
use Rattle.seize_book.proofs.Serves.{marked_after, tried_apart, tries_apart}

pub told_push : (log : List Entry) (e : Entry) (f : ℕ) → field_value (log ++ e ∷ []) f ≡ field_value_after f (field_value log f) e
told_push log e f = from 0 log
  where
    from : (v : ℕ) (log : List Entry) → field_value_from f v (log ++ e ∷ []) ≡ field_value_after f (field_value_from f v log) e
    from v [] = refl
    from v (x ∷ log) = from (field_value_after f v x) log

pub told_same : (log : List Entry) (e : Entry) (f : ℕ) → uses f e ≡ false → field_value (log ++ e ∷ []) f ≡ field_value log f
told_same log e f out = told_push log e f ∙ same e out
  where
    same : (e : Entry) → uses f e ≡ false → field_value_after f (field_value log f) e ≡ field_value log f
    same (Made x) out = refl
    same (Used u) out = ap (λ (b : Bool). if b then u.value else field_value log f) out

-- a use of another field
pub told_other : (log : List Entry) (u : Use) (f : ℕ) → f ≢ u.field → field_value (log ++ Used u ∷ []) f ≡ field_value log f
told_other log u f other = told_same log (Used u) f (unequal u.field f (λ e. other (sym e)))

-- Plans of a list with one entry more.

plans_made : (st : State) (log : List Entry) (x : Deed) → plans st (log ++ Made x ∷ []) ≡ plans st log ++ planned_by (after st log) x.event
plans_made st log x = plans_append st log (Made x ∷ []) ∙ ap (λ (ps : List Plan). plans st log ++ ps) (append-nil (planned_by (after st log) x.event))

pub plans_used : (st : State) (log : List Entry) (u : Use) → plans st (log ++ Used u ∷ []) ≡ plans st log
plans_used st log u = plans_append st log (Used u ∷ []) ∙ append-nil (plans st log)

module _ (n : Name) (log : List Entry) (distinct : are_distinct (linked_values n.links) ≡ true) (legal : IsLegalList (start n) log) where
  abbrev st : State
  st = start n

  abbrev now : State
  now = after st log

  abbrev ps : List Plan
  ps = plans st log

  reached : IsReached now
  reached = reached_after n log distinct legal

  -- the fields of two blocks, one of which a slot is about to insert
  module _ (one : HasOne now) (u : Use) (w : IsWriting now ps u.slot u.field) where
    abbrev home : ℕ
    home = home_of (insertion_value ps w.batch w.at)

    off : (k : ℕ) → home ≢ k → (next_field k ≢ u.field) × (first_field k ≢ u.field)
    off k other = ⊎_elim
        (λ e. ((λ i. other (sym ((fields_apart k home).1 (i ∙ e)))), λ i. (fields_apart home k).0 (sym (i ∙ e))))
        (λ e. ((λ i. (fields_apart k home).0 (i ∙ e)), λ i. other (sym ((fields_apart k home).2 (i ∙ e))))) w.its

    tries : (won : ℕ) × (later saw queue : List ℕ) × Stands now u.slot (Try w.batch won w.at later saw) queue
    tries = (w.won, w.later, w.saw, w.queue, w.trying)

    chained_stored : HasChains now ps (field_value log) → HasChains now ps (field_value (log ++ Used u ∷ []))
    chained_stored old =
        chained_write now ps (field_value log) (field_value (log ++ Used u ∷ [])) u.field (λ j other. told_other log u j other)
        (λ m b used. off (home_of (insertion_value ps b m)) (tried_apart now ps reached one (marked_after n log distinct legal) (held_values n log distinct legal) u.slot w.batch w.at b m tries used)) old

    -- what another slot wrote stays
    still_written : (k : ℕ) → k ≢ u.slot → insertion_fields now ps (field_value (log ++ Used u ∷ [])) k ≡ insertion_fields now ps (field_value log) k
    still_written k other = by_call (slot_at now k).call refl
      where
        by_place : (place : Place) (queue : List ℕ) → Stands now k place queue → written_at ps (field_value (log ++ Used u ∷ [])) place queue ≡ written_at ps (field_value log) place queue
        by_place (Try b won m later saw) queue stands =
            let apart = off (home_of (insertion_value ps b m)) (tries_apart now ps reached one (marked_after n log distinct legal) (held_values n log distinct legal) u.slot w.batch w.at k b m tries (won, later, saw, queue, stands) (λ e. other (sym e))) in
            λ i. Some (told_other log u (next_field (home_of (insertion_value ps b m))) apart.0 i, told_other log u (first_field (home_of (insertion_value ps b m))) apart.1 i)
        by_place _ queue stands = refl

        by_call : (call : Option Progress) → (slot_at now k).call ≡ call → of_call (written_at ps (field_value (log ++ Used u ∷ []))) call ≡ of_call (written_at ps (field_value log)) call
        by_call None e = refl
        by_call (Some call) e = by_place call.place call.queue e

  -- the chains of a list with one entry more

  chained_made : (x : Deed) (d : State × Answer) → Does st log (Made x) d → IsLed now ps (field_value log) (Made x) → HasChains now ps (field_value log) → HasChains d.0 (ps ++ planned_by now x.event) (field_value log)
  chained_made x d does led old = chained_step x.size now x.event d ps (field_value log) reached (plans_long n log legal) (step_of x.size now x.event d does) led old

  chained_used : (u : Use) → HasOne now → IsLed now ps (field_value log) (Used u) → HasChains now ps (field_value log) → HasChains now ps (field_value (log ++ Used u ∷ []))
  chained_used u one led old = chained_stored one u led old

  pub written_by_event_ : (x : Deed) (d : State × Answer) (k : ℕ) → Does st log (Made x) d → changes_slot k x.event ≡ false
      → insertion_fields (after st (log ++ Made x ∷ [])) (plans st (log ++ Made x ∷ [])) (field_value (log ++ Made x ∷ [])) k ≡ insertion_fields now ps (field_value log) k
  written_by_event_ x d k does out =
      (λ i. insertion_fields (after_push st log (Made x) d legal does i) (plans_made st log x i) (λ f. told_same log (Made x) f refl i) k)
      ∙ ap (λ (slot : Slot). of_call (written_at (ps ++ planned_by now x.event) (field_value log)) slot.call) (slot_frame k x.size now x.event d (step_of x.size now x.event d does) out)
      ∙ by_call (slot_at now k).call refl
    where
      by_place : (place : Place) (queue : List ℕ) → Stands now k place queue → written_at (ps ++ planned_by now x.event) (field_value log) place queue ≡ written_at ps (field_value log) place queue
      by_place (Try b won m later saw) queue stands =
          let there : b < length ps = subst (λ (z : ℕ). b < z) (sym (plans_long n log legal)) (tried_there now k b won m later saw queue reached stands) in
          ap (λ (plan : Plan). let home = home_of (plan_value m plan.slots plan.values) in Some (field_value log (next_field home), field_value log (first_field home))) (get_or_append_left ps (planned_by now x.event) no_plan b there)
      by_place _ queue stands = refl

      by_call : (call : Option Progress) → (slot_at now k).call ≡ call → of_call (written_at (ps ++ planned_by now x.event) (field_value log)) call ≡ of_call (written_at ps (field_value log)) call
      by_call None e = refl
      by_call (Some call) e = by_place call.place call.queue e

  pub written_by_use_ : (u : Use) (k : ℕ) → HasOne now → IsLed now ps (field_value log) (Used u) → (u.slot == k) ≡ false
      → insertion_fields (after st (log ++ Used u ∷ [])) (plans st (log ++ Used u ∷ [])) (field_value (log ++ Used u ∷ [])) k ≡ insertion_fields now ps (field_value log) k
  written_by_use_ u k one led out = (λ i. insertion_fields (after_used st log u i) (plans_used st log u i) (field_value (log ++ Used u ∷ [])) k) ∙ still_written one u led k other
    where
      other : k ≢ u.slot
      other e = let x : (u.slot == k) ≡ true = Rattle.seize_book.proofs.Lists.equal u.slot k (sym e) in let y : true ≡ false = sym x ∙ out in cc

pub chained_push : (n : Name) (log : List Entry) (e : Entry) (d : State × Answer) → are_distinct (linked_values n.links) ≡ true → IsLegalList (start n) log → IsSound (after (start n) log) → HasChains (after (start n) log) (plans (start n) log) (field_value log)
    → Does (start n) log e d → IsLed (after (start n) log) (plans (start n) log) (field_value log) e → HasChains (after (start n) (log ++ e ∷ [])) (plans (start n) (log ++ e ∷ [])) (field_value (log ++ e ∷ []))
chained_push n log (Made x) d distinct legal sound old does led =
    subst (λ (z : State × (List Plan × (ℕ → ℕ))). HasChains z.0 z.1.0 z.1.1)
    (λ i. (sym (after_push (start n) log (Made x) d legal does) i, (sym (plans_made (start n) log x) i, λ f. sym (told_same log (Made x) f refl) i))) (chained_made n log distinct legal x d does led old)
chained_push n log (Used u) d distinct legal sound old does led =
    subst (λ (z : State × List Plan). HasChains z.0 z.1 (field_value (log ++ Used u ∷ []))) (λ i. (sym (after_used (start n) log u) i, sym (plans_used (start n) log u) i)) (chained_used n log distinct legal u sound.one led old)

pub written_by_event : (n : Name) (log : List Entry) (x : Deed) (d : State × Answer) (k : ℕ) → are_distinct (linked_values n.links) ≡ true → IsLegalList (start n) log → Does (start n) log (Made x) d → changes_slot k x.event ≡ false
    → insertion_fields (after (start n) (log ++ Made x ∷ [])) (plans (start n) (log ++ Made x ∷ [])) (field_value (log ++ Made x ∷ [])) k ≡ insertion_fields (after (start n) log) (plans (start n) log) (field_value log) k
written_by_event n log x d k distinct legal does out = written_by_event_ n log distinct legal x d k does out

pub written_by_use : (n : Name) (log : List Entry) (u : Use) (k : ℕ) → are_distinct (linked_values n.links) ≡ true → IsLegalList (start n) log → HasOne (after (start n) log) → IsLed (after (start n) log) (plans (start n) log) (field_value log) (Used u)
    → (u.slot == k) ≡ false → insertion_fields (after (start n) (log ++ Used u ∷ [])) (plans (start n) (log ++ Used u ∷ [])) (field_value (log ++ Used u ∷ [])) k ≡ insertion_fields (after (start n) log) (plans (start n) log) (field_value log) k
written_by_use n log u k distinct legal one led out = written_by_use_ n log distinct legal u k one led out
