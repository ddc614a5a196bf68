use Rattle.std.proofs.Common.{◌≡◌, ◌≢◌, ℕ, ◌<◌, ◌≤◌, ◌+◌, ◌==◌, Bool, true, false, List, length, get_or, set, sym, ◌∙◌, ap, subst, ◌⊎◌, inl, inr, arith}
use Rattle.std.specs.List.{list_any}
use Rattle.std.proofs.lemmas.List.{get_or_default}
use Rattle.seize_machine.specs.Machine.State.{no_slot, Slot}
use Rattle.seize_machine.proofs.Steps.Relation.{is_true, eq_true}
use Rattle.seize_machine.proofs.Words.{other_used, no_other_used}
use Rattle.seize_machine.proofs.machine.configuration.Configuration.has_others.Goals.{else-n-s-via-then-n-s+else-is_used, else-n-s-via-else-n-s}
use Rattle.seize_machine.proofs.machine.configuration.Configuration.has_others.Goals as goal

pub loop-n-init : goal.loop-n-init
loop-n-init c = λ k r o. absurd (omega arith)

pub loop-n-preserved : goal.loop-n-preserved
loop-n-preserved c = λ k r o. go k r o (is_true (k == c.loop-n.n))
  where
    its : get_or c.deref-slot-items.result.now c.loop-n.n no_slot ≡ c.slot-item.result
    its = get_or_default c.deref-slot-items.result.now c.loop-n.n no_slot c.slot-item.result c.loop-n-test.true ∙ sym c.slot-item.is

    here : c.loop-n.n ≢ c.args.s → (get_or c.deref-slot-items.result.now c.loop-n.n no_slot).used ≡ false
    here o = elim c.else-n-s.branch [ else-n-s-via-then-n-s+else-is_used w ↦ ap (λ (slot : Slot). slot.used) its ∙ sym w.is_used.ensures ∙ w.if-is_used.false | else-n-s-via-else-n-s w ↦ absurd (o w.if-n-s.false) ]

    below : (k n : ℕ) → k < n + 1 → (k == n) ≡ false → k < n
    below k n r e = grind arith

    go : (k : ℕ) → k < c.loop-n.n + 1 → k ≢ c.args.s → ((k == c.loop-n.n) ≡ true) ⊎ ((k == c.loop-n.n) ≡ false) → (get_or c.deref-slot-items.result.now k no_slot).used ≡ false
    go k r o (inl t) =
        let same : k ≡ c.loop-n.n = eq_true _ _ t in
        subst (λ (i : ℕ). (get_or c.deref-slot-items.result.now i no_slot).used ≡ false) (sym same) (here (λ e. o (same ∙ e)))
    go k r o (inr n) = c.loop-n.invariant k (below k c.loop-n.n r n) o

pub returns : goal.returns
returns c =
    let items_is : c.deref-slot-items.result.now ≡ c.args.self.now.slots = c.deref-slot-items.ensures.value ∙ ap (λ st. st.slots) c.self.view_is in
    sym (ap (λ (slots : List Slot). list_any (λ slot. slot.used) (set slots c.args.s no_slot)) (sym items_is)
    ∙ no_other_used c.deref-slot-items.result.now c.args.s (λ k r o. c.loop-n.invariant k (omega (arith, r, c.loop-n-test.false)) o))
