-- Slots that are kept while all is reclaimed, by the state that hands hold.
--     used_place, free_place     a slot that is kept is in use without a guard;  where none is kept the number is free
--     kept_then                  so it is where slots are kept in the same places, and the state has the same outline
--     past_free                  beyond the last slot none is in use
--     batches_beyond, batches_all     beyond all that are kept nothing is done;  so those that are kept are all that do something
--     off_then, active_then, idle_then, active_none, idle_none     what stays of slots, twice, and where nothing was done
--     spent_more                 one batch more is spent
--     gives_goes                 the numbers go back, as one part of a reclaim of all
use Rattle.std.proofs.Common.{◌≡◌, ℕ, zero, suc, ◌+◌, ◌<◌, ◌≤◌, true, false, not, ◌==◌, List, [], length, Option, None, Some, get_or, refl, sym, ap, subst, ◌∙◌, arith}
use Rattle.std.specs.List.{range_with_len}
use Rattle.std.specs.Option.{is_none}
use Rattle.std.proofs.lemmas.List.{get_or_past}
use native.Mathlib.Decide.{ℕ_discrete}
use base.Stored.{Gv}
use Rattle.seize_model.specs.Waiting.Attempt.{StateAndGone, with_gone}
use Rattle.seize_model.specs.Waiting.Calls.{is_free}
use Rattle.seize_model.specs.Waiting.State.{ModelSlot, ModelState, has_guard, model_slot, unmade_slot}
use Rattle.seize_book.specs.Passes.{IsSamePass}
use Rattle.seize_book.specs.declared.book.pass.Pass.{Pass}
use Rattle.seize_book.specs.Values.{values_of}
use Rattle.seize_calls.specs.Furthers.{further_in}
use Rattle.seize_calls.specs.Handing.{IsServed}
use Rattle.seize_calls.specs.declared.further.Further.{Further}
use Rattle.seize_calls.specs.Slots.{its_batch}
use Rattle.seize_calls.specs.declared.slot.Slot.{Slot}
use Rattle.seize_alone.specs.Reclaiming.{batches_in_turn}
use Rattle.seize_alone.proofs.Outlines.{guards_in, kind_in, outline, slots_in}
use Rattle.seize_parts.specs.Aparts.{AreKeptOf, Goes, LeadsHands}
use Rattle.seize_parts.specs.Numbers.{flags_of}
use Rattle.seize_parts.specs.Sweeps.{AreOff, KeepsActive, KeepsIdle}
use Rattle.seize_parts.proofs.Going.{batches_append, range_both, waits_none}
use Rattle.seize_parts.proofs.InUse.{flag_same}
use Rattle.seize_parts.proofs.Outlined.{batch_free, batches_outline}

pub past_free : {T : Type 0} (st : ModelState T ℕ) (s : ℕ) → length st.slots ≤ s → is_free (model_slot st s).kind ≡ true
past_free {T} st s past = ap (λ (x : ModelSlot T ℕ). is_free x.kind) (get_or_past st.slots s unmade_slot past)

module _ {T : Type 0} (kept : List (Option (Slot T))) (n : ℕ) where
  pub used_place : (slot : Slot T) (st : ModelState T ℕ) → get_or kept n None ≡ Some slot → AreKeptOf kept st → (is_free (model_slot st n).kind ≡ false) × (has_guard (model_slot st n) ≡ false)
  used_place slot st is are = let used : is_free (model_slot st n).kind ≡ false = sym (are n).0 ∙ ap is_none is in (used, (are n).1 used)

  pub free_place : (st : ModelState T ℕ) → get_or kept n None ≡ None → AreKeptOf kept st → is_free (model_slot st n).kind ≡ true
  free_place st none are = sym (are n).0 ∙ ap is_none none

module _ {T : Type 0} where
  pub kept_then : (kept kept' : List (Option (Slot T))) (st now : ModelState T ℕ) → flags_of kept' ≡ flags_of kept → outline now ≡ outline st → AreKeptOf kept st → AreKeptOf kept' now
  kept_then kept kept' st now flags same are s = (
    flag_same kept kept' s flags ∙ (are s).0 ∙ ap is_free (sym (kind_in now st same s)),
    λ used. ap (λ (n : ℕ). not (n == 0)) (guards_in now st same s) ∙ (are s).1 (ap is_free (sym (kind_in now st same s)) ∙ used),
  )

  pub batches_beyond : (m k : ℕ) (st : ModelState T ℕ) → ((s : ℕ) → k ≤ s → is_free (model_slot st s).kind ≡ true) → batches_in_turn st (range_with_len k m) ≡ (st, [])
  batches_beyond zero k st free = refl
  batches_beyond (suc m) k st free =
      ap (λ (o : StateAndGone T ℕ). with_gone o.1 (batches_in_turn o.0 (range_with_len (k + 1) m))) (batch_free st k (free k (omega arith)))
      ∙ batches_beyond m (k + 1) st (λ s past. free s (omega (arith, past)))

  pub batches_all : (kept : List (Option (Slot T))) (st : ModelState T ℕ) → AreKeptOf kept st → batches_in_turn st (range_with_len 0 (length kept)) ≡ batches_in_turn st (range_with_len 0 (length st.slots))
  batches_all kept st are =
      range_both batches_in_turn batches_append st (length kept) (length st.slots)
      (λ k. batches_beyond k (length kept) (batches_in_turn st (range_with_len 0 (length kept))).0
      (λ s past. ap is_free (kind_in (batches_in_turn st (range_with_len 0 (length kept))).0 st (batches_outline st (range_with_len 0 (length kept)) (λ t. (are t).1)) s) ∙ free_place kept s st (get_or_past kept s None past) are))
      (λ k. batches_beyond k (length st.slots) (batches_in_turn st (range_with_len 0 (length st.slots))).0
      (λ s past. past_free (batches_in_turn st (range_with_len 0 (length st.slots))).0 s
      (let same = slots_in (batches_in_turn st (range_with_len 0 (length st.slots))).0 st (batches_outline st (range_with_len 0 (length st.slots)) (λ t. (are t).1)) in omega (arith, same, past))))

  pub spent_more : (n : ℕ) (kept kept' : List (Option (Slot T))) → ((i : ℕ) → ¬ (i ≡ n) → get_or kept' i None ≡ get_or kept i None) → ((i : ℕ) → i < n → (s : Slot T) → get_or kept i None ≡ Some s → values_of (its_batch s) ≡ [])
      → ((s : Slot T) → get_or kept' n None ≡ Some s → values_of (its_batch s) ≡ []) → (i : ℕ) → i < n + 1 → (s : Slot T) → get_or kept' i None ≡ Some s → values_of (its_batch s) ≡ []
  spent_more n kept kept' others before one i less s is = go (ℕ_discrete i n)
    where
      go : Dec (i ≡ n) → values_of (its_batch s) ≡ []
      go (yes e) = one s (subst (λ (k : ℕ). get_or kept' k None ≡ Some s) e is)
      go (no differs) = before i (let apart : i ≡ n → ⊥ = differs in omega (arith, less, apart)) s (sym (others i differs) ∙ is)

-- What stays of slots.

pub off_then : (a b : Pass) → KeepsActive a b → AreOff a → AreOff b
off_then a b keeps off s = keeps s ∙ off s

pub off_before : (a b : Pass) → KeepsActive a b → AreOff b → AreOff a
off_before a b keeps off s = sym (keeps s) ∙ off s

pub active_none : (pass : Pass) → KeepsActive pass pass
active_none pass s = refl

pub idle_none : (pass : Pass) → KeepsIdle pass pass
idle_none pass s none = none

pub active_then : (a b c : Pass) → KeepsActive a b → KeepsActive b c → KeepsActive a c
active_then a b c one two s = two s ∙ one s

pub idle_then : (a b c : Pass) → KeepsIdle a b → KeepsIdle b c → KeepsIdle a c
idle_then a b c one two s none = two s (one s none)

-- The numbers go back, as one part of a reclaim of all.
pub gives_goes : {T Seen : Type 0} (code : T → Gv) (puts : ℕ → T → List T) (told : Seen → T → Seen) {May : ModelState T ℕ → Type 0} {does : ModelState T ℕ → ModelState T ℕ} (p q : Pass) (seen : Seen) (queue : Further) → IsSamePass p q → IsServed (further_in queue) p.name
    → LeadsHands code May does p q → Goes code puts told May (λ st. (does st, [])) p q seen seen queue queue
gives_goes code puts told p q seen queue same served leads = record {
  same = same;
  had = [];
  put = tt;
  tells = ([], tt, refl);
  waits = waits_none p.name queue served;
  holds = λ st names kinds may holds. ((names, kinds, leads st names kinds may holds), tt);
}
