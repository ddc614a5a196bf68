-- A state that hands hold is orderly: what the list shows of a slot and of a retired batch says so.
use Rattle.std.proofs.Common.{◌≡◌, ℕ, zero, suc, ◌+◌, ◌<◌, ◌≤◌, ◌==◌, ◌||◌, Bool, true, false, not, cond, if◌then◌else◌, List, [], ◌∷◌, length, map, get_or, Option, Some, None, refl, sym, ◌∙◌, ap, subst, inl, inr, arith}
use Rattle.std.specs.List.{Contains, list_any}
use Rattle.std.proofs.lemmas.Bool.{cases_lt}
use Rattle.std.proofs.lemmas.List.{length-map, set-get_or}
use Rattle.std.proofs.lemmas.List.Sums.{prefix_len-le-length}
use base.Stored.{Gv}
use Rattle.seize_machine.specs.Machine.State as machine
use Rattle.seize_machine.specs.Machine.State.{Active, Head, Inactive, are_distinct, batch_at, has, linked_values, waiting_at}
use Rattle.seize_machine.specs.Machine.History.{IsReached, answers_of}
use Rattle.seize_machine.specs.Machine.Laws.{IsHeld, detached_by, walk_of}
use Rattle.seize_machine.proofs.Facts.{free_empty, law_holders, no_rest}
use Rattle.seize_model.specs.Waiting.State as waiting
use Rattle.seize_model.specs.Waiting.Calls.{is_free, is_owned, least_unused, set_guards}
use Rattle.seize_model.specs.Agreement.Shows.{head_of}
use Rattle.seize_model.proofs.Cases.{or_false}
use Rattle.seize_book.specs.Book.{IsLegalList, after, moments}
use Rattle.seize_book.specs.Entry.{Entry, events_of}
use Rattle.seize_book.specs.Tokens.{Name, start}
use Rattle.seize_book.proofs.Facts.{as_legal, equal, reached_after}
use Rattle.seize_alone.specs.Holding.{Holds, HoldsAll, found, some_slot, some_state, some_value, with_gone_below, with_order_from}
use Rattle.seize_alone.specs.Reclaiming.{IsOrderly, OrderlyHeld}
use Rattle.seize_alone.proofs.Begins.{all_out, nothing_in}
use Rattle.seize_alone.proofs.Mapped.{least_same, retired_same}
use Rattle.seize_alone.proofs.Reclaiming.{is_free_kind}
use Rattle.seize_alone.proofs.Below.{get_below, kept_below, least_below, slot_below}
use Rattle.seize_alone.proofs.Shown.{head_all, owned_shown, slot_all}

none_has : (xs : List ℕ) (b i : ℕ) → has b xs ≡ false → i < length xs → get_or xs i b ≡ b → ⊥
none_has [] b i none h is = omega (arith, h)
none_has (x ∷ xs) b zero none h is = let c : true ≡ false = sym (equal x b is) ∙ (or_false (x == b) (has b xs) none).0 in cc
none_has (x ∷ xs) b (suc i) none h is = none_has xs b i (or_false (x == b) (has b xs) none).1 (omega (arith, h)) is

none_at : {X : Type 0} (p : X → Bool) (xs : List X) (i : ℕ) (d : X) → p d ≡ false → list_any p xs ≡ false → p (get_or xs i d) ≡ false
none_at p [] i d out none = out
none_at p (x ∷ xs) zero d out none = (or_false (p x) (list_any p xs) none).0
none_at p (x ∷ xs) (suc i) d out none = none_at p xs i d out (or_false (p x) (list_any p xs) none).1

map_nothing : {X Y : Type 0} (h : X → Y) (xs : List X) → map h xs ≡ [] → xs ≡ []
map_nothing h [] none = refl
map_nothing h (x ∷ xs) none = absurd (cc)

-- a slot for which a batch does not wait does not list it
unlisted : {T R : Type 0} (slot : waiting.ModelSlot T R) (b : ℕ) → has b slot.order ≡ false → Contains (waiting_at (head_of slot)) b → ⊥
unlisted slot b none = go (waiting.has_guard slot)
  where
    go : (g : Bool) → Contains (waiting_at (if g then Active slot.order else Inactive)) b → ⊥
    go true c = none_has slot.order b c.0 none c.1 c.2
    go false c = nothing_in [] b refl c

-- where no slot is free, all are in use
every_used : {T R : Type 0} (all : List machine.Slot) (slots : List (waiting.ModelSlot T R)) → length all ≡ length slots → ((s : ℕ) → (get_or all s machine.no_slot).used ≡ not (is_free (get_or slots s waiting.unmade_slot).kind)) → least_unused slots ≡ length slots
    → list_any (λ u. not u) (map (λ slot. slot.used) all) ≡ false
every_used [] slots many same full = refl
every_used (x ∷ all) [] many same full = absurd (omega (arith, many))
every_used {T} {R} (x ∷ all) (slot ∷ slots) many same full = go (is_free slot.kind) refl (every_used all slots (omega (arith, many)) (λ s. same (suc s)))
  where
    go : (f : Bool) → is_free slot.kind ≡ f → (least_unused slots ≡ length slots → list_any (λ u. not u) (map (λ slot. slot.used) all) ≡ false) → (not x.used || list_any (λ u. not u) (map (λ slot. slot.used) all)) ≡ false
    go true free rest = absurd (let z : 0 ≡ suc (length slots) = sym (ap (λ (b : Bool). cond (not b) (1 + least_unused slots) 0) free) ∙ full in omega (arith, z))
    go false used rest =
        let fewer : 1 + least_unused slots ≡ suc (length slots) = sym (ap (λ (b : Bool). cond (not b) (1 + least_unused slots) 0) used) ∙ full in
        let own : x.used ≡ true = same zero ∙ ap (λ (b : Bool). not b) used in
        ap (λ (b : Bool). not b || list_any (λ u. not u) (map (λ slot. slot.used) all)) own ∙ rest (omega (arith, fewer))

-- with all retired batches
module _ {T : Type 0} (code : T → Gv) (st : waiting.ModelState T ℕ) (names : List (ℕ × T)) (kinds : List (ℕ × ℕ)) (n : Name) (seen : List Entry)
    (legal : IsLegalList (start n) seen) (distinct : are_distinct (linked_values n.links) ≡ true) (holds : HoldsAll code st names kinds n seen) where
  abbrev now : machine.State
  now = after (start n) seen

  unheld : (b : ℕ) → waiting.is_kept st b ≡ false → IsHeld (after (start n) seen) b → ⊥
  unheld b none (inl held) =
      unlisted (some_slot (waiting.model_slot st held.0)) b (none_at (waiting.waits_for b) st.slots held.0 waiting.unmade_slot refl none)
      (subst (λ (h : Head). Contains (waiting_at h) b) (head_all holds held.0) held.1)
  unheld b none (inr (inl held)) = nothing_in _ b (ap walk_of (slot_all holds held.0).idle) held.1
  unheld b none (inr (inr held)) = let is : None ≡ Some b = sym (ap detached_by (slot_all holds held.0).idle) ∙ held.1 in cc

  reached : IsReached (after (start n) seen)
  reached = reached_after n seen distinct legal

  -- a slot whose number is free is as one that was never made
  unmade : (s : ℕ) → is_free (waiting.model_slot st s).kind ≡ true → waiting.model_slot st s ≡ waiting.unmade_slot
  unmade s free =
      let all = slot_all holds s in
      let guards : (waiting.model_slot st s).guards ≡ 0 = all.free free in
      let none : machine.slot_at now s ≡ machine.no_slot = (free_empty now reached s (all.used ∙ ap (λ (b : Bool). not b) free)).0 in
      let batch : (waiting.model_slot st s).batch ≡ [] =
      map_nothing some_value (waiting.model_slot st s).batch (map_nothing (λ (v : Option T × Option ℕ). v.0) (map some_value (waiting.model_slot st s).batch) (sym all.batch ∙ ap (λ (slot : machine.Slot). map (found names) slot.batch) none)) in
      let order : (waiting.model_slot st s).order ≡ [] = all.inactive (ap (λ (k : ℕ). not (k == 0)) guards) in
      λ i. record { kind = is_free_kind (waiting.model_slot st s).kind free i; guards = guards i; batch = batch i; order = order i }

  -- where all numbers are in use nothing is left
  all_used : least_unused st.slots ≡ length st.slots → st.rest ≡ []
  all_used full =
      let none : now.rest ≡ [] = no_rest now reached (every_used now.slots (map some_slot st.slots) (holds.shows.slots) (λ s. (holds.shows.slot s).used) (least_same st.slots ∙ full ∙ sym (length-map st.slots some_slot))) in
      map_nothing some_value st.rest (map_nothing (λ (v : Option T × Option ℕ). v.0) (map some_value st.rest) (sym holds.shows.rest ∙ ap (map (found names)) none))

  orderly : IsOrderly st
  orderly = record {
    free = unmade;
    rest = λ some. below (least_unused st.slots) (length st.slots) (prefix_len-le-length _ st.slots) (λ full. some (all_used full));
    inactive = λ s. (slot_all holds s).inactive;
    gone = λ b none.
        let holders = law_holders n.slots n.links (events_of seen) (answers_of (moments (start n) seen)) now distinct (as_legal (start n) seen legal) in
        let values : (batch_at now b).values ≡ [] = all_out _ (λ v c. unheld b none (holders b v c)) in
        map_nothing some_value (waiting.retired_at st b)
        (sym (retired_same st b) ∙ map_nothing (λ (v : Option T × Option ℕ). v.0) (waiting.retired_at (some_state st) b) (sym (holds.shows.values b) ∙ ap (map (found names)) values));
  }
    where
      below : (a b : ℕ) → a ≤ b → (a ≡ b → ⊥) → a < b
      below a b few other = elim (cases_lt a b) [ inl less ↦ less | inr more ↦ absurd (other (omega (arith, few, more))) ]

-- and without those that are gone below
orderly_above : {T : Type 0} (n : ℕ) (st : waiting.ModelState T ℕ) → IsOrderly (with_gone_below n st) → IsOrderly st
orderly_above {T} n st o = record {
  free = λ s free. without (waiting.model_slot st s) (sym (slot_below n st s) ∙ o.free s (ap (λ (slot : waiting.ModelSlot T ℕ). is_free slot.kind) (slot_below n st s) ∙ free));
  rest = λ some. subst (λ (t : ℕ × ℕ). t.0 < t.1) (λ i. (least_below n st.slots i, length-map st.slots (with_order_from n) i)) (o.rest some);
  inactive = λ s off.
      map_nothing (λ (b : ℕ). n + b) (waiting.model_slot st s).order
      (subst (λ (slot : waiting.ModelSlot T ℕ). waiting.has_guard slot ≡ false → slot.order ≡ []) (slot_below n st s) (o.inactive s) off);
  gone = λ b none. sym (get_below n (n + b) b st.retired refl) ∙ o.gone (n + b) (kept_below n st b ∙ none);
}
  where
    without : (slot : waiting.ModelSlot T ℕ) → with_order_from n slot ≡ waiting.unmade_slot → slot ≡ waiting.unmade_slot
    without slot is = λ i. record { kind = (is i).kind; guards = (is i).guards; batch = (is i).batch; order = map_nothing (λ (b : ℕ). n + b) slot.order (ap (λ (x : waiting.ModelSlot T ℕ). x.order) is) i }

-- an owned slot has one guard at most
pub owned_guard : {T : Type 0} (code : T → Gv) (st : waiting.ModelState T ℕ) (names : List (ℕ × T)) (kinds : List (ℕ × ℕ)) (n : Name) (seen : List Entry) (s : ℕ) → Holds code st names kinds n seen
    → is_owned (waiting.model_slot st s).kind ≡ true → waiting.has_guard (waiting.model_slot st s) ≡ true → set_guards st s 1 ≡ st
owned_guard {T} code st names kinds n seen s holds owned on =
    ap (λ (k : ℕ). set_guards st s k) (sym (one (waiting.model_slot st s).guards (owned_shown holds s owned) on)) ∙ ap (λ (l : List (waiting.ModelSlot T ℕ)). record st { slots = l }) (set-get_or st.slots s waiting.unmade_slot)
  where
    one : (k : ℕ) → k ≤ 1 → not (k == 0) ≡ true → k ≡ 1
    one k few some = grind arith

pub orderly_held : {T : Type 0} (code : T → Gv) → OrderlyHeld code
orderly_held code st names kinds n seen legal distinct holds =
    orderly_above holds.gone st (orderly code (with_gone_below holds.gone st) names kinds n seen legal distinct holds.all)
