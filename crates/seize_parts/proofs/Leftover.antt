-- What slots left in their batches as they ended, and the slot that takes it while all is reclaimed.
--     none_left, some_left       nothing was left, as the hands know, or something
--     all_in_use                 where no slot lies here all numbers are in use, so nothing was left
--     least_first                the first slot that lies here has the least number that is not in use, and was made
--     rest_none, rest_some       what is done then
--     rest_fits, rest_kept, rest_long     the slot is in use without a guard, and kept;  there are as many slots
--     here_moved                 what lay here is kept, or lies here still
use Rattle.std.proofs.Common.{◌≡◌, ◌⊎◌, ℕ, suc, ◌==◌, ◌<◌, ⊎_elim, Bool, true, false, not, if◌then◌else◌, List, [], ◌∷◌, length, Option, None, Some, is_some, get_or, slice_set, inl, inr, refl, sym, ap, subst, ◌∙◌, arith}
use Rattle.std.specs.List.{list_any, position}
use Rattle.std.specs.Option.{is_none}
use Rattle.std.proofs.lemmas.List.{get_or-set_other, get_or-set_same, length-map, length-set}
use native.Mathlib.Decide.{ℕ_discrete}
use base.Stored.{Coded}
use Rattle.seize_machine.proofs.Facts.{no_rest}
use Rattle.seize_machine.specs.Machine.Frames.{used}
use Rattle.seize_machine.specs.Machine.State.{are_distinct, linked_values}
use Rattle.seize_model.specs.declared.kind.Kind.TheVariants.{Registered}
use Rattle.seize_model.specs.Waiting.Attempt.{StateAndGone, attempt_if_full, with_gone}
use Rattle.seize_model.specs.Waiting.Calls.{is_free, least_unused, with_number_in_use}
use Rattle.seize_model.specs.Waiting.State.{ModelSlot, ModelState, has_guard, model_slot}
use Rattle.seize_book.proofs.Facts.{equal, reached_after, unequal}
use Rattle.seize_book.specs.Book.{IsLegalList}
use Rattle.seize_book.specs.Homesteads.{state_seen}
use Rattle.seize_book.specs.Others.{first_false}
use Rattle.seize_book.specs.Tokens.{start}
use Rattle.seize_book.specs.declared.book.pass.Pass.{Pass}
use Rattle.seize_calls.specs.Numbered.{are_none}
use Rattle.seize_calls.specs.declared.slot.Slot.{Slot}
use Rattle.seize_alone.specs.Holding.{Holds}
use Rattle.seize_alone.specs.Reclaiming.{batch_in_turn, rest_in_turn}
use Rattle.seize_alone.proofs.Outlines.{guards_in, kind_in, slots_in}
use Rattle.seize_alone.proofs.Ready.{least_is}
use Rattle.seize_alone.proofs.Shown.{many_shown, slot_shown}
use Rattle.seize_parts.specs.Aparts.{AreKeptOf}
use Rattle.seize_parts.specs.Numbers.{flags_of}
use Rattle.seize_parts.proofs.InUse.{some_set, used_place}
use Rattle.seize_parts.proofs.Keeping.{kept_then}
use Rattle.seize_parts.proofs.Numbered.{first_below, first_some, none_before, none_free}
use Rattle.seize_parts.proofs.Outlined.{batch_outline, full_outline, use_at, use_long, use_other}
use Rattle.seize_parts.proofs.Resumed.{rest_shown}

pub are_nothing : (vs : List ℕ) → are_none vs ≡ true → vs ≡ []
are_nothing [] none = refl
are_nothing (v ∷ vs) none = absurd (cc)

not_nothing : (vs : List ℕ) → are_none vs ≡ false → (length vs == 0) ≡ false
not_nothing [] some = absurd (cc)
not_nothing (v ∷ vs) some = unequal (length (v ∷ vs)) 0 (λ e. absurd (omega (arith, e)))

module _ {T : Type 0} (c : Coded T) (st : ModelState T ℕ) (names : List (ℕ × T)) (kinds : List (ℕ × ℕ)) (pass : Pass) (holds : Holds c.code st names kinds pass.name pass.seen) where
  pub none_left : are_none (state_seen pass).rest ≡ true → (length st.rest == 0) ≡ true
  none_left none = equal (length st.rest) 0 (sym (rest_shown c st names kinds pass holds) ∙ ap (λ (vs : List ℕ). length vs) (are_nothing (state_seen pass).rest none))

  pub some_left : are_none (state_seen pass).rest ≡ false → (length st.rest == 0) ≡ false
  some_left some = ap (λ (k : ℕ). k == 0) (sym (rest_shown c st names kinds pass holds)) ∙ not_nothing (state_seen pass).rest some

  -- Which number is the least.
  module _ {X : Type 0} (items : List (Option X)) (flags : used (state_seen pass) ≡ flags_of items) (n : ℕ) (found : position is_some items ≡ Some n) where
    many : length items ≡ length st.slots
    many = sym (length-map items is_none) ∙ ap (λ (us : List Bool). length us) (sym flags) ∙ length-map (state_seen pass).slots (λ slot. slot.used) ∙ many_shown holds

    free_by : (i : ℕ) (some : Bool) → i < length items → is_some (get_or items i None) ≡ some → is_free (model_slot st i).kind ≡ some
    free_by i some below is = by (is_free (model_slot st i).kind) some (sym (slot_shown holds i).used ∙ used_place (state_seen pass).slots items i flags below ∙ at (get_or items i None) some is)
      where
        at : (o : Option X) (some : Bool) → is_some o ≡ some → is_none o ≡ not some
        at None some is = ap not is
        at (Some x) some is = ap not is

        by : (a b : Bool) → not a ≡ not b → a ≡ b
        by true true e = refl
        by false false e = refl
        by true false e = absurd (cc)
        by false true e = absurd (cc)

    pub least_first : (n ≡ least_unused st.slots) × (n < length st.slots)
    least_first =
        let below = first_below items n found in let long = many in let there : n < length st.slots = omega (arith, below, long) in (
          sym (least_is st.slots n there (λ i less. free_by i false (omega (arith, less, below)) (none_before items n found i less)) (free_by n true below (first_some items n found))),
          there,
        )

-- Where no slot lies here all numbers are in use.

all_true : (us : List Bool) → first_false us ≡ length us → list_any (λ (u : Bool). not u) us ≡ false
all_true [] all = refl
all_true (true ∷ us) all = all_true us (omega (arith, all))
all_true (false ∷ us) all = absurd (let z : 0 ≡ suc (length us) = all in omega (arith, z))

pub all_in_use : {X : Type 0} (pass : Pass) (items : List (Option X)) → IsLegalList (start pass.name) pass.seen → are_distinct (linked_values pass.name.links) ≡ true → used (state_seen pass) ≡ flags_of items → position is_some items ≡ None → (state_seen pass).rest ≡ []
all_in_use pass items legal distinct flags none =
    no_rest (state_seen pass) (reached_after pass.name pass.seen distinct legal)
    (ap (list_any (λ (u : Bool). not u)) flags ∙ all_true (flags_of items) (none_free items none ∙ sym (length-map items is_none)))

-- What is done.

module _ {T : Type 0} (st : ModelState T ℕ) where
  pub rest_none : (length st.rest == 0) ≡ true → rest_in_turn st ≡ (st, [])
  rest_none none = ap (λ (b : Bool). if b then (st, []) else taken (least_unused st.slots)) none
    where
      taken : ℕ → StateAndGone T ℕ
      taken k = with_gone (attempt_if_full (with_number_in_use st k Registered) k).1 (batch_in_turn (attempt_if_full (with_number_in_use st k Registered) k).0 k)

  module _ (n : ℕ) (least : n ≡ least_unused st.slots) (some : (length st.rest == 0) ≡ false) where
    abbrev taken : ℕ → StateAndGone T ℕ
    taken k = attempt_if_full (with_number_in_use st k Registered) k

    pub rest_some : with_gone (taken n).1 (batch_in_turn (taken n).0 n) ≡ rest_in_turn st
    rest_some =
        ap (λ (k : ℕ). with_gone (taken k).1 (batch_in_turn (taken k).0 k)) least
        ∙ sym (ap (λ (b : Bool). if b then (st, []) else with_gone (taken (least_unused st.slots)).1 (batch_in_turn (taken (least_unused st.slots)).0 (least_unused st.slots))) some)

    module _ (below : n < length st.slots) where
      pub rest_fits : (is_free (model_slot (taken n).0 n).kind ≡ false) × (has_guard (model_slot (taken n).0 n) ≡ false)
      rest_fits =
          let same = full_outline (with_number_in_use st n Registered) n in let at = use_at st n Registered below in (
            ap is_free (kind_in (taken n).0 (with_number_in_use st n Registered) same n ∙ at.0),
            ap (λ (k : ℕ). not (k == 0)) (guards_in (taken n).0 (with_number_in_use st n Registered) same n) ∙ at.1,
          )

      -- there are as many slots
      pub rest_long : length (rest_in_turn st).0.slots ≡ length st.slots
      rest_long =
          subst (λ (o : StateAndGone T ℕ). length o.0.slots ≡ length st.slots) rest_some
          (slots_in (batch_in_turn (taken n).0 n).0 (with_number_in_use st n Registered) (batch_outline (taken n).0 n (λ used. rest_fits.1) ∙ full_outline (with_number_in_use st n Registered) n) ∙ use_long st n Registered below)

      -- the slot is kept
      pub rest_kept : (kept : List (Option (Slot T))) (slot : Slot T) → n < length kept → AreKeptOf kept st → AreKeptOf (slice_set kept n (Some slot)) (rest_in_turn st).0
      rest_kept kept slot there are =
          subst (λ (o : StateAndGone T ℕ). AreKeptOf (slice_set kept n (Some slot)) o.0) rest_some
          (kept_then (slice_set kept n (Some slot)) (slice_set kept n (Some slot)) (with_number_in_use st n Registered) (batch_in_turn (taken n).0 n).0 refl
          (batch_outline (taken n).0 n (λ used. rest_fits.1) ∙ full_outline (with_number_in_use st n Registered) n) now)
        where
          now : AreKeptOf (slice_set kept n (Some slot)) (with_number_in_use st n Registered)
          now s = go (ℕ_discrete s n)
            where
              go : Dec (s ≡ n) → (is_none (get_or (slice_set kept n (Some slot)) s None) ≡ is_free (model_slot (with_number_in_use st n Registered) s).kind)
                  × (is_free (model_slot (with_number_in_use st n Registered) s).kind ≡ false → has_guard (model_slot (with_number_in_use st n Registered) s) ≡ false)
              go (yes e) =
                  let at = use_at st n Registered below in
                  subst (λ (k : ℕ). (is_none (get_or (slice_set kept n (Some slot)) k None) ≡ is_free (model_slot (with_number_in_use st n Registered) k).kind)
                  × (is_free (model_slot (with_number_in_use st n Registered) k).kind ≡ false → has_guard (model_slot (with_number_in_use st n Registered) k) ≡ false)) (sym e)
                  (ap is_none (get_or-set_same kept n (Some slot) None there) ∙ sym (ap is_free at.0), λ used. at.1)
              go (no differs) =
                  let other = use_other st n Registered below s differs in (
                    ap is_none (get_or-set_other kept n s (Some slot) None differs) ∙ (are s).0 ∙ sym (ap (λ (x : ModelSlot T ℕ). is_free x.kind) other),
                    λ used. ap (λ (x : ModelSlot T ℕ). has_guard x) other ∙ (are s).1 (sym (ap (λ (x : ModelSlot T ℕ). is_free x.kind) other) ∙ used),
                  )

-- The slot that lay in this place is kept in it.
pub here_moved : {X Y : Type 0} (slots slots' : List (Option X)) (kept kept' : List (Option Y)) (n : ℕ) (slot : Y) → slots' ≡ slice_set slots n None → kept' ≡ slice_set kept n (Some slot) → n < length kept
    → (length slots' ≡ length slots) × ((i : ℕ) → (is_some (get_or slots i None) ≡ true) ⊎ (is_some (get_or kept i None) ≡ true) → (is_some (get_or slots' i None) ≡ true) ⊎ (is_some (get_or kept' i None) ≡ true))
here_moved {X} {Y} slots slots' kept kept' n slot slots_is kept_is below = (
  ap (λ (l : List (Option X)). length l) slots_is ∙ length-set slots n None,
  λ i. ⊎_elim (λ lies. here i lies (ℕ_discrete i n)) (λ held. inr (ap (λ (l : List (Option Y)). is_some (get_or l i None)) kept_is ∙ some_set kept n i (Some slot) refl held)),
)
  where
    here : (i : ℕ) → is_some (get_or slots i None) ≡ true → Dec (i ≡ n) → (is_some (get_or slots' i None) ≡ true) ⊎ (is_some (get_or kept' i None) ≡ true)
    here i lies (yes e) = inr (ap (λ (l : List (Option Y)). is_some (get_or l i None)) kept_is ∙ ap (λ (k : ℕ). is_some (get_or (slice_set kept n (Some slot)) k None)) e ∙ ap is_some (get_or-set_same kept n (Some slot) None below))
    here i lies (no differs) = inl (ap (λ (l : List (Option X)). is_some (get_or l i None)) slots_is ∙ ap is_some (get_or-set_other slots n i None None differs) ∙ lies)
