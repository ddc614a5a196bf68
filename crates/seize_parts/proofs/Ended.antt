-- The number of a slot that is kept goes back, by a pass that is alone.
--     may_end                    it may, since another slot is active, and so in use, or nothing is left
--     gave_rest, gave_idle, gave_led     what is left then, and what stays
--     gave_held                  what the hands hold then
--     here_ended                 what was kept lies here, or is kept still
--     last_more, numbers_all     one number more, the one before;  beyond all that are kept nothing is done
--     spent_less, none_less, kept_less     none is kept in one place more
use Rattle.std.proofs.Common.{◌≡◌, ◌⊎◌, ℕ, zero, suc, ◌+◌, ◌-◌, ◌<◌, ◌≤◌, ◌||◌, ◌&&◌, inl, inr, ⊎_elim, Bool, true, false, List, [], ◌∷◌, ◌++◌, length, Option, None, Some, is_some, get_or, reverse, slice_set, refl, sym, ap, subst, ◌∙◌, arith}
use Rattle.std.specs.List.{list_any, range_with_len}
use Rattle.std.specs.Option.{is_none}
use Rattle.std.proofs.Math.ListN.{get_or-map}
use Rattle.std.proofs.lemmas.List.{get_or-set_other, get_or-set_same, get_or_past, length-set, reverse-append}
use Rattle.std.proofs.lemmas.Bool.{cases_lt}
use native.Mathlib.Decide.{ℕ_discrete}
use base.Stored.{Coded}
use Rattle.seize_machine.proofs.Facts.{Step, free_empty}
use Rattle.seize_machine.specs.Machine.Event.{Give}
use Rattle.seize_machine.specs.Machine.Frames.{used}
use Rattle.seize_machine.specs.Machine.Next.{after_give, ends_now, is_empty}
use Rattle.seize_machine.specs.Machine.State.{Inactive, Slot as Record, State, are_distinct, head_at, is_active, linked_values, no_slot, slot_at}
use Rattle.seize_machine.specs.declared.machine.event.Answer.{Answer}
use Rattle.seize_model.specs.Waiting.Calls.{is_free}
use Rattle.seize_model.specs.Waiting.State.{ModelSlot, ModelState, has_guard, model_slot}
use Rattle.seize_book.proofs.Facts.{reached_after}
use Rattle.seize_book.specs.Book.{IsLegalList}
use Rattle.seize_book.specs.Homesteads.{state_seen}
use Rattle.seize_book.specs.Others.{MayGive, others_used, rest_of, use_flags}
use Rattle.seize_book.specs.Slots.{slot_number, slot_of}
use Rattle.seize_book.specs.Tokens.{start}
use Rattle.seize_book.specs.declared.book.numbers_key.NumbersKey.{NumbersKey}
use Rattle.seize_book.specs.declared.book.pass.Pass.{Pass}
use Rattle.seize_calls.specs.Slots.{its_key, its_number}
use Rattle.seize_calls.specs.declared.slot.Slot.{Slot}
use Rattle.seize_alone.specs.Events.{MakesAlone}
use Rattle.seize_alone.specs.Holding.{Holds}
use Rattle.seize_alone.specs.Reclaiming.{number_in_turn, numbers_in_turn}
use Rattle.seize_alone.proofs.Singles.{gives_held}
use Rattle.seize_parts.specs.Aparts.{AreKeptOf}
use Rattle.seize_parts.specs.Sweeps.{AreOff, HaveEmptyBatches, IsLedBy, IsOff, KeepsActive, KeepsIdle, KeepsOn}
use Rattle.seize_parts.proofs.Leftover.{here_moved}
use Rattle.seize_parts.proofs.Going.{range_append}
use Rattle.seize_parts.proofs.InUse.{set_or}
use Rattle.seize_parts.proofs.Keeping.{free_place, past_free}
use Rattle.seize_parts.proofs.Outlined.{number_at, number_free, number_other, number_used}
use Rattle.seize_parts.proofs.Swept.{alone_heads, alone_led, alone_step, event_of, idle_led, keeps_on}

-- Lists.

any_at : {X : Type 0} (p : X → Bool) (xs : List X) (d : X) → list_any p xs ≡ true → (t : ℕ) × (p (get_or xs t d) ≡ true)
any_at p [] d any = absurd (cc)
any_at {X} p (x ∷ xs) d any = go (p x) refl (any_at p xs d)
  where
    go : (b : Bool) → p x ≡ b → (list_any p xs ≡ true → (t : ℕ) × (p (get_or xs t d) ≡ true)) → (t : ℕ) × (p (get_or (x ∷ xs) t d) ≡ true)
    go true is more = (0, is)
    go false is more = let there = more (sym (ap (λ (b : Bool). b || list_any p xs) is) ∙ any) in (suc there.0, there.1)

none_at : {X : Type 0} (p : X → Bool) (xs : List X) (d : X) → p d ≡ false → list_any p xs ≡ false → (t : ℕ) → p (get_or xs t d) ≡ false
none_at p [] d last none t = last
none_at {X} p (x ∷ xs) d last none t = go (p x) refl t (none_at p xs d last)
  where
    go : (b : Bool) → p x ≡ b → (t : ℕ) → (list_any p xs ≡ false → (t : ℕ) → p (get_or xs t d) ≡ false) → p (get_or (x ∷ xs) t d) ≡ false
    go true is t more = absurd (let e : true ≡ false = sym (ap (λ (b : Bool). b || list_any p xs) is) ∙ none in cc)
    go false is zero more = is
    go false is (suc t) more = more (sym (ap (λ (b : Bool). b || list_any p xs) is) ∙ none) t

others_at : (us : List Bool) (n t : ℕ) → ¬ (t ≡ n) → get_or us t false ≡ true → others_used us n ≡ true
others_at [] n t differs on = absurd (let e : false ≡ true = sym (get_or_past [] t false (omega arith)) ∙ on in cc)
others_at (u ∷ us) zero zero differs on = absurd (differs refl)
others_at (u ∷ us) zero (suc t) differs on = any_in us t on
  where
    any_in : (us : List Bool) (t : ℕ) → get_or us t false ≡ true → list_any (λ (u : Bool). u) us ≡ true
    any_in [] t on = absurd (let e : false ≡ true = sym (get_or_past [] t false (omega arith)) ∙ on in cc)
    any_in (u ∷ us) zero on = ap (λ (b : Bool). b || list_any (λ (u : Bool). u) us) on
    any_in (true ∷ us) (suc t) on = refl
    any_in (false ∷ us) (suc t) on = any_in us t on
others_at (u ∷ us) (suc n) zero differs on = ap (λ (b : Bool). b || list_any (λ (u : Bool). u) (slice_set us n false)) on
others_at (true ∷ us) (suc n) (suc t) differs on = refl
others_at (false ∷ us) (suc n) (suc t) differs on = others_at us n t (λ e. differs (ap suc e)) on

or_true : (b : Bool) → (b || true) ≡ true
or_true true = refl
or_true false = refl

-- It may end.

pub may_end : {T : Type 0} (key : NumbersKey) (slot : Slot T) (pass : Pass) → IsLegalList (start pass.name) pass.seen → are_distinct (linked_values pass.name.links) ≡ true → used (state_seen pass) ≡ use_flags key → IsOff pass (its_number slot)
    → (AreOff pass → ((slot_of (its_key slot)).batch ≡ []) × (rest_of key ≡ [])) → MayGive key (its_key slot)
may_end {T} key slot pass legal distinct flags off spent = go (list_any is_active (state_seen pass).heads) refl
  where
    st : State
    st = state_seen pass

    go : (b : Bool) → list_any is_active (state_seen pass).heads ≡ b → ends_now (others_used (use_flags key) (slot_number (its_key slot))) (slot_of (its_key slot)).batch (rest_of key) ≡ true
    go false none =
        let nothing = spent (none_at is_active (state_seen pass).heads Inactive refl none) in
        (λ j. others_used (use_flags key) (slot_number (its_key slot)) || (is_empty (nothing.0 j) && is_empty (nothing.1 j))) ∙ or_true (others_used (use_flags key) (slot_number (its_key slot)))
    go true some =
        let there = any_at is_active (state_seen pass).heads Inactive some in let t = there.0 in
        let differs : ¬ (t ≡ slot_number (its_key slot)) = λ e. absurd (let no : true ≡ false = sym there.1 ∙ ap (λ (k : ℕ). is_active (head_at (state_seen pass) k)) (e ∙ slot.together.numbered) ∙ off in cc) in
        ap (λ (b : Bool). b || (is_empty (slot_of (its_key slot)).batch && is_empty (rest_of key)))
        (others_at (use_flags key) (slot_number (its_key slot)) t differs (ap (λ (us : List Bool). get_or us t false) (sym flags) ∙ get_or-map (λ (x : Record). x.used) (state_seen pass).slots t no_slot ∙ in_use t there.1 (slot_at (state_seen pass) t).used refl))
      where
        in_use : (t : ℕ) → is_active (head_at (state_seen pass) t) ≡ true → (b : Bool) → (slot_at (state_seen pass) t).used ≡ b → (slot_at (state_seen pass) t).used ≡ true
        in_use t active true is = is
        in_use t active false is =
            absurd (let no : true ≡ false = sym active ∙ (free_empty (state_seen pass) (reached_after pass.name pass.seen distinct legal) t is).1 in cc)

-- What is so then.

gave_row : (size s : ℕ) (st : State) (o : State × Answer) → Step size st (Give s) o → ((o.0).rest ≡ st.rest ++ (slot_at st s).batch) × ((slot_at o.0 s).call ≡ None)
gave_row size s st _ (Step.gave _ idle off ends) = (refl, there (cases_lt s (length st.slots)))
  where
    there : (s < length st.slots) ⊎ (length st.slots ≤ s) → (slot_at (after_give st s) s).call ≡ None
    there (inl less) = ap (λ (x : Record). x.call) (get_or-set_same st.slots s no_slot no_slot less)
    there (inr past) = ap (λ (x : Record). x.call) (get_or_past (slice_set st.slots s no_slot) s no_slot (let same = length-set st.slots s no_slot in omega (arith, same, past)))

module _ {n : ℕ} {p q : Pass} {answer : Answer} (makes : MakesAlone p q (Give n) answer) where
  pub gave_rest : (state_seen p).rest ≡ [] → (slot_at (state_seen p) n).batch ≡ [] → (state_seen q).rest ≡ []
  gave_rest none spent = (gave_row makes.deed.size n (state_seen p) _ (alone_step makes)).0 ∙ (λ j. none j ++ spent j)

  gave_led : IsLedBy n p q
  gave_led = alone_led makes n (event_of n (Give n) refl (λ t. refl) (λ l. refl))

  pub gave_on : KeepsOn p q × KeepsActive p q × KeepsIdle p q
  gave_on = (keeps_on n p q gave_led, alone_heads makes (λ t. refl), idle_led n p q gave_led (gave_row makes.deed.size n (state_seen p) _ (alone_step makes)).1)

  pub gave_held : {T : Type 0} (c : Coded T) (st : ModelState T ℕ) (names : List (ℕ × T)) (kinds : List (ℕ × ℕ)) → Holds c.code st names kinds p.name p.seen → is_free (model_slot st n).kind ≡ false → has_guard (model_slot st n) ≡ false
      → Holds c.code (number_in_turn st n) names kinds q.name q.seen
  gave_held {T} c st names kinds holds used off = subst (λ (now : ModelState T ℕ). Holds c.code now names kinds q.name q.seen) (sym (number_used st n used)) (gives_held c st names kinds n answer p q makes holds used off).0

-- The slot that was kept in this place lies in it.
pub here_ended : {X Y : Type 0} (slots slots' : List (Option X)) (kept kept' : List (Option Y)) (n : ℕ) (slot : X) → slots' ≡ slice_set slots n (Some slot) → kept' ≡ slice_set kept n None → n < length slots
    → (length slots' ≡ length slots) × ((i : ℕ) → (is_some (get_or slots i None) ≡ true) ⊎ (is_some (get_or kept i None) ≡ true) → (is_some (get_or slots' i None) ≡ true) ⊎ (is_some (get_or kept' i None) ≡ true))
here_ended {X} {Y} slots slots' kept kept' n slot slots_is kept_is below =
    (ap (λ (l : List (Option X)). length l) slots_is ∙ length-set slots n (Some slot), λ i here. turned (moved.1 i (turned here)))
  where
    moved : (length kept' ≡ length kept) × ((i : ℕ) → (is_some (get_or kept i None) ≡ true) ⊎ (is_some (get_or slots i None) ≡ true) → (is_some (get_or kept' i None) ≡ true) ⊎ (is_some (get_or slots' i None) ≡ true))
    moved = here_moved kept kept' slots slots' n slot kept_is slots_is below

    turned : {A B : Type 0} → A ⊎ B → B ⊎ A
    turned (inl a) = inr a
    turned (inr b) = inl b

-- The numbers go back, the last one first.

module _ {T : Type 0} where
  numbers_append : (st : ModelState T ℕ) (ss ts : List ℕ) → numbers_in_turn st (ss ++ ts) ≡ numbers_in_turn (numbers_in_turn st ss) ts
  numbers_append st [] ts = refl
  numbers_append st (s ∷ ss) ts = numbers_append (number_in_turn st s) ss ts

  pub last_more : (st : ModelState T ℕ) (k m : ℕ) → numbers_in_turn st (reverse (range_with_len k (suc m))) ≡ number_in_turn (numbers_in_turn st (reverse (range_with_len (k + 1) m))) k
  last_more st k m = ap (numbers_in_turn st) (reverse-append (k ∷ []) (range_with_len (k + 1) m)) ∙ numbers_append st (reverse (range_with_len (k + 1) m)) (k ∷ [])

  numbers_beyond : (m k : ℕ) (st : ModelState T ℕ) → ((s : ℕ) → k ≤ s → is_free (model_slot st s).kind ≡ true) → numbers_in_turn st (reverse (range_with_len k m)) ≡ st
  numbers_beyond zero k st free = refl
  numbers_beyond (suc m) k st free =
      last_more st k m ∙ ap (λ (now : ModelState T ℕ). number_in_turn now k) (numbers_beyond m (k + 1) st (λ s past. free s (omega (arith, past)))) ∙ number_free st k (free k (omega arith))

  numbers_longer : (st : ModelState T ℕ) (a b : ℕ) → a ≤ b → ((s : ℕ) → a ≤ s → is_free (model_slot st s).kind ≡ true) → numbers_in_turn st (reverse (range_with_len 0 b)) ≡ numbers_in_turn st (reverse (range_with_len 0 a))
  numbers_longer st a b less free =
      let whole : a + (b - a) ≡ b = omega (arith, less) in let from : 0 + a ≡ a = omega arith in
      ap (λ (k : ℕ). numbers_in_turn st (reverse (range_with_len 0 k))) (sym whole)
      ∙ ap (λ (l : List ℕ). numbers_in_turn st (reverse l)) (range_append a 0 (b - a) ∙ ap (λ (k : ℕ). range_with_len 0 a ++ range_with_len k (b - a)) from)
      ∙ ap (numbers_in_turn st) (reverse-append (range_with_len 0 a) (range_with_len a (b - a))) ∙ numbers_append st (reverse (range_with_len a (b - a))) (reverse (range_with_len 0 a))
      ∙ ap (λ (now : ModelState T ℕ). numbers_in_turn now (reverse (range_with_len 0 a))) (numbers_beyond (b - a) a st free)

  pub numbers_all : (kept : List (Option (Slot T))) (st : ModelState T ℕ) → AreKeptOf kept st → numbers_in_turn st (reverse (range_with_len 0 (length kept))) ≡ numbers_in_turn st (reverse (range_with_len 0 (length st.slots)))
  numbers_all kept st are =
      ⊎_elim (λ less. sym (numbers_longer st (length kept) (length st.slots) less (λ s past. free_place kept s st (get_or_past kept s None past) are)))
      (λ more. numbers_longer st (length st.slots) (length kept) (omega (arith, more)) (λ s past. past_free st s past)) (less_or (length kept) (length st.slots))
    where
      less_or : (a b : ℕ) → (a ≤ b) ⊎ (b ≤ a)
      less_or a b = ⊎_elim (λ less. inl (omega (arith, less))) (λ past. inr past) (cases_lt a b)

  -- None is kept in one place more.

  pub spent_less : (kept kept' : List (Option (Slot T))) (n : ℕ) → kept' ≡ slice_set kept n None → HaveEmptyBatches kept → HaveEmptyBatches kept'
  spent_less kept kept' n is spent i slot there =
      ⊎_elim (λ here. absurd (let no = here.1 in cc)) (λ other. spent i slot other.1) (set_or kept n i None slot (ap (λ (l : List (Option (Slot T))). get_or l i None) (sym is) ∙ there))

  pub none_less : (kept kept' : List (Option (Slot T))) (k m : ℕ) → kept' ≡ slice_set kept k None → k < length kept → k + 1 ≡ m → ((i : ℕ) → m ≤ i → get_or kept i None ≡ None) → (i : ℕ) → k ≤ i → get_or kept' i None ≡ None
  none_less kept kept' k m is below next none i past = ap (λ (l : List (Option (Slot T))). get_or l i None) is ∙ go (ℕ_discrete i k)
    where
      go : Dec (i ≡ k) → get_or (slice_set kept k None) i None ≡ None
      go (yes e) = ap (λ (j : ℕ). get_or (slice_set kept k None) j None) e ∙ get_or-set_same kept k None None below
      go (no differs) = get_or-set_other kept k i None None differs ∙ none i (let apart : i ≡ k → ⊥ = differs in omega (arith, past, next, apart))

  pub kept_less : (kept kept' : List (Option (Slot T))) (n : ℕ) (st : ModelState T ℕ) → kept' ≡ slice_set kept n None → n < length kept → AreKeptOf kept st → AreKeptOf kept' (number_in_turn st n)
  kept_less kept kept' n st is below are = subst (λ (l : List (Option (Slot T))). AreKeptOf l (number_in_turn st n)) (sym is) (λ s. go s (ℕ_discrete s n))
    where
      go : (s : ℕ) → Dec (s ≡ n) → (is_none (get_or (slice_set kept n None) s None) ≡ is_free (model_slot (number_in_turn st n) s).kind) × (is_free (model_slot (number_in_turn st n) s).kind ≡ false → has_guard (model_slot (number_in_turn st n) s) ≡ false)
      go s (yes e) =
          subst (λ (k : ℕ). (is_none (get_or (slice_set kept n None) k None) ≡ is_free (model_slot (number_in_turn st n) k).kind) × (is_free (model_slot (number_in_turn st n) k).kind ≡ false → has_guard (model_slot (number_in_turn st n) k) ≡ false)) (sym e)
          (ap is_none (get_or-set_same kept n None None below) ∙ sym (number_at st n), λ used. absurd (let no : true ≡ false = sym (number_at st n) ∙ used in cc))
      go s (no differs) =
          let other = number_other st n s differs in (
            ap is_none (get_or-set_other kept n s None None differs) ∙ (are s).0 ∙ sym (ap (λ (x : ModelSlot T ℕ). is_free x.kind) other),
            λ used. ap (λ (x : ModelSlot T ℕ). has_guard x) other ∙ (are s).1 (sym (ap (λ (x : ModelSlot T ℕ). is_free x.kind) other) ∙ used),
          )
