-- What lies in the places of slots, while a collector is in one caller's hands, by the state that the hands hold.
use Rattle.std.proofs.Common.{◌≡◌, ◌⊎◌, ℕ, ◌==◌, ◌<◌, ◌≤◌, Bool, true, false, if◌then◌else◌, List, length, Option, Some, None, option_map, get_or, is_some, inl, inr, ⊎_elim, slice_set, refl, sym, ap, subst, ◌∙◌}
use Rattle.std.proofs.lemmas.Bool.{cases_lt, false≢true}
use Rattle.std.proofs.lemmas.List.{get_or-set_other, get_or-set_same, get_or_past, get_or_read}
use base.Stored.{Gv}
use Rattle.seize_machine.proofs.Facts.{eq_true}
use Rattle.seize_machine.specs.Machine.State.{head_at, is_active}
use Rattle.seize_model.specs.Waiting.Calls.{is_free}
use Rattle.seize_model.specs.Waiting.State.{ModelSlot, ModelState, has_guard, unmade_slot, set_slot, model_slot}
use Rattle.seize_book.proofs.Facts.{equal}
use Rattle.seize_book.specs.Book.{after}
use Rattle.seize_book.specs.Entry.{Entry}
use Rattle.seize_book.specs.Tokens.{Name, start}
use Rattle.seize_alone.specs.Holding.{Holds}
use Rattle.seize_alone.proofs.Shown.{active_shown}
use Rattle.seize_parts.specs.Places.{LiesThen}
use Rattle.seize_parts.specs.Placing.{ArePlaces, AreSound, Lies, lies_for, what_lies_in, lying_in}
use Rattle.seize_parts.specs.Reservations.{IsReservation}
use Rattle.seize_parts.specs.declared.alone.place.Place.{Place}
use Rattle.seize_parts.proofs.InUse.{set_or}

-- a slot is active where it has a guard
pub head_held : {T : Type 0} {code : T → Gv} {st : ModelState T ℕ} {names : List (ℕ × T)} {kinds : List (ℕ × ℕ)} {n : Name} {seen : List Entry} → Holds code st names kinds n seen → (s : ℕ) → is_active (head_at (after (start n) seen) s) ≡ has_guard (model_slot st s)
head_held holds s = active_shown holds s

-- each reservation is one, where one place was changed
pub sound_set : {U : Type 0} (places : List (Option (Place U))) (s : ℕ) (o : Option (Place U)) → AreSound places → ((x : Place U) → o ≡ Some x → IsReservation x.reservation) → AreSound (slice_set places s o)
sound_set places s o are one t place at = ⊎_elim (λ here. one place here.1) (λ other. are t place other.1) (set_or places s t o place at)

-- in that of slot s lies this
pub set_place : {U : Type 0} (n : Name) (st : ModelState U ℕ) (places : List (Option (Place U))) (s : ℕ) (slot : ModelSlot U ℕ) (place : Option (Place U)) → ArePlaces n st places → s < length st.slots → s < length places
    → option_map what_lies_in place ≡ lies_for n slot s → ((x : Place U) → place ≡ Some x → IsReservation x.reservation) → ArePlaces n (set_slot st s slot) (slice_set places s place)
set_place {U} n st places s slot place are there lies is one = record { lie = λ t. go t (s == t) refl; sound = sound_set places s place are.sound one }
  where
    go : (t : ℕ) (b : Bool) → (s == t) ≡ b → option_map what_lies_in (get_or (slice_set places s place) t None) ≡ lies_for n (model_slot (set_slot st s slot) t) t
    go t true e =
        let same : s ≡ t = eq_true s t e in
        subst (λ (k : ℕ). option_map what_lies_in (get_or (slice_set places s place) k None) ≡ lies_for n (model_slot (set_slot st s slot) k) k) same
        (ap (λ (o : Option (Place U)). option_map what_lies_in o) (get_or-set_same places s place None lies) ∙ is ∙ ap (λ (x : ModelSlot U ℕ). lies_for n x s) (sym (get_or-set_same st.slots s slot unmade_slot there)))
    go t false e =
        let other : ¬ (t ≡ s) = λ same. false≢true (sym e ∙ equal s t (sym same)) in
        ap (λ (o : Option (Place U)). option_map what_lies_in o) (get_or-set_other places s t place None other) ∙ are.lie t ∙ ap (λ (x : ModelSlot U ℕ). lies_for n x t) (sym (get_or-set_other st.slots s t slot unmade_slot other))

-- so after the place was changed
pub laid : {U : Type 0} (n : Name) (st : ModelState U ℕ) (s : ℕ) (slot : ModelSlot U ℕ) (items : List (Option (Place U))) (place : Place U) → ArePlaces n st items → s < length st.slots → s < length items → is_free slot.kind ≡ false
    → LiesThen place (lying_in n slot s) → ArePlaces n (set_slot st s slot) (slice_set items s (Some place))
laid {U} n st s slot items place are there lies used is =
    set_place n st items s slot (Some place) are there lies (ap (λ (t : Lies). Some t) is.0 ∙ ap (λ (b : Bool). if b then None else Some (lying_in n slot s)) (sym used))
    (λ x same. subst (λ (y : Place U). IsReservation y.reservation) (one same) is.1)
  where
    one : {a b : Place U} → Some a ≡ Some b → a ≡ b
    one e = cc

-- what lies there is a fact of the state
module _ {U : Type 0} (n : Name) (st : ModelState U ℕ) (places : List (Option (Place U))) (are : ArePlaces n st places) (s : ℕ) (used : is_free (model_slot st s).kind ≡ false) where
  lies_so : option_map what_lies_in (get_or places s None) ≡ Some (lying_in n (model_slot st s) s)
  lies_so = are.lie s ∙ ap (λ (b : Bool). if b then None else Some (lying_in n (model_slot st s) s)) used

  pub some_place : is_some (get_or places s None) ≡ true
  some_place = go (get_or places s None) lies_so
    where
      go : (o : Option (Place U)) → option_map what_lies_in o ≡ Some (lying_in n (model_slot st s) s) → is_some o ≡ true
      go None is = absurd (cc)
      go (Some place) is = refl

  pub place_there : s < length places
  place_there = go (cases_lt s (length places))
    where
      go : (s < length places) ⊎ (length places ≤ s) → s < length places
      go (inl less) = less
      go (inr past) = absurd (false≢true (sym (ap (λ (o : Option (Place U)). is_some o) (get_or_past places s None past)) ∙ some_place))

  pub place_is : (place : Place U) → get_or places s None ≡ Some place → LiesThen place (lying_in n (model_slot st s) s)
  place_is place is = let both : Some (what_lies_in place) ≡ Some (lying_in n (model_slot st s) s) = sym (ap (λ (o : Option (Place U)). option_map what_lies_in o) is) ∙ lies_so in (some_same both, are.sound s place is)
    where
      some_same : {a b : Lies} → Some a ≡ Some b → a ≡ b
      some_same e = cc

  -- also where that place is lent
  pub held_is : (at : Option (Place U)) (place : Place U) → at ≡ get_or places s at → at ≡ Some place → LiesThen place (lying_in n (model_slot st s) s)
  held_is at place read is = place_is place (sym (get_or_read places s at place_there read None) ∙ is)

-- a slot in use was made
pub slot_there : {U : Type 0} (st : ModelState U ℕ) (s : ℕ) → is_free (model_slot st s).kind ≡ false → s < length st.slots
slot_there st s used = go (cases_lt s (length st.slots))
  where
    go : (s < length st.slots) ⊎ (length st.slots ≤ s) → s < length st.slots
    go (inl less) = less
    go (inr past) = absurd (let free : true ≡ false = sym (ap (λ (slot : ModelSlot _ ℕ). is_free slot.kind) (get_or_past st.slots s unmade_slot past)) ∙ used in cc)
