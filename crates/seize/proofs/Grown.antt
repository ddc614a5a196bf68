-- A number is taken, of a collector in one caller's hands: what lies in the places then, how many slots there are, and what stays.
use Rattle.std.proofs.Common.{◌≡◌, ℕ, zero, suc, ◌+◌, ◌==◌, ◌<◌, ◌≤◌, Bool, true, false, not, if◌then◌else◌, List, [], ◌∷◌, ◌++◌, inl, inr, length, Option, Some, None, option_map, get_or, slice_set, refl, sym, ap, subst, ◌∙◌, arith}
use Rattle.std.specs.Prelude.{Err, Ok}
use Rattle.std.proofs.lemmas.Bool.{false≢true}
use Rattle.std.proofs.lemmas.List.{get_or-set_other, get_or-set_same, length-append, length-set}
use Rattle.std.proofs.lemmas.List.Sums.{prefix_len-le-length}
use Rattle.seize_table.specs.Place.{all_numbers}
use Rattle.seize_table.specs.declared.refusal.Refusal.TheVariants.{NoNumbers}
use Rattle.seize_machine.proofs.Facts.{eq_true}
use Rattle.seize_model.specs.declared.kind.Kind.{Kind}
use Rattle.seize_model.specs.Waiting.Calls.{is_free, is_owned, least_unused, set_guards, take_number, taking, with_number_in_use}
use Rattle.seize_model.specs.Waiting.State.{ModelSlot, ModelState, unmade_slot, model_slot}
use Rattle.seize_model.specs.Waiting.Attempt.{StateAndGone}
use Rattle.seize_alone.proofs.Ready.{taken_as, used_slot}
use Rattle.seize_book.proofs.Facts.{equal}
use Rattle.seize_book.specs.Tokens.{Name}
use Rattle.seize_parts.specs.Kinds.{kind_if_owned}
use Rattle.seize_parts.specs.Places.{LiesThen}
use Rattle.seize_parts.specs.Placing.{ArePlaces, AreSound, Lies, lies_for, what_lies_in}
use Rattle.seize_parts.specs.Reservations.{IsReservation, place_label}
use Rattle.seize_parts.specs.Told.{Answers, Grew, told_of}
use Rattle.seize_parts.specs.declared.alone.place.Place.{Place}
use Rattle.seize_parts.proofs.Lying.{sound_set}

-- Kinds.

pub kind_used : (owned : Bool) → is_free (kind_if_owned owned) ≡ false
kind_used true = refl
kind_used false = refl

pub kind_owned : (owned : Bool) → is_owned (kind_if_owned owned) ≡ owned
kind_owned true = refl
kind_owned false = refl

-- Lists.

append_other : {A : Type 0} (xs : List A) (x d : A) (t : ℕ) → ¬ (t ≡ length xs) → get_or (xs ++ x ∷ []) t d ≡ get_or xs t d
append_other [] x d zero other = absurd (other refl)
append_other [] x d (suc t) other = refl
append_other (y ∷ ys) x d zero other = refl
append_other (y ∷ ys) x d (suc t) other = append_other ys x d t (λ same. other (ap suc same))

module _ {T : Type 0} (st : ModelState T ℕ) (k : ℕ) (kind : Kind) where
  abbrev pub grown : ModelState T ℕ
  grown = with_number_in_use st k kind

  abbrev slot : ModelSlot T ℕ
  slot = record { kind = kind; guards = 0; batch = st.rest; order = [] }

  abbrev slots_if : Bool → List (ModelSlot T ℕ)
  slots_if b = if b then st.slots ++ slot ∷ [] else slice_set st.slots k slot

  -- What stays.

  other_if : (b : Bool) (t : ℕ) → (k == length st.slots) ≡ b → ¬ (t ≡ k) → get_or (slots_if b) t unmade_slot ≡ model_slot st t
  other_if true t new other = append_other st.slots _ unmade_slot t (λ same. other (same ∙ sym (eq_true k (length st.slots) new)))
  other_if false t new other = get_or-set_other st.slots k t _ unmade_slot other

  other_slot : (t : ℕ) → ¬ (t ≡ k) → model_slot grown t ≡ model_slot st t
  other_slot t other = other_if (k == length st.slots) t refl other

  -- How many slots there are.

  count_if : (b : Bool) → length (slots_if b) ≡ (if b then length st.slots + 1 else length st.slots)
  count_if true = length-append st.slots _
  count_if false = length-set st.slots k _

  pub many_then : (made : ℕ) → made ≡ length st.slots → (if k == made then made + 1 else made) ≡ length grown.slots
  many_then made counted = ap (λ (m : ℕ). if k == m then m + 1 else m) counted ∙ sym (count_if (k == length st.slots))

  -- What lies in the places, where there was room for the new one.

  pub within : (made : ℕ) (places : ℕ) → k ≡ least_unused st.slots → made ≡ length st.slots → made + 1 ≤ places → k < places
  within made places least counted room = let below : least_unused st.slots ≤ length st.slots = prefix_len-le-length _ st.slots in omega (arith, least, counted, room, below)

  pub grown_places : (n : Name) (items room back : List (Option (Place T))) (place : Place T) → ArePlaces n st items → ((t : ℕ) → get_or room t None ≡ get_or items t None) → k < length room → back ≡ slice_set room k (Some place)
      → k ≡ least_unused st.slots → is_free kind ≡ false → LiesThen place (is_owned kind, (0, (place_label n k 1, (None, n.family)))) → ArePlaces n grown back
  grown_places n items room back place are same there put least used is = record {
    lie = λ t. go t (k == t) refl;
    sound = subst AreSound (sym put) (sound_set room k (Some place) (λ t other at. are.sound t other (sym (same t) ∙ at)) (λ other at. subst (λ (x : Place T). IsReservation x.reservation) (one at) is.1));
  }
    where
      one : {x y : Place T} → Some x ≡ Some y → x ≡ y
      one e = cc

      own : (model_slot grown k).kind ≡ kind
      own = ap (λ (x : ModelSlot T ℕ). x.kind) (used_slot st k kind least)

      none : (model_slot grown k).guards ≡ 0
      none = ap (λ (x : ModelSlot T ℕ). x.guards) (used_slot st k kind least)

      for : Kind × ℕ → Option Lies
      for x = if is_free x.0 then None else Some (is_owned x.0, (x.1, (place_label n k 1, ((if not (x.1 == 0) then Some (k, n) else None), n.family))))

      go : (t : ℕ) (b : Bool) → (k == t) ≡ b → option_map what_lies_in (get_or back t None) ≡ lies_for n (model_slot grown t) t
      go t true e =
          subst (λ (i : ℕ). option_map what_lies_in (get_or back i None) ≡ lies_for n (model_slot grown i) i) (eq_true k t e)
          (ap (λ (l : List (Option (Place T))). option_map what_lies_in (get_or l k None)) put ∙ ap (λ (o : Option (Place T)). option_map what_lies_in o) (get_or-set_same room k (Some place) None there) ∙ ap (λ (l : Lies). Some l) is.0
          ∙ ap (λ (b : Bool). if b then None else Some (is_owned kind, (0, (place_label n k 1, (None, n.family))))) (sym used)
          ∙ ap (λ (x : Kind × ℕ). if is_free x.0 then None else Some (is_owned x.0, (x.1, (place_label n k 1, ((if not (x.1 == 0) then Some (k, n) else None), n.family))))) (λ j. (sym own j, sym none j)))
      go t false e =
          let other : ¬ (t ≡ k) = λ one. false≢true (sym e ∙ equal k t (sym one)) in
          ap (λ (l : List (Option (Place T))). option_map what_lies_in (get_or l t None)) put ∙ ap (λ (o : Option (Place T)). option_map what_lies_in o) (get_or-set_other room k t (Some place) None other ∙ same t) ∙ are.lie t
          ∙ ap (λ (x : ModelSlot T ℕ). lies_for n x t) (sym (other_slot t other))

-- where room was made, the same lies in the places
pub places_same : {T : Type 0} (n : Name) (st : ModelState T ℕ) (items room : List (Option (Place T))) → ((t : ℕ) → get_or room t None ≡ get_or items t None) → ArePlaces n st items → ArePlaces n st room
places_same n st items room same are = record {
  lie = λ t. ap (λ (o : Option (Place _)). option_map what_lies_in o) (same t) ∙ are.lie t;
  sound = λ t place is. are.sound t place (sym (same t) ∙ is);
}

-- What the model's call answered where it did so.

module _ {T Seen : Type 0} (puts : ℕ → T → List T) (weight : T → ℕ) (told : Seen → T → Seen) (st : ModelState T ℕ) (kind : Kind) (seen seen' : Seen) where
  abbrev Took : ℕ → ModelState T ℕ → Type 0
  Took n mid = (n ≡ least_unused st.slots) × ((n == all_numbers) ≡ false) × (mid ≡ (taking puts weight st n kind).0) × (seen' ≡ told_of told seen (taking puts weight st n kind).1)

  pub took : (n : ℕ) (mid : ModelState T ℕ) → Grew told (take_number puts weight st kind 0) (Ok n) st mid seen seen' → Took n mid
  took n mid (inl refused) = absurd (cc)
  took n mid (inr said) = took_if (least_unused st.slots == all_numbers) refl said
    where
      took_if : (b : Bool) → (least_unused st.slots == all_numbers) ≡ b
          → Answers {A = ℕ} {T = T} {R = ℕ} told (let n = least_unused st.slots in let o = taking puts weight st n kind in if b then (Err NoNumbers, (st, [])) else (Ok n, (set_guards o.0 n 0, o.1))) (Ok n) mid seen seen' → Took n mid
      took_if true few is = absurd (cc)
      took_if false few is =
          let least : n ≡ least_unused st.slots = cc in let settled = taken_as st (least_unused st.slots) kind refl puts weight in (
            least,
            ap (λ (l : ℕ). l == all_numbers) least ∙ few,
            is.0.1 ∙ ap (λ (o : StateAndGone T ℕ). o.0) settled ∙ ap (λ (l : ℕ). (taking puts weight st l kind).0) (sym least),
            is.1 ∙ ap (λ (l : ℕ). told_of told seen (taking puts weight st l kind).1) (sym least),
          )
