-- A collector comes from threads that shared it into one caller's hands: what these hold first, and what lies in the places.
--     AreUsed st places     each slot is used as what lies in its place says
--     StartsAt code pass places st names kinds     the hands hold this state first, as the pass has seen: its slots are used as what lies
--                             in these places says
use Rattle.std.proofs.Common.{Bool, false, not, ◌==◌, ◌≤◌, slice_set, ⊎_elim, ◌≡◌, ℕ, true, if◌then◌else◌, List, length, Option, None, Some, option_map, get_or, refl, sym, ap, subst, ◌∙◌, arith}
use base.Stored.{Gv}
use Rattle.seize_machine.specs.Machine.State as machine
use Rattle.seize_model.specs.declared.kind.Kind.{Kind}
use Rattle.seize_model.specs.Waiting.Calls.{is_free, is_owned}
use Rattle.seize_model.specs.Waiting.State.{ModelSlot, ModelState, has_guard, model_slot}
use Rattle.seize_book.specs.Saying.{AllSay}
use Rattle.seize_book.specs.Tokens.{Name}
use Rattle.seize_book.specs.declared.book.pass.Pass.{Pass}
use Rattle.seize_alone.specs.Begins.{Begun}
use Rattle.seize_alone.specs.Holding.{Holds}
use Rattle.seize_alone.proofs.Shown.{many_shown}
use Rattle.seize_parts.specs.Kinds.{kind_if_owned}
use Rattle.seize_parts.specs.Laws.{HaveContents}
use Rattle.seize_parts.specs.Placing.{ArePlaces, IsLeftAt, Lies, MayLay, lies_for, what_lies_in, lying_in, unit_in, use_in}
use Rattle.seize_parts.specs.Resting.{ComesToRest}
use Rattle.seize_parts.specs.declared.alone.place.Place.{Place}
use Rattle.seize_parts.specs.declared.numbers.resting.Found.{Found}
use Rattle.seize_parts.proofs.InUse.{set_or}
use Rattle.seize_parts.proofs.Resting.{rests_held}

abbrev pub AreUsed : {T : Type 0} → ModelState T ℕ → List (Option (Place T)) → Type 0
AreUsed st places = (s : ℕ) → ((model_slot st s).kind ≡ (use_in (get_or places s None)).0) × ((model_slot st s).guards ≡ (use_in (get_or places s None)).1)

abbrev pub StartsAt : {T : Type 0} → (T → Gv) → Pass → List (Option (Place T)) → ModelState T ℕ → List (ℕ × T) → List (ℕ × ℕ) → Type 0
StartsAt code pass places st names kinds =
    Holds code st names kinds pass.name pass.seen × (st.size ≡ pass.size) × (length st.links ≡ length pass.name.links) × AreUsed st places

module _ {T : Type 0} (code : T → Gv) (had pass : Pass) (found : Found T) (comes : ComesToRest had pass found) where
  -- there is such a state, where all was found
  pub starts : found.all ≡ true → HaveContents code pass → AllSay pass.seen → (st : ModelState T ℕ) × (names : List (ℕ × T)) × (kinds : List (ℕ × ℕ)) × StartsAt code pass found.places.items st names kinds
  starts all contents say =
      let b : Begun code pass.size pass.name pass.seen (λ s. use_in (get_or found.places.items s None)) = rests_held code had pass found pass.size all comes contents say in
      (b.state, b.names, b.kinds, (b.holds, b.sized, b.links, b.slots))

  -- so many slots are in it
  pub many_slots : (st : ModelState T ℕ) (names : List (ℕ × T)) (kinds : List (ℕ × ℕ)) → Holds code st names kinds pass.name pass.seen → found.made ≡ length st.slots
  many_slots st names kinds holds = comes.made ∙ many_shown holds

-- What lies in the places is what the state says.
module _ {T : Type 0} (n : Name) (now : machine.State) (s : ℕ) (slot : ModelSlot T ℕ) where
  abbrev its_unit : Option (ℕ × Name)
  its_unit = Some (s, n)

  turned : (b : Bool) → (if b then None else its_unit) ≡ (if not b then its_unit else None)
  turned true = refl
  turned false = refl

  owned_kind : (b : Bool) → b ≡ is_owned (kind_if_owned b)
  owned_kind true = refl
  owned_kind false = refl

  used_kind : (b : Bool) → is_free (kind_if_owned b) ≡ false
  used_kind true = refl
  used_kind false = refl

  pub placed_left : (o : Option (Place T)) → slot.kind ≡ (use_in o).0 → slot.guards ≡ (use_in o).1 → ((place : Place T) → o ≡ Some place → IsLeftAt n now s place) → option_map what_lies_in o ≡ lies_for n slot s
  placed_left None kind guards left = sym (ap (λ (k : Kind). if is_free k then None else Some (lying_in n slot s)) kind)
  placed_left (Some place) kind guards left =
      let is = left place refl in
      let unit : option_map unit_in place.unit ≡ (if has_guard slot then its_unit else None) = is.unit ∙ turned (place.guards == 0) ∙ ap (λ (k : ℕ). if not (k == 0) then its_unit else None) (sym guards) in
      let lies : what_lies_in place ≡ lying_in n slot s = (λ j. ((owned_kind place.owned ∙ ap is_owned (sym kind)) j, (sym guards j, (is.reservation j, (unit j, is.shelf j))))) in
      ap Option.Some lies ∙ sym (ap (λ (b : Bool). if b then None else Some (lying_in n slot s)) (ap is_free kind ∙ used_kind place.owned))

pub all_placed : {T : Type 0} (n : Name) (now : machine.State) (st : ModelState T ℕ) (places : List (Option (Place T))) → AreUsed st places → ((s : ℕ) (place : Place T) → get_or places s None ≡ Some place → IsLeftAt n now s place) → ArePlaces n st places
all_placed n now st places used left = record { lie = λ s. placed_left n now s (model_slot st s) (get_or places s None) (used s).0 (used s).1 (left s); sound = λ s place is. (left s place is).sound }

-- What was left may be laid on its shelf again.
pub left_may : {T : Type 0} (n : Name) (now : machine.State) (s : ℕ) (place : Place T) → IsLeftAt n now s place → MayLay n place
left_may n now s place is = record { slot = s; sound = is.sound; reservation = is.reservation; unit = is.unit; shelf = is.shelf; fits = λ owned. is.used.owned (ap (λ (b : Bool). is_owned (kind_if_owned b)) owned) }

-- What lies in a place may be laid on its shelf.
some_lies : {a b : Lies} → Some a ≡ Some b → a ≡ b
some_lies e = cc

pub may_lay : {T : Type 0} (n m : Name) (st : ModelState T ℕ) (places : List (Option (Place T))) → ArePlaces n st places → ((s : ℕ) → is_owned (model_slot st s).kind ≡ true → (model_slot st s).guards ≤ 1) → m ≡ n
    → (s : ℕ) (place : Place T) → get_or places s None ≡ Some place → MayLay m place
may_lay {T} n m st places are one same s place is =
    subst (λ (t : Name). MayLay t place) (sym same) (go (is_free (model_slot st s).kind) (sym (ap (λ (o : Option (Place T)). option_map what_lies_in o) is) ∙ are.lie s))
  where
    its_unit : Option (ℕ × Name)
    its_unit = Some (s, n)

    turned_back : (b : Bool) → (if not b then its_unit else None) ≡ (if b then None else its_unit)
    turned_back true = refl
    turned_back false = refl

    go : (b : Bool) → Some (what_lies_in place) ≡ (if b then None else Some (lying_in n (model_slot st s) s)) → MayLay n place
    go true e = absurd (cc)
    go false e =
        let lies : what_lies_in place ≡ lying_in n (model_slot st s) s = some_lies e in let guards : place.guards ≡ (model_slot st s).guards = ap (λ (t : Lies). t.1.0) lies in record {
          slot = s;
          sound = are.sound s place is;
          reservation = ap (λ (t : Lies). t.1.1.0) lies;
          unit = ap (λ (t : Lies). t.1.1.1.0) lies ∙ turned_back ((model_slot st s).guards == 0) ∙ ap (λ (k : ℕ). if k == 0 then None else its_unit) (sym guards);
          shelf = ap (λ (t : Lies). t.1.1.1.1) lies;
          fits = λ owned. let few = one s (sym (ap (λ (t : Lies). t.0) lies) ∙ owned) in omega (arith, few, guards);
        }

-- where one place was emptied, no other one is new
pub less_places : {T : Type 0} (n : Name) (items items' : List (Option (Place T))) (k : ℕ) (o : Option (Place T)) → o ≡ None → items' ≡ slice_set items k o → ((s : ℕ) (place : Place T) → get_or items s None ≡ Some place → MayLay n place)
    → (s : ℕ) (place : Place T) → get_or items' s None ≡ Some place → MayLay n place
less_places {T} n items items' k o none set may s place is =
    ⊎_elim (λ here. absurd (let e : None ≡ Some place = sym none ∙ here.1 in cc)) (λ other. may s place other.1) (set_or items k s o place (ap (λ (ps : List (Option (Place T))). get_or ps s None) (sym set) ∙ is))
