-- What a pass that is alone knows of the slots that nobody has, when their numbers went back, and the state that one caller then has.
use Rattle.std.proofs.Common.{◌≡◌, ◌⊎◌, ◌<◌, ◌≤◌, ℕ, zero, suc, Bool, true, false, List, [], ◌∷◌, length, get_or, slice_set, Option, None, Some, is_some, inl, inr, ⊎_elim, refl, sym, ap, subst, ◌∙◌, arith}
use Rattle.std.specs.List.{list_all}
use Rattle.std.specs.Option.{is_none}
use Rattle.std.proofs.lemmas.List.{length-map}
use base.Stored.{Gv}
use Rattle.seize_machine.specs.Machine.Frames.{used}
use Rattle.seize_machine.specs.Machine.State.{Slot as Record, State, no_slot, slot_at}
use Rattle.seize_model.specs.declared.kind.Kind.TheVariants.{Free}
use Rattle.seize_book.specs.Book.{after}
use Rattle.seize_book.specs.Entry.{Entry}
use Rattle.seize_book.specs.Homesteads.{state_seen}
use Rattle.seize_book.specs.Passes.{LooksOn}
use Rattle.seize_book.specs.Porters.{GoesOnTo}
use Rattle.seize_book.specs.Saying.{AllSay}
use Rattle.seize_book.specs.Tokens.{IsSole, Name, start}
use Rattle.seize_book.specs.declared.book.pass.Pass.{Pass}
use Rattle.seize_book.proofs.Facts.{reached_after, same_twice}
use Rattle.seize_machine.proofs.Facts.{free_empty}
use Rattle.seize_machine.specs.Machine.History.{IsReached}
use Rattle.seize_alone.specs.Begins.{Begun, IsUsedAs}
use Rattle.seize_alone.proofs.Begins.{begins_held}
use Rattle.seize_parts.specs.Laws.{HaveContents}
use Rattle.seize_parts.specs.Numbers.{flags_of}
use Rattle.seize_parts.specs.Placing.{IsLeftAt, use_in}
use Rattle.seize_parts.specs.Resting.{AreLeft, ComesToRest, LiesSomewhere}
use Rattle.seize_parts.specs.declared.alone.place.Place.{Place}
use Rattle.seize_parts.specs.declared.numbers.resting.Found.{Found}
use Rattle.seize_parts.proofs.Cleared.{below_or, past_end}
use Rattle.seize_parts.proofs.InUse.{set_or, used_place}
use Rattle.seize_parts.proofs.Swept.{looked_pass}

pub all_lie : {X Y : Type 0} (items : List (Option X)) (places : List (Option Y)) → list_all is_some items ≡ true → (s : ℕ) → s < length items → LiesSomewhere items places s
all_lie items places all s less = inl (go items all s less)
  where
    go : {Z : Type 0} (os : List (Option Z)) → list_all is_some os ≡ true → (s : ℕ) → s < length os → is_some (get_or os s None) ≡ true
    go [] all s less = absurd (omega (arith, less))
    go (None ∷ os) all s less = absurd (cc)
    go (Some x ∷ os) all zero less = refl
    go (Some x ∷ os) all (suc s) less = go os all s (omega (arith, less))

-- After a look.
module _ (p r : Pass) (looks : LooksOn p r) where
  pub rested_on : GoesOnTo p.name p.seen r.seen
  rested_on = record { grows = looks.grows; legal = looks.legal; sound = looks.sound; lent = looks.lent; distinct = looks.distinct }

  module _ {X : Type 0} (items : List (Option X)) (flags : used (state_seen r) ≡ flags_of items) where
    pub rested_many : length items ≡ length (state_seen r).slots
    rested_many = sym (length-map items is_none) ∙ sym (ap (λ (us : List Bool). length us) flags) ∙ length-map (state_seen r).slots (λ slot. slot.used)

    reached : IsReached (state_seen r)
    reached = subst (λ (n : Name). IsReached (after (start n) r.seen)) (sym looks.same.0) (reached_after p.name r.seen looks.distinct looks.legal)

    -- a slot whose number is not in use is free, also one that was never made
    free_as : (s : ℕ) → (slot_at (state_seen r) s).used ≡ false → IsUsedAs (state_seen r) s (Free, 0)
    free_as s unused = let empty = free_empty (state_seen r) reached s unused in record { used = unused; idle = ap (λ (x : Record). x.call) empty.0; active = empty.1; free = λ _. refl; owned = λ _. omega arith }

    free_here : (s : ℕ) → s < length items → is_some (get_or items s None) ≡ true → IsUsedAs (state_seen r) s (Free, 0)
    free_here s below here = free_as s (used_place (state_seen r).slots items s flags below ∙ lies (get_or items s None) here)
      where
        lies : (o : Option X) → is_some o ≡ true → is_none o ≡ false
        lies None is = absurd (cc)
        lies (Some x) is = refl

    free_past : (s : ℕ) → length items ≤ s → IsUsedAs (state_seen r) s (Free, 0)
    free_past s past = free_as s (let same = rested_many in ap (λ (slot : Record). slot.used) (past_end (state_seen r).slots s no_slot (omega (arith, past, same))))

    -- so each slot is used as what lies in its place says, where each lies here or there
    module _ {T : Type 0} (places : List (Option (Place T))) (left : AreLeft r places) (all : (s : ℕ) → s < length items → LiesSomewhere items places s) where
      used_by : (s : ℕ) (o : Option (Place T)) → get_or places s None ≡ o → (s < length items) ⊎ (length items ≤ s) → IsUsedAs (state_seen r) s (use_in o)
      used_by s (Some place) is which = (left s place is).used
      used_by s None is (inl below) = ⊎_elim (λ here. free_here s below here) (λ there. absurd (none_some s is there)) (all s below)
        where
          none_some : (s : ℕ) → get_or places s None ≡ None → is_some (get_or places s None) ≡ true → ⊥
          none_some s is there = let e : false ≡ true = sym (ap is_some is) ∙ there in cc
      used_by s None is (inr past) = free_past s past

      pub rested_used : (s : ℕ) → IsUsedAs (state_seen r) s (use_in (get_or places s None))
      rested_used s = used_by s (get_or places s None) refl (below_or s (length items))

-- One more place, where what lies was left there.
pub left_more : {T : Type 0} (pass : Pass) (items : List (Option (Place T))) (n : ℕ) (place : Place T) → AreLeft pass items → IsLeftAt pass.name (state_seen pass) n place → AreLeft pass (slice_set items n (Some place))
left_more {T} pass items n place left new s other is = ⊎_elim (λ here. go here.0 (same_place here.1)) (λ old. left s other old.1) (set_or items n s (Some place) other is)
  where
    same_place : Some place ≡ Some other → place ≡ other
    same_place e = cc

    go : s ≡ n → place ≡ other → IsLeftAt pass.name (state_seen pass) s other
    go at same = subst (λ (t : ℕ × Place T). IsLeftAt pass.name (state_seen pass) t.0 t.1) (λ j. (sym at j, same j)) new

-- Where nothing lies nothing was left.
pub left_none : {T : Type 0} (pass : Pass) (items : List (Option (Place T))) → ((s : ℕ) → get_or items s None ≡ None) → AreLeft pass items
left_none {T} pass items none s place is = absurd (nothing (sym (none s) ∙ is))
  where
    nothing : None ≡ Some place → ⊥
    nothing e = cc

-- Another look changes nothing of that.
pub come_on : {T : Type 0} (p q r : Pass) (found : Found T) → ComesToRest p q found → LooksOn q r → IsSole q.id → ComesToRest p r found
come_on p q r found comes looks sole =
    let same : state_seen r ≡ state_seen q = ap state_seen (looked_pass q r looks sole) in record {
      same = same_twice p q r comes.same looks.same;
      goes_on = subst (λ (log : List Entry). GoesOnTo p.name p.seen log) (sym (looks.alone sole)) comes.goes_on;
      made = comes.made ∙ ap (λ (st : State). length st.slots) (sym same);
      left = λ s place is. subst (λ (t : Name × State). IsLeftAt t.0 t.1 s place) (λ j. (sym looks.same.0 j, sym same j)) (comes.left s place is);
      still = looks.alone sole ∙ comes.still;
      used = λ all s. subst (λ (st : State). IsUsedAs st s (use_in (get_or found.places.items s None))) (sym same) (comes.used all s);
      kept = λ none unused. comes.kept none (subst (λ (st : State). (s : ℕ) → (slot_at st s).used ≡ false) same unused);
    }

-- The state that one caller has then.
pub rests_held : {T : Type 0} (code : T → Gv) (p pass : Pass) (found : Found T) (size : ℕ) → found.all ≡ true → ComesToRest p pass found → HaveContents code pass → AllSay pass.seen
    → Begun code size pass.name pass.seen (λ s. use_in (get_or found.places.items s None))
rests_held code p pass found size all comes contents say =
    let goes : GoesOnTo pass.name p.seen pass.seen = subst (λ (n : Name). GoesOnTo n p.seen pass.seen) (sym comes.same.0) comes.goes_on in
    begins_held code pass.name pass.seen size (λ s. use_in (get_or found.places.items s None)) goes.legal goes.distinct say goes.sound.few (comes.used all) contents
