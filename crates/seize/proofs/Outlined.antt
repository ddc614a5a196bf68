-- A call that leaves kinds, guards and links as they were: what lies in the places, and the invariant.
use Rattle.std.proofs.Common.{◌≡◌, ℕ, ◌<◌, Bool, true, false, List, [], length, Option, Some, slice_set, refl, sym, ap, subst, ◌∙◌}
use base.Stored.{Gv}
use Rattle.seize_model.specs.Waiting.Calls.{is_free}
use Rattle.seize_model.specs.Waiting.State.{ModelState, set_slot, model_slot}
use Rattle.seize_book.specs.Passes.{IsSamePass}
use Rattle.seize_book.specs.Tokens.{Name}
use Rattle.seize_book.specs.declared.book.pass.Pass.{Pass}
use Rattle.seize_words.specs.Joined.{words_book}
use Rattle.seize_words.specs.declared.words.Words.{Words}
use Rattle.seize_alone.proofs.Outlines.{guards_in, kind_in, outline, set_frame, slots_in}
use Rattle.seize_alone.specs.Holding.{Holds}
use Rattle.seize.specs.Alones.{IsAlone}
use Rattle.seize_parts.specs.Kinds.{kind_if_owned}
use Rattle.seize_parts.specs.Places.{LiesThen}
use Rattle.seize_parts.specs.Placing.{ArePlaces, lies_for, lying_in}
use Rattle.seize.specs.declared.alone.hands.Hands.{Hands}
use Rattle.seize_parts.specs.declared.alone.place.Place.{Place}
use Rattle.seize_parts.specs.declared.ender.Ender.{Ender}
use Rattle.seize_parts.specs.declared.numbers.Numbers.{Numbers}
use Rattle.seize_parts.proofs.Lying.{laid, slot_there}
use Rattle.seize.proofs.Lone.{alone_again}

pub kind_used : (owned : Bool) → is_free (kind_if_owned owned) ≡ false
kind_used true = refl
kind_used false = refl

-- The places.

pub places_still : {U : Type 0} (n : Name) (st now : ModelState U ℕ) (places : List (Option (Place U))) → outline now ≡ outline st → ArePlaces n st places → ArePlaces n now places
places_still {U} n st now places same are = record {
  lie = λ t. are.lie t ∙ (λ j. lies_for {T = U} n (record { kind = kind_in st now (sym same) t j; guards = guards_in st now (sym same) t j; batch = []; order = [] }) t);
  sound = are.sound;
}

-- so where a place was changed
pub laid_again : {U : Type 0} (n : Name) (st now : ModelState U ℕ) (s : ℕ) (items : List (Option (Place U))) (place : Place U) → outline now ≡ outline st → ArePlaces n st items → is_free (model_slot st s).kind ≡ false → s < length items
    → LiesThen place (lying_in n (model_slot st s) s) → ArePlaces n now (slice_set items s (Some place))
laid_again {U} n st now s items place same are used lies is =
    let there : ModelState U ℕ = set_slot st s (model_slot st s) in
    places_still n there now (slice_set items s (Some place)) (same ∙ sym (ap (λ f. f.0) (set_frame st s (model_slot st s) refl)))
    (laid n st s (model_slot st s) items place are (slot_there st s used) lies used is)

-- The invariant, after such a call.
pub outlined_again : {T R : Type 0} {code : T → Gv} {words : Words T} {pass pass' : Pass} {numbers : Numbers T} {places : List (Option (Place T))} {made : ℕ} {ender : Ender T R} {hands : Hands T} → IsAlone code words pass numbers places made ender hands
    → IsSamePass pass pass' → (now : ModelState T ℕ) (hands' : Hands T) (places' : List (Option (Place T))) → hands'.state ≡ now → outline now ≡ outline hands.state → now.links ≡ hands.state.links → now.size ≡ hands.state.size
    → ArePlaces (words_book words) now places' → Holds code hands'.state hands'.names hands'.kinds pass'.name pass'.seen → hands'.held ≡ hands.held → IsAlone code words pass' numbers places' made ender hands'
outlined_again {T} {words = words} {made = made} {hands = hands} a still now hands' places' is same links size placed holds held =
    alone_again a still a.numbered hands' places' made (a.counted ∙ sym (slots_in now hands.state same) ∙ ap (λ (x : ModelState T ℕ). length x.slots) (sym is))
    (ap (λ (x : ModelState T ℕ). x.size) is ∙ size) (ap (λ (x : ModelState T ℕ). x.links) is ∙ links)
    (subst (λ (x : ModelState T ℕ). ArePlaces (words_book words) x places') (sym is) placed) holds held
