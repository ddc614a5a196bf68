-- The slot of a holder that was forgotten is found, and kept: its key and that of the numbers know the same list then.
--     found_below                there is a place with its number
--     found_on                   what stays of other slots, and of this one
--     found_numbers              it is kept, and the numbers stay as they are to be
use Rattle.std.proofs.Common.{◌≡◌, ◌<◌, ℕ, Some, length, slice_set, refl, sym, ap, subst, ◌∙◌, arith}
use Rattle.std.proofs.lemmas.List.{length-set}
use Rattle.seize_machine.specs.Machine.State.{Slot as Record, head_at, is_active, slot_at}
use Rattle.seize_book.specs.Homesteads.{state_seen}
use Rattle.seize_book.specs.Others.{FollowsNumbers, numbers_saw, rest_of, use_flags}
use Rattle.seize_book.specs.Passes.{LooksOn}
use Rattle.seize_book.specs.Slots.{active_of, slot_of}
use Rattle.seize_book.specs.Tokens.{IsSole}
use Rattle.seize_book.specs.declared.book.numbers_key.NumbersKey.{NumbersKey}
use Rattle.seize_book.specs.declared.book.pass.Pass.{Pass}
use mathlib.Core.List.{IsPrefix}
use Rattle.seize_words.specs.Joined.{words_book}
use Rattle.seize_words.specs.declared.words.Words.{Words}
use Rattle.seize_calls.proofs.Current.{looked_active, shown}
use Rattle.seize_calls.specs.Slots.{IsInactive, IsPassOf, IsRestIn, IsSlotOf, SlotLooks, its_number}
use Rattle.seize_calls.specs.declared.batch.Batch.{Batch}
use Rattle.seize_calls.specs.declared.slot.Slot.{Slot}
use Rattle.seize_parts.specs.Numbers.{AreEachAt, AreSlots, IsKeptAt}
use Rattle.seize_parts.specs.Sweeps.{IsLedBy, KeepsIdle, KeepsOff, KeepsOn}
use Rattle.seize_parts.specs.declared.numbers.Numbers.{Numbers}
use Rattle.seize_parts.proofs.InUse.{kept_at, kept_set, slots_as, slots_looked}
use Rattle.seize_parts.proofs.Numbered.{flags_length, own_followed, some_same, there_known}
use Rattle.seize_parts.proofs.Placed.{still_for}
use Rattle.seize_parts.proofs.Swept.{idle_call, idle_led, kept_off, keeps_on, led_none, led_then, looks, still_sole}

module _ {T : Type 0} (words : Words T) (numbers : Numbers T) (are : AreSlots numbers) (of : numbers.book.name ≡ words_book words) (slot slot' : Slot T) (p0 p1 p2 p3 : Pass) (for : IsPassOf words p0) (sole : IsSole p0.id)
    (s : ℕ) (led : IsLedBy s p0 p1) (found : IsSlotOf words slot × IsInactive slot × (its_number slot ≡ s)) (key' : NumbersKey) (known : LooksOn p1 p2 × FollowsNumbers numbers.key p2 key' × IsPrefix (numbers_saw numbers.key) p2.seen)
    (used : use_flags key' ≡ use_flags numbers.key) (its : IsSlotOf words slot') (looked : SlotLooks slot p2 slot' p3) where
  sole1 : IsSole p1.id
  sole1 = still_sole p0 p1 led.same sole

  sole2 : IsSole p2.id
  sole2 = still_sole p1 p2 known.0.same sole1

  number : its_number slot' ≡ s
  number = looked.0.same.0 ∙ found.2

  pub found_below : its_number slot' < length numbers.kept.items
  found_below =
      let look = looked.0 in let same3 = look.does.on.alone (still_sole p2 look.ready look.prepares.same sole2) ∙ look.prepares.alone sole2 in
      let there = there_known slot' key' (its.0.book ∙ sym (known.1.0 ∙ are.book ∙ of)) (look.seen ∙ same3 ∙ sym (own_followed numbers.key p2 key' known.1)) in
      let same : length (use_flags key') ≡ length (use_flags numbers.key) = ap (λ us. length us) used in let long = flags_length numbers are in let many = are.many in omega (arith, there, same, long, many)

  found_led : IsLedBy s p0 p3
  found_led = led_then s p0 p1 p3 led (led_then s p1 p2 p3 (led_none s p1 p2 known.0.same (known.0.alone sole1)) (looks slot p2 slot' p3 sole2 s looked))

  seen : (slot_at (state_seen p3) s ≡ slot_of slot'.holder.key) × (is_active (head_at (state_seen p3) s) ≡ active_of slot'.holder.key)
  seen =
      let for2 = still_for words p1 p2 (still_for words p0 p1 for led.same) known.0.same in
      subst (λ (k : ℕ). (slot_at (state_seen p3) k ≡ slot_of slot'.holder.key) × (is_active (head_at (state_seen p3) k) ≡ active_of slot'.holder.key)) found.2 (shown slot slot' p2 p3 looked (found.0.0.book ∙ for2.0))

  inactive : IsInactive slot'
  inactive = looked_active _ _ _ _ looked.0.does ∙ found.1

  pub found_on : KeepsOn p0 p3 × KeepsOff p0 p3 × KeepsIdle p0 p3
  found_on = (
    keeps_on s p0 p3 found_led,
    λ t. kept_off s t p0 p3 found_led (seen.1 ∙ inactive),
    idle_led s p0 p3 found_led (ap (λ (x : Record). x.call) seen.0 ∙ idle_call (slot_of slot'.holder.key) its.1),
  )

  -- and when it is kept there
  module _ (n : ℕ) (at : n ≡ its_number slot') (rest : rest_of key' ≡ rest_of numbers.key) (numbers' : Numbers T) (key : numbers'.key ≡ key') (kept : numbers'.kept.items ≡ slice_set numbers.kept.items n (Some slot')) (same_rest : numbers'.rest ≡ numbers.rest)
      (slots : numbers'.slots ≡ numbers.slots) (free : numbers'.free ≡ numbers.free) (next : numbers'.next ≡ numbers.next) (book : numbers'.book ≡ numbers.book) where
    pub found_numbers : AreSlots numbers'
    found_numbers =
        let looked_numbers = record numbers { key = key' } in let are_looked = slots_looked numbers are looked_numbers p2 known.1 known.2 used rest refl refl refl refl refl refl in
        slots_as looked_numbers are_looked numbers' (ap (λ (k : NumbersKey). k.keys.name) key) (ap use_flags key) (subst (λ (t : NumbersKey × Batch). IsRestIn numbers.book.name t.0 t.1) (λ j. (sym key j, sym same_rest j)) are_looked.rest) slots free
        (subst (λ l. AreEachAt (IsKeptAt numbers.book.name) l) (sym kept) (kept_set numbers are n (Some slot') (λ one same. subst (IsKeptAt numbers.book.name n) (some_same slot' one same) (kept_at words numbers.book.name n slot' of its inactive (sym at)))))
        (ap (λ l. length l) kept ∙ length-set numbers.kept.items n (Some slot')) next book
