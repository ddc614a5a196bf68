-- The rest, after an event of which the key of the numbers knows.
use Rattle.std.proofs.Common.{◌≡◌, ℕ, max, nat_le, Bool, true, false, if◌then◌else◌, List, [], ◌∷◌, length, Some, None, sym, subst, refl, ap, ◌∙◌}
use mathlib.Core.List.{IsPrefix}
use Rattle.seize_machine.specs.Machine.Next.{gathered_slot, taken_slot}
use Rattle.seize_machine.specs.Machine.State.{Mark, is_idle}
use Rattle.seize_machine.specs.Machine.State.{Slot as Record}
use Rattle.seize_book.specs.Entry.{Entry}
use Rattle.seize_book.specs.Kept.{AreTold, AreToldIn}
use Rattle.seize_book.specs.Ledger.{HeldKey, with_list}
use Rattle.seize_book.specs.Others.{FollowsNumbers, numbers_saw, rest_of}
use Rattle.seize_book.specs.Private.{is_one, labels_of, own_of}
use Rattle.seize_book.specs.Slots.{slot_of}
use Rattle.seize_book.specs.Tokens.{Name}
use Rattle.seize_book.specs.Values.{IsEmptyIn, book_in, values_of}
use Rattle.seize_book.specs.declared.book.numbers_key.NumbersKey.{NumbersKey}
use Rattle.seize_book.specs.declared.book.pass.Pass.{Pass}
use Rattle.seize_book.specs.declared.book.slot_key.SlotKey.{SlotKey}
use Rattle.seize_book.specs.declared.book.value_keys.ValueKeys.{ValueKeys}
use Rattle.seize_words.specs.declared.words.Words.{Words}
use Rattle.seize_book.proofs.Facts.{all_told_later, joined_told}
use Rattle.seize_calls.specs.Batches.{keys_in}
use Rattle.seize_calls.specs.Furthers.{JoinsValues}
use Rattle.seize_calls.specs.Calls.{BeginsToAttempt}
use Rattle.seize_calls.specs.Slots.{IsOfWords, IsRestIn, IsTakenAs}
use Rattle.seize_calls.specs.declared.batch.Batch.{Batch}
use Rattle.seize_calls.specs.declared.slot.Slot.{Slot}

listed : (r : ℕ) (held : List (HeldKey Entry)) (log : List Entry) → is_one r held ≡ true → own_of (with_list held log) ≡ log
listed r [] log one = absurd (cc)
listed r (h ∷ []) log one = refl
listed r (h ∷ k ∷ held) log one = absurd (cc)

-- the key has seen what the pass has
pub saw_all : (numbers numbers' : NumbersKey) (pass' : Pass) → FollowsNumbers numbers pass' numbers' → numbers_saw numbers' ≡ pass'.seen
saw_all numbers numbers' pass' follows = ap own_of follows.1 ∙ listed _ numbers.keys.held pass'.seen numbers.one

-- of values put together it is told what is kept of each
pub joins_told : (pass : Pass) (a b c : ValueKeys) → JoinsValues a b c → AreTold a pass → AreTold b pass → AreTold c pass
joins_told pass a b c joins one two = joined_told pass.seen a.keys.held b.keys.held c.keys.held joins.all joins.kept one two

pub none_told : (pass : Pass) (keys : ValueKeys) → keys.keys.held ≡ [] → AreTold keys pass
none_told pass keys none = subst (λ (held : List (HeldKey Entry)). AreToldIn pass.seen held) (sym none) tt

module _ (n : Name) (numbers numbers' : NumbersKey) (pass' : Pass) (follows : FollowsNumbers numbers pass' numbers') where
  -- what was told before is told still
  pub rest_told : IsPrefix (numbers_saw numbers) pass'.seen → (rest : Batch) → IsRestIn n numbers rest → AreTold (keys_in rest) pass'
  rest_told knew rest is = all_told_later (numbers_saw numbers) pass'.seen (keys_in rest).keys.held knew is.told

  -- such values are the rest
  pub rest_is : (rest' : Batch) → book_in (keys_in rest') ≡ n → values_of (keys_in rest') ≡ rest_of numbers' → AreTold (keys_in rest') pass' → IsRestIn n numbers' rest'
  rest_is rest' book values told = record {
    book = book;
    values = values;
    told = subst (λ (log : List Entry). AreToldIn log (keys_in rest').keys.held) (sym (saw_all numbers numbers' pass' follows)) told;
  }

  -- and so is nothing, where nothing is left
  pub rest_none : (rest' : Batch) → IsEmptyIn n (keys_in rest') → rest_of numbers' ≡ [] → IsRestIn n numbers' rest'
  rest_none rest' empty none = rest_is rest' empty.0 (ap labels_of empty.1 ∙ sym none) (none_told pass' (keys_in rest') empty.1)

-- How a slot stands that a take or a gathering left.

to_attempt : (key : SlotKey) (n : ℕ) (batch : List ℕ) → slot_of key ≡ gathered_slot n batch → ((slot_of key).used ≡ true) × BeginsToAttempt key
to_attempt key n batch is = (ap (λ (z : Record). z.used) is, (record { note = n; queue = []; marking = ap (λ (z : Record). z.call) is }, refl))

pub gathered_as : {T : Type 0} (words : Words T) (slot : Slot T) (n : ℕ) (batch : List ℕ) → IsOfWords words slot → slot_of slot.holder.key ≡ gathered_slot n batch → IsTakenAs true words slot
gathered_as words slot n batch of is = (of, to_attempt slot.holder.key n batch is)

pub taken_as : {T : Type 0} (words : Words T) (slot : Slot T) (full : Bool) (size n : ℕ) (rest : List ℕ) → IsOfWords words slot → slot_of slot.holder.key ≡ taken_slot size n rest → full ≡ nat_le (max 1 size) (length rest)
    → IsTakenAs full words slot
taken_as words slot true size n rest of is full =
    gathered_as words slot n rest of (is ∙ ap (λ (b : Bool). record { used = true; batch = rest; call = if b then Some (record { place = Mark 0 n []; queue = [] }) else None }) (sym full))
taken_as words slot false size n rest of is full =
    (of, ap is_idle (is ∙ ap (λ (b : Bool). record { used = true; batch = rest; call = if b then Some (record { place = Mark 0 n []; queue = [] }) else None }) (sym full)))
