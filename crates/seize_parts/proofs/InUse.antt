-- Which numbers are in use, by the slots that lie here; and that the numbers behind the lock stay as they are to be, whatever is kept.
--     set_or, set_twice, here_below, places_set, some_set     lists of places
--     all_here, here_all, unused_all, all_unused     where each slot lies here no number is in use, and the other way round
--     kept_at, kept_set            a slot that is kept
--     slots_as, slots_kept, slots_looked     the numbers stay, where the key knows the same;  where other slots are kept;  after a look
--     kept_same                    so they do, where one slot is kept in the place of another, and the places stay
use Rattle.std.proofs.Common.{◌≡◌, ℕ, zero, suc, ◌<◌, ◌⊎◌, inl, inr, ⊎_elim, Bool, true, false, List, [], ◌∷◌, length, map, Option, Some, None, is_some, get_or, slice_set, refl, sym, ap, subst, ◌∙◌, arith}
use Rattle.std.specs.List.{count_by, list_all}
use Rattle.std.specs.Option.{is_none}
use Rattle.std.specs.Prelude.{slice_index_or}
use Rattle.std.proofs.Math.ListN.{get_or-map}
use Rattle.std.proofs.lemmas.List.{length-map, length-set}
use mathlib.Core.List.{IsPrefix}
use Rattle.seize_machine.specs.Machine.State.{Slot as Record, no_slot}
use Rattle.seize_book.specs.Entry.{Entry}
use Rattle.seize_book.specs.Others.{FollowsNumbers, numbers_saw, rest_of, use_flags}
use Rattle.seize_book.specs.Tokens.{Name}
use Rattle.seize_book.specs.declared.book.numbers_key.NumbersKey.{NumbersKey}
use Rattle.seize_book.specs.declared.book.pass.Pass.{Pass}
use Rattle.seize_book.proofs.Kept.{all_told_later}
use Rattle.seize_words.specs.Joined.{words_book}
use Rattle.seize_words.specs.Named.{numbers_book}
use Rattle.seize_words.specs.Totals.{made_of}
use Rattle.seize_words.specs.declared.words.Words.{Words}
use Rattle.seize_calls.specs.Batches.{keys_in}
use Rattle.seize_calls.specs.Slots.{IsInactive, IsOfList, IsRestIn, IsSlotOf, its_number}
use Rattle.seize_calls.specs.declared.batch.Batch.{Batch}
use Rattle.seize_calls.specs.declared.slot.Slot.{Slot}
use Rattle.seize_parts.specs.Numbers.{AreEachAt, AreSlots, IsFreeAt, IsKeptAt, NoneBelow, flags_of}
use Rattle.seize_parts.specs.Sweeps.{KeepsHere, KeepsPlaces}
use Rattle.seize_parts.specs.declared.numbers.Numbers.{Numbers}
use Rattle.seize_parts.proofs.Numbered.{made_flags, own_followed}

-- none of these is in use
abbrev pub AreAllHere : List Bool → Type 0
AreAllHere [] = Unit {0}
AreAllHere (flag ∷ flags) = (flag ≡ false) × AreAllHere flags

-- Lists of places.
module _ {X : Type 0} where
  -- what lies in which place is as it was
  pub places_set : (slots : List (Option X)) (n : ℕ) (o : Option X) → is_none o ≡ is_none (get_or slots n None) → n < length slots → flags_of (slice_set slots n o) ≡ flags_of slots
  places_set [] n o same below = refl
  places_set (x ∷ slots) zero o same below = ap (λ (b : Bool). b ∷ flags_of slots) same
  places_set (x ∷ slots) (suc n) o same below = ap (λ (flags : List Bool). is_none x ∷ flags) (places_set slots n o same (omega (arith, below)))

  -- what lies in a place when one was set
  pub set_or : (slots : List (Option X)) (n i : ℕ) (o : Option X) (x : X) → get_or (slice_set slots n o) i None ≡ Some x → ((i ≡ n) × (o ≡ Some x)) ⊎ (¬ (i ≡ n) × (get_or slots i None ≡ Some x))
  set_or [] n zero o x is = absurd (cc)
  set_or [] n (suc i) o x is = absurd (cc)
  set_or (y ∷ slots) zero zero o x is = inl (refl, is)
  set_or (y ∷ slots) zero (suc i) o x is = inr ((λ e. absurd (omega (arith, e))), is)
  set_or (y ∷ slots) (suc n) zero o x is = inr ((λ e. absurd (omega (arith, e))), is)
  set_or (y ∷ slots) (suc n) (suc i) o x is =
      ⊎_elim (λ here. inl (ap suc here.0, here.1)) (λ other. inr ((λ e. other.0 (omega (arith, e))), other.1)) (set_or slots n i o x is)

  -- where one was laid, those that lie there lie there still
  pub some_set : (slots : List (Option X)) (n i : ℕ) (o : Option X) → is_some o ≡ true → is_some (get_or slots i None) ≡ true → is_some (get_or (slice_set slots n o) i None) ≡ true
  some_set [] n i o some is = is
  some_set (y ∷ slots) zero zero o some is = some
  some_set (y ∷ slots) zero (suc i) o some is = is
  some_set (y ∷ slots) (suc n) zero o some is = is
  some_set (y ∷ slots) (suc n) (suc i) o some is = some_set slots n i o some is

  -- where none lay, none lies still
  pub none_again : (slots : List (Option X)) (n : ℕ) (o : Option X) → o ≡ None → get_or slots n None ≡ None → slice_set slots n o ≡ slots
  none_again [] n o none is = refl
  none_again (x ∷ slots) zero o none is = ap (λ (y : Option X). y ∷ slots) (none ∙ sym is)
  none_again (x ∷ slots) (suc n) o none is = ap (λ (ys : List (Option X)). x ∷ ys) (none_again slots n o none is)

  pub here_below : (slots : List (Option X)) (i : ℕ) (x : X) → get_or slots i None ≡ Some x → i < length slots
  here_below [] zero x is = absurd (cc)
  here_below [] (suc i) x is = absurd (cc)
  here_below (o ∷ slots) zero x is = omega arith
  here_below (o ∷ slots) (suc i) x is = let less = here_below slots i x is in omega (arith, less)

  pub all_here : (slots : List (Option X)) → list_all is_some slots ≡ true → AreAllHere (flags_of slots)
  all_here [] all = tt
  all_here (None ∷ slots) all = absurd (cc)
  all_here (Some x ∷ slots) all = (refl, all_here slots all)

  pub here_all : (slots : List (Option X)) → AreAllHere (flags_of slots) → list_all is_some slots ≡ true
  here_all [] all = refl
  here_all (None ∷ slots) all = absurd (let e : true ≡ false = all.0 in cc)
  here_all (Some x ∷ slots) all = here_all slots all.1

-- as the records say it
pub unused_all : (slots : List Record) → AreAllHere (map (λ slot. slot.used) slots) → (s : ℕ) → (slice_index_or slots s no_slot).used ≡ false
unused_all [] all s = refl
unused_all (x ∷ slots) all zero = all.0
unused_all (x ∷ slots) all (suc s) = unused_all slots all.1 s

pub all_unused : (slots : List Record) → ((s : ℕ) → (slice_index_or slots s no_slot).used ≡ false) → AreAllHere (map (λ slot. slot.used) slots)
all_unused [] unused = tt
all_unused (x ∷ slots) unused = (unused 0, all_unused slots (λ s. unused (suc s)))

pub used_at : (slots : List Record) (t : ℕ) → t < length slots → (slice_index_or slots t no_slot).used ≡ get_or (map (λ slot. slot.used) slots) t true
used_at [] t below = absurd (omega (arith, below))
used_at (x ∷ slots) zero below = refl
used_at (x ∷ slots) (suc t) below = used_at slots t (omega (arith, below))

-- and by what lies in its place
pub used_place : {X : Type 0} (records : List Record) (slots : List (Option X)) (t : ℕ) → map (λ slot. slot.used) records ≡ flags_of slots → t < length slots → (slice_index_or records t no_slot).used ≡ is_none (get_or slots t None)
used_place records slots t flags below =
    let long = sym (length-map records (λ slot. slot.used)) ∙ ap (λ (us : List Bool). length us) flags ∙ length-map slots is_none in
    used_at records t (omega (arith, below, long)) ∙ ap (λ (us : List Bool). get_or us t true) flags ∙ get_or-map is_none slots t None

pub set_twice : {X : Type 0} (xs : List X) (n : ℕ) (a b : X) → slice_set (slice_set xs n a) n b ≡ slice_set xs n b
set_twice [] n a b = refl
set_twice (x ∷ xs) zero a b = refl
set_twice (x ∷ xs) (suc n) a b = ap (λ ys. x ∷ ys) (set_twice xs n a b)

pub flags_long : {X : Type 0} (slots slots' : List (Option X)) → flags_of slots' ≡ flags_of slots → length slots' ≡ length slots
flags_long slots slots' same = sym (length-map slots' is_none) ∙ ap (λ (us : List Bool). length us) same ∙ length-map slots is_none

-- what lies in a place, by its flag
pub flag_same : {X : Type 0} (slots slots' : List (Option X)) (n : ℕ) → flags_of slots' ≡ flags_of slots → is_none (get_or slots' n None) ≡ is_none (get_or slots n None)
flag_same slots slots' n same = sym (get_or-map is_none slots' n None) ∙ ap (λ (us : List Bool). get_or us n true) same ∙ get_or-map is_none slots n None

pub places_then : {T : Type 0} (a b c : Numbers T) → KeepsPlaces a b → KeepsPlaces b c → KeepsPlaces a c
places_then a b c one two = (two.0 ∙ one.0, two.1 ∙ one.1, two.2 ∙ one.2, two.3 ∙ one.3)

pub none_below_same : {X : Type 0} (slots slots' : List (Option X)) (n : ℕ) → flags_of slots' ≡ flags_of slots → NoneBelow n slots → NoneBelow n slots'
none_below_same {X} slots slots' n same none i less = go (get_or slots' i None) (get_or slots i None) (flag_same slots slots' i same) (none i less)
  where
    go : (a b : Option X) → is_none a ≡ is_none b → is_some b ≡ false → is_some a ≡ false
    go None b same none = refl
    go (Some x) None same none = absurd (cc)
    go (Some x) (Some y) same none = absurd (cc)

-- where they lie in the same places, they lie there still
pub places_here : {T : Type 0} (numbers numbers' : Numbers T) → KeepsPlaces numbers numbers' → KeepsHere numbers numbers'
places_here {T} numbers numbers' keeps = (
  keeps.0,
  flags_long numbers.slots.items numbers'.slots.items keeps.1,
  λ i. ⊎_elim (λ lies. inl (some_still numbers.slots.items numbers'.slots.items i keeps.1 lies)) (λ held. inr (some_still numbers.kept.items numbers'.kept.items i keeps.2 held)),
)
  where
    some_still : (slots slots' : List (Option (Slot T))) (i : ℕ) → flags_of slots' ≡ flags_of slots → is_some (get_or slots i None) ≡ true → is_some (get_or slots' i None) ≡ true
    some_still slots slots' i same some = go (get_or slots' i None) (get_or slots i None) (flag_same slots slots' i same) some
      where
        go : (a b : Option (Slot T)) → is_none a ≡ is_none b → is_some b ≡ true → is_some a ≡ true
        go (Some x) b same some = refl
        go None None same some = absurd (cc)
        go None (Some y) same some = absurd (cc)

-- A slot that is kept.

pub kept_at : {T : Type 0} (words : Words T) (name : Name) (n : ℕ) (slot : Slot T) → name ≡ words_book words → IsSlotOf words slot → IsInactive slot → its_number slot ≡ n → IsKeptAt name n slot
kept_at words name n slot same of off number = record { its = subst (λ (m : Name). IsOfList m slot) (sym same) of.0; number = number; inactive = off; used = of.1 }

module _ {T : Type 0} (numbers : Numbers T) (are : AreSlots numbers) where
  pub kept_set : (n : ℕ) (o : Option (Slot T)) → ((slot : Slot T) → o ≡ Some slot → IsKeptAt numbers.book.name n slot) → AreEachAt (IsKeptAt numbers.book.name) (slice_set numbers.kept.items n o)
  kept_set n o its i slot is =
      ⊎_elim (λ here. subst (λ (k : ℕ). IsKeptAt numbers.book.name k slot) (sym here.0) (its slot here.1)) (λ other. are.kept i slot other.1) (set_or numbers.kept.items n i o slot is)

  -- The key knows the same, and the same lies here.
  pub slots_as : (numbers' : Numbers T) → numbers_book numbers'.key ≡ numbers_book numbers.key → use_flags numbers'.key ≡ use_flags numbers.key → IsRestIn numbers.book.name numbers'.key numbers'.rest → numbers'.slots ≡ numbers.slots → numbers'.free ≡ numbers.free
      → AreEachAt (IsKeptAt numbers.book.name) numbers'.kept.items → length numbers'.kept.items ≡ length numbers.kept.items → numbers'.next ≡ numbers.next → numbers'.book ≡ numbers.book → AreSlots numbers'
  slots_as numbers' key_book flags rest slots free kept many next book =
      let made : made_of numbers'.key ≡ made_of numbers.key = made_flags numbers'.key ∙ ap (λ (us : List Bool). length us) flags ∙ sym (made_flags numbers.key) in record {
        book = key_book ∙ are.book ∙ ap (λ seen. seen.name) (sym book);
        flags = flags ∙ are.flags ∙ ap (λ l. flags_of l.items) (sym slots);
        slots = subst (λ (t : Name × List (Option (Slot T))). AreEachAt (IsFreeAt t.0) t.1) (λ i. ((sym book i).name, (sym slots i).items)) are.slots;
        free = free ∙ are.free ∙ ap (λ l. count_by is_some l.items) (sym slots);
        kept = subst (λ (m : Name). AreEachAt (IsKeptAt m) numbers'.kept.items) (λ i. (sym book i).name) kept;
        many = many ∙ are.many ∙ ap (λ l. length l.items) (sym slots);
        rest = subst (λ (m : Name). IsRestIn m numbers'.key numbers'.rest) (λ i. (sym book i).name) rest;
        next = are.next;
        is_there = next ∙ are.is_there;
        comes = (are.comes.0 ∙ sym made, are.comes.1 ∙ sym key_book);
      }

  -- other slots are kept
  pub slots_kept : (numbers' : Numbers T) → numbers'.key ≡ numbers.key → numbers'.rest ≡ numbers.rest → numbers'.slots ≡ numbers.slots → numbers'.free ≡ numbers.free → AreEachAt (IsKeptAt numbers.book.name) numbers'.kept.items
      → length numbers'.kept.items ≡ length numbers.kept.items → numbers'.next ≡ numbers.next → numbers'.book ≡ numbers.book → AreSlots numbers'
  slots_kept numbers' key rest slots free kept many next book =
      slots_as numbers' (ap numbers_book key) (ap use_flags key) (subst (λ (t : NumbersKey × Batch). IsRestIn numbers.book.name t.0 t.1) (λ i. (sym key i, sym rest i)) are.rest) slots free kept many next book

  -- and after a look with the key
  pub slots_looked : (numbers' : Numbers T) (pass' : Pass) → FollowsNumbers numbers.key pass' numbers'.key → IsPrefix (numbers_saw numbers.key) pass'.seen → use_flags numbers'.key ≡ use_flags numbers.key → rest_of numbers'.key ≡ rest_of numbers.key
      → numbers'.rest ≡ numbers.rest → numbers'.slots ≡ numbers.slots → numbers'.free ≡ numbers.free → numbers'.kept ≡ numbers.kept → numbers'.next ≡ numbers.next → numbers'.book ≡ numbers.book → AreSlots numbers'
  slots_looked numbers' pass' follows saw flags rest same slots free kept next book =
      let own : numbers_saw numbers'.key ≡ pass'.seen = own_followed numbers.key pass' numbers'.key follows in
      slots_as numbers' follows.0 flags
      (subst (λ b. IsRestIn numbers.book.name numbers'.key b) (sym same) (record {
        book = are.rest.book;
        values = are.rest.values ∙ sym rest;
        told = all_told_later (numbers_saw numbers.key) (numbers_saw numbers'.key) (keys_in numbers.rest).keys.held (subst (λ (log : List Entry). IsPrefix (numbers_saw numbers.key) log) (sym own) saw) are.rest.told;
      }))
      slots free (subst (λ l. AreEachAt (IsKeptAt numbers.book.name) l.items) (sym kept) are.kept) (ap (λ l. length l.items) kept) next book

  -- what is kept in one place is another slot, or none as before
  pub kept_same : (n : ℕ) (o : Option (Slot T)) → is_none o ≡ is_none (get_or numbers.kept.items n None) → ((slot : Slot T) → o ≡ Some slot → IsKeptAt numbers.book.name n slot) → n < length numbers.kept.items
      → (numbers' : Numbers T) → numbers'.kept.items ≡ slice_set numbers.kept.items n o → numbers'.key ≡ numbers.key → numbers'.rest ≡ numbers.rest → numbers'.slots ≡ numbers.slots → numbers'.free ≡ numbers.free → numbers'.next ≡ numbers.next
      → numbers'.book ≡ numbers.book → numbers'.least ≡ numbers.least → AreSlots numbers' × KeepsPlaces numbers numbers'
  kept_same n o same its below numbers' kept key rest slots free next book least = (
    slots_kept numbers' key rest slots free (subst (AreEachAt (IsKeptAt numbers.book.name)) (sym kept) (kept_set n o its)) (ap (λ (l : List (Option (Slot T))). length l) kept ∙ length-set numbers.kept.items n o) next book,
    (book, ap (λ l. flags_of l.items) slots, ap flags_of kept ∙ places_set numbers.kept.items n o same below, least),
  )
