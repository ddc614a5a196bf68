-- The keys of a slot and of the numbers are enough for events that turn the slot's number over: to give it back, to take it again, and to
-- gather what slots left before it is given back.
use Rattle.std.proofs.Common.{◌≡◌, ℕ, zero, suc, ◌+◌, ◌<◌, ◌==◌, true, false, List, [], ◌∷◌, ◌++◌, length, map, slice_set, Bool, refl, sym, ◌∙◌, ap, subst, arith, not, nat_lt, ◌&&◌, ◌||◌, if◌then◌else◌, Some, None}
use Rattle.std.proofs.lemmas.Bool.{or_parts}
use Rattle.std.specs.List.{list_any}
use Rattle.std.proofs.lemmas.List.{length-map}
use Rattle.seize_machine.specs.Machine.State.{State, Slot, no_slot, slot_at, head_at, is_idle, is_active}
use Rattle.seize_machine.specs.Machine.Event.{Event, Begin, Give, Take}
use Rattle.seize_machine.specs.Machine.Next.{after_gather, after_give, after_take, ends_now, first_free, has_others, next, scheme}
use Rattle.seize_machine.specs.Machine.Frames.{used, changes_slot, changes_head_of, changes_link}
use Rattle.seize_machine.specs.declared.machine.event.Answer.{Answer}
use Rattle.seize_machine.specs.declared.machine.event.Answer.TheVariants.{Done}
use Rattle.seize_machine.specs.declared.machine.event.Job.TheVariants.{Gather}
use Rattle.seize_machine.proofs.Facts.{Step, next_of, step_of}
use Rattle.seize_table.specs.Place.{all_numbers}
use Rattle.seize_book.specs.Ledger.{HeldKey}
use Rattle.seize_book.specs.Blocks.{plans}
use Rattle.seize_book.specs.Chains.{field_value}
use Rattle.seize_book.specs.Entry.{Entry, Made, Deed}
use Rattle.seize_book.specs.Book.{after, births, makes_slot, Does, slots, numbers, of_next_slot}
use Rattle.seize_book.specs.Pairs.{MakesNoPair}
use Rattle.seize_book.specs.Fair.{Before, Covers, Fair, MayAdd, EndsNone, StartsNone, pass_key}
use Rattle.seize_book.specs.Homes.{changes_count, changes_home}
use Rattle.seize_book.specs.Others.{IsLeast, first_false, others_used}
use Rattle.seize_book.specs.Private.{Tag, is_one, key_of, tag_of, own_of}
use Rattle.seize_book.specs.Tokens.{Name, start}
use Rattle.seize_book.proofs.Chains.{unled}
use Rattle.seize_book.proofs.Lists.{equal}
use Rattle.seize_book.proofs.Private.{only, only_is, differ, no_place}
use Rattle.seize_book.proofs.Saying.{says_none}
use Rattle.seize_book.proofs.Sound.{no_labels, none_named}

-- the event changes which numbers are in use, the rest and the record of slot s, and nothing else
abbrev pub Turns : ℕ → Event → Type 0
Turns s event =
    ((k : ℕ) → (changes_slot k event ≡ (s == k)) × (changes_head_of k event ≡ false) × (changes_link k event ≡ false))
    × ((st : State) (k : ℕ) → (changes_count st k event ≡ false) × (changes_home st k event ≡ false))

-- of the numbers there is one key
pub the_only : (k j m : ℕ) → m ≡ 1 → k < m → j < m → k ≡ j
the_only k j m e l h = omega (arith, e, l, h)

covers : (st : State) (log : List Entry) (e : Deed) (p s j : ℕ) (x y : Tag) (mine own own' : List Entry) → e.pass ≡ p → Turns s e.event → makes_slot (after st log) e.event ≡ false → j ≡ 0
    → Covers st (pass_key p mine ∷ record { kind = slots; key = s; own = own; label = x.0; note = x.1 } ∷ record { kind = numbers; key = j; own = own'; label = y.0; note = y.1 } ∷ []) log (Made e)
covers st log e p s j x y mine own own' pe turns none is zero k b there = differ e.pass k (λ i. b.0 (refl, i ∙ pe))
covers st log e p s j x y mine own own' pe turns none is (suc zero) k b there = absurd (b.1.1.0 (refl, the_only k j there.0 there.1 there.2 (let n : there.0 ≡ 1 = there.1 in omega (arith, is, n))))
covers st log e p s j x y mine own own' pe turns none is (suc (suc zero)) k b there = (turns.0 k).0 ∙ differ s k (λ i. b.1.0 (refl, i))
covers st log e p s j x y mine own own' pe turns none is (suc (suc (suc zero))) k b there = (turns.0 k).1
covers st log e p s j x y mine own own' pe turns none is (suc (suc (suc (suc zero)))) k b there = (turns.0 k).2
covers st log e p s j x y mine own own' pe turns none is (suc (suc (suc (suc (suc zero))))) k b there = (turns.1 (after st log) k).0
covers st log e p s j x y mine own own' pe turns none is (suc (suc (suc (suc (suc (suc zero)))))) k b there = (turns.1 (after st log) k).1
covers st log e p s j x y mine own own' pe turns none is (suc (suc (suc (suc (suc (suc (suc zero))))))) k b there = refl
covers st log e p s j x y mine own own' pe turns none is (suc (suc (suc (suc (suc (suc (suc (suc zero)))))))) k b there = none
covers st log e p s j x y mine own own' pe turns none is (suc (suc (suc (suc (suc (suc (suc (suc (suc r))))))))) k b there = refl

may_turn : (n : Name) (p : ℕ) (seen : List Entry) (a b : List (HeldKey Entry)) (e : Deed) → is_one slots a ≡ true → is_one numbers b ≡ true → key_of b ≡ 0
    → e.pass ≡ p → Turns (key_of a) e.event → EndsNone e.event → StartsNone e.event → MakesNoPair e.event
    → ((log : List Entry) → Before n p seen (only slots a ++ only numbers b) log → (d : State × Answer) × Does (start n) log (Made e) d × (makes_slot (after (start n) log) e.event ≡ false))
    → MayAdd n p seen (a ++ b) e
may_turn n p seen a b e one one' zero_is pe turns ends starts nopair goes =
    subst (λ (hs : List (HeldKey Entry)). MayAdd n p seen (hs ++ b) e) (sym (only_is slots a one))
    (subst (λ (hs : List (HeldKey Entry)). MayAdd n p seen (only slots a ++ hs) e) (sym (only_is numbers b one'))
    ((omega arith, (omega arith, tt)), ends, (starts, nopair), fair))
  where
    fair : (mine log : List Entry) → Before n p seen (only slots a ++ only numbers b) log → Fair n (pass_key p mine ∷ (only slots a ++ only numbers b)) log (Made e)
    fair mine log before = let does = goes log before in
        record {
          done = does.0;
          legal = does.1;
          covers = covers (start n) log e p (key_of a) (key_of b) (tag_of a) (tag_of b) mine (own_of a) (own_of b) pe turns does.2 zero_is;
          names = λ many was there. (subst (λ (z : ℕ). z < many 0) (sym pe) there.0, (λ j le. (turns.1 (after (start n) log) j).0), (λ j le. (turns.1 (after (start n) log) j).1), λ f le. refl);
          one = none_named e.size (after (start n) log) e.event does.0 (step_of _ _ _ _ does.1) (λ j. (turns.1 (after (start n) log) j).1);
          leads = unled (after (start n) log) (plans (start n) log) (field_value log) e.event (λ j. (turns.0 j).1);
          labels = no_labels (pass_key p mine ∷ (only slots a ++ only numbers b)) e.size (after (start n) log) e.event does.0 (step_of _ _ _ _ does.1) (λ j. (turns.1 (after (start n) log) j).1);
          says = says_none (after (start n) log) e (λ j. (turns.1 (after (start n) log) j).1);
          places = no_place (after (start n) log) (pass_key p mine ∷ (only slots a ++ only numbers b)) (Made e) does.2;
        }

-- whether another number is in use, by which are in use
any_by : (slots : List Slot) → list_any (λ slot. slot.used) slots ≡ list_any (λ u. u) (map (λ slot. slot.used) slots)
any_by [] = refl
any_by (x ∷ xs) = ap (λ (b : Bool). x.used || b) (any_by xs)

pub others_by : (slots : List Slot) (s : ℕ) → list_any (λ slot. slot.used) (slice_set slots s no_slot) ≡ others_used (map (λ slot. slot.used) slots) s
others_by [] s = refl
others_by (x ∷ xs) zero = any_by xs
others_by (x ∷ xs) (suc s) = ap (λ (b : Bool). x.used || b) (others_by xs s)

-- so whether the slot may end, as the two keys know it
abbrev pub ends_known : Name → Name → List (HeldKey Entry) → List (HeldKey Entry) → Bool
ends_known m n a b =
    let st : State = after (start n) (own_of b) in ends_now (others_used (used st) (key_of a)) (slot_at (after (start m) (own_of a)) (key_of a)).batch st.rest

-- is still so
still_ends : (n : Name) (p : ℕ) (seen log : List Entry) (a b : List (HeldKey Entry)) → Before n p seen (only slots a ++ only numbers b) log
    → ends_now (has_others (after (start n) log) (key_of a)) (slot_at (after (start n) log) (key_of a)).batch (after (start n) log).rest ≡ ends_known n n a b
still_ends n p seen log a b before =
    let st : State = after (start n) log in let slot = before.kept.0.1 in let numbers_ = before.kept.1.0.1 in
    ap (λ (o : Bool). ends_now o (slot_at st (key_of a)).batch st.rest) (others_by st.slots (key_of a))
    ∙ ap (λ (t : List Bool × (Slot × List ℕ)). ends_now (others_used t.0 (key_of a)) t.1.0.batch t.1.1) (λ j. (sym numbers_.0 j, (sym slot.1 j, sym numbers_.1 j)))

-- the slot has no call, and is inactive, as its key knows
abbrev pub KnownOutside : Name → List (HeldKey Entry) → Type 0
KnownOutside n a = (is_idle (slot_at (after (start n) (own_of a)) (key_of a)) ≡ true) × (is_active (head_at (after (start n) (own_of a)) (key_of a)) ≡ false)

abbrev pub turning : ℕ → ℕ → Event → Deed
turning p size event = record { pass = p; size = size; event = event; life = 0; kepts = [] }

pub may_give : (n : Name) (p size : ℕ) (seen : List Entry) (a b : List (HeldKey Entry)) → is_one slots a ≡ true → is_one numbers b ≡ true → key_of b ≡ 0
    → KnownOutside n a → ends_known n n a b ≡ true → MayAdd n p seen (a ++ b) (turning p size (Give (key_of a)))
may_give n p size seen a b one one' zero_is outside ends =
    may_turn n p seen a b (turning p size (Give (key_of a))) one one' zero_is refl (λ k. (refl, refl, refl), λ st k. (refl, refl)) (λ lives. refl) (λ s. refl) (λ st p. refl) goes
  where
    goes : (log : List Entry) → Before n p seen (only slots a ++ only numbers b) log
        → (d : State × Answer) × Does (start n) log (Made (turning p size (Give (key_of a)))) d × (makes_slot (after (start n) log) (Give (key_of a)) ≡ false)
    goes log before = let st : State = after (start n) log in let s : ℕ = key_of a in let slot = before.kept.0.1 in let d : State × Answer = (after_give st s, Done) in
        (d, next_of size st (Give s) d (Step.gave s (ap is_idle (sym slot.1) ∙ outside.0) (sym slot.2 ∙ outside.1) (still_ends n p seen log a b before ∙ ends)), refl)

-- where it may not end, it gathers
pub may_gather : (n : Name) (p size : ℕ) (seen : List Entry) (a b : List (HeldKey Entry)) → is_one slots a ≡ true → is_one numbers b ≡ true → key_of b ≡ 0
    → KnownOutside n a → ends_known n n a b ≡ false → MayAdd n p seen (a ++ b) (turning p size (Begin (key_of a) Gather))
may_gather n p size seen a b one one' zero_is outside ends =
    may_turn n p seen a b (turning p size (Begin (key_of a) Gather)) one one' zero_is refl (λ k. (refl, refl, refl), λ st k. (refl, refl)) (λ lives. refl) (λ s. refl) (λ st p. refl) goes
  where
    goes : (log : List Entry) → Before n p seen (only slots a ++ only numbers b) log
        → (d : State × Answer) × Does (start n) log (Made (turning p size (Begin (key_of a) Gather))) d × (makes_slot (after (start n) log) (Begin (key_of a) Gather) ≡ false)
    goes log before = let st : State = after (start n) log in let s : ℕ = key_of a in let slot = before.kept.0.1 in let d : State × Answer = (after_gather st s, Done) in
        let some = or_parts _ _ (still_ends n p seen log a b before ∙ ends) in
        (d, next_of size st (Begin s Gather) d (Step.gathered s (ap is_idle (sym slot.1) ∙ outside.0) (sym slot.2 ∙ outside.1) some.0 some.1), refl)

-- which number is the least that is not in use, by which are in use
pub free_by : (slots : List Slot) → first_free slots ≡ first_false (map (λ slot. slot.used) slots)
free_by [] = refl
free_by (x ∷ xs) = ap (λ (m : ℕ). if not (not x.used) then 1 + m else 0) (free_by xs)

-- the slot's number is the least that is not in use, as the key of the numbers knows
module _ (n : Name) (a b : List (HeldKey Entry)) where
  abbrev old : State
  old = after (start n) (own_of b)

  abbrev Least : Type 0
  Least = IsLeast (key_of a) old

  -- and it is still
  still : (log : List Entry) → used old ≡ used (after (start n) log) → Least → (key_of a ≡ first_free (after (start n) log).slots) × (key_of a < length (after (start n) log).slots)
  still log same least =
      let st : State = after (start n) log in
      (least.0 ∙ free_by old.slots ∙ ap first_false same ∙ sym (free_by st.slots), subst (λ (z : ℕ). key_of a < z) (sym (length-map old.slots (λ slot. slot.used)) ∙ ap (λ (us : List Bool). length us) same ∙ length-map st.slots (λ slot. slot.used)) least.1)

  unequal : (x y : ℕ) → x < y → (x == y) ≡ false
  unequal x y l = grind arith

  below : (x y : ℕ) → x < y → nat_lt x y ≡ true
  below x y l = grind arith

  takes : (size : ℕ) (st : State) (s : ℕ) → s ≡ first_free st.slots → s < all_numbers → next size st (Take s) ≡ Some (after_take scheme size st s, Done)
  takes size st s least few =
      ap (λ (c : Bool). if c && nat_lt s all_numbers then Some (after_take scheme size st s, Done) else None) (equal s (first_free st.slots) least)
      ∙ ap (λ (c : Bool). if c then Some (after_take scheme size st s, Done) else None) (below s all_numbers few)

  pub may_take : (p size : ℕ) (seen : List Entry) → is_one slots a ≡ true → is_one numbers b ≡ true → key_of b ≡ 0 → Least
      → MayAdd n p seen (a ++ b) (turning p size (Take (key_of a)))
  may_take p size seen one one' zero_is least =
      may_turn n p seen a b (turning p size (Take (key_of a))) one one' zero_is refl (λ k. (refl, refl, refl), λ st k. (refl, refl)) (λ lives. refl) (λ s. refl) (λ st p. refl) goes
    where
      goes : (log : List Entry) → Before n p seen (only slots a ++ only numbers b) log → (d : State × Answer) × Does (start n) log (Made (turning p size (Take (key_of a)))) d × (makes_slot (after (start n) log) (Take (key_of a)) ≡ false)
      goes log before =
          let st : State = after (start n) log in let s : ℕ = key_of a in let now = still log before.kept.1.0.1.0 least in
          ((after_take scheme size st s, Done), takes size st s now.0 least.2, unequal s (length st.slots) now.1)

  -- it makes no keys, since the slot is there
  pub takes_old : (p : ℕ) (seen log : List Entry) → is_one slots a ≡ true → is_one numbers b ≡ true → Before n p seen (a ++ b) log → Least → births (after (start n) log) (Take (key_of a)) ≡ []
  takes_old p seen log one one' before least =
      let st : State = after (start n) log in
      let held = subst (λ (hs : List (HeldKey Entry)). Before n p seen (only slots a ++ hs) log) (only_is numbers b one') (subst (λ (hs : List (HeldKey Entry)). Before n p seen (hs ++ b) log) (only_is slots a one) before) in
      ap (λ (c : Bool). if c then of_next_slot st else []) (unequal (key_of a) (length st.slots) (still log held.kept.1.0.1.0 least).1)
