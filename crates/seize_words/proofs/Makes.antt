-- The key of the numbers and that of the next slot are enough to make the slot, where all numbers are in use: by a step on the total.
use Rattle.std.proofs.Common.{inl, inr, ◌≡◌, ℕ, zero, suc, ◌+◌, ◌^◌, ◌<◌, true, false, List, [], ◌∷◌, ◌++◌, length, map, get_or, Bool, refl, sym, ◌∙◌, ap, subst, arith, not, nat_le, nat_lt, max, ◌&&◌, ◌||◌, if◌then◌else◌, Some, None}
use Rattle.std.specs.List.{list_any}
use base.Stored.{gnil}
use Rattle.std.proofs.lemmas.List.{length-map}
use Rattle.std.proofs.Math.Nat.{mod-eq_of_lt}
use Rattle.seize_machine.specs.Machine.State.{State, Slot, Inactive, Mark, are_distinct, head_at, linked_values, no_slot, slot_at}
use Rattle.seize_machine.specs.Machine.Event.{Take}
use Rattle.seize_machine.specs.Machine.Next.{after_take, first_free, next, scheme, slot_set, taken_slot}
use Rattle.seize_machine.specs.Machine.Frames.{used}
use Rattle.seize_machine.specs.Machine.History.{IsReached}
use Rattle.seize_machine.specs.declared.machine.event.Answer.{Answer}
use Rattle.seize_machine.specs.declared.machine.event.Answer.TheVariants.{Done}
use Rattle.seize_machine.proofs.Facts.{heads_length, no_rest, some_is}
use Rattle.seize_table.specs.Place.{all_numbers}
use Rattle.seize_words.specs.Atomic.{plus}
use Rattle.seize_book.specs.Ledger.{HeldKey, HoldersKnow, with_list, keys_made}
use Rattle.seize_book.specs.Entry.{Entry, Made, Deed}
use Rattle.seize_book.specs.Book.{IsLegalList, HolderKnows, TheSlot, after, births, slots, heads, numbers, totals, of_next_slot, of_slot, rules}
use Rattle.seize_book.specs.Fair.{Covers, pass_key}
use Rattle.seize_book.specs.Others.{first_false}
use Rattle.seize_book.specs.Private.{Tag, is_one, key_of, label_of, note_of, tag_of, own_of}
use Rattle.seize_words.specs.Stepping.{FoundAs, IsStepWith, MayStepWith, in_step}
use Rattle.seize_book.specs.Tokens.{Name, start}
use Rattle.seize_words.specs.Words.{Site}
use Rattle.seize_book.proofs.Facts.{after_push, equal, free_by, reached_after, the_only, only, only_is, differ}

abbrev pub at_total : Name → Site
at_total n = record { name = n; kind = totals; number = 0 }

abbrev pub takes : ℕ → ℕ → ℕ → Deed
takes p size s = record { pass = p; size = size; event = Take s; life = 0; kepts = [] }

-- the keys that are there in the step, but for the pass's
abbrev all : ℕ → ℕ → List Entry → List Entry → List Entry → Tag → Tag → List (HeldKey Entry)
all j s since own own' x y =
    record { kind = totals; key = 0; own = since; label = 0; note = gnil } ∷ record { kind = numbers; key = j; own = own; label = x.0; note = x.1 }
    ∷ record { kind = slots; key = s; own = own'; label = y.0; note = y.1 } ∷ []

covers : (st : State) (log : List Entry) (p size s j : ℕ) (x y : Tag) (mine since own own' : List Entry) → j ≡ 0 → Covers st (pass_key p mine ∷ all j s since own own' x y) log (Made (takes p size s))
covers st log p size s j x y mine since own own' z zero k b there = differ p k (λ i. b.0 (refl, i))
covers st log p size s j x y mine since own own' z (suc zero) k b there =
    absurd (b.1.1.0 (refl, the_only k j there.0 there.1 there.2 (let n : there.0 ≡ 1 = there.1 in omega (arith, z, n))))
covers st log p size s j x y mine since own own' z (suc (suc zero)) k b there = differ s k (λ i. b.1.1.1.0 (refl, i))
covers st log p size s j x y mine since own own' z (suc (suc (suc zero))) k b there = refl
covers st log p size s j x y mine since own own' z (suc (suc (suc (suc zero)))) k b there = refl
covers st log p size s j x y mine since own own' z (suc (suc (suc (suc (suc zero))))) k b there = refl
covers st log p size s j x y mine since own own' z (suc (suc (suc (suc (suc (suc zero)))))) k b there = refl
covers st log p size s j x y mine since own own' z (suc (suc (suc (suc (suc (suc (suc zero))))))) k b there = refl
covers st log p size s j x y mine since own own' z (suc (suc (suc (suc (suc (suc (suc (suc zero)))))))) k b there =
    absurd (b.1.0 (refl, the_only k 0 there.0 there.1 there.2 (let n : there.0 ≡ 1 = there.1 in omega (arith, n))))
covers st log p size s j x y mine since own own' z (suc (suc (suc (suc (suc (suc (suc (suc (suc r))))))))) k b there = refl

-- how many slots there are, and which number is free, follows from which are in use
as_many : (a b : State) → used a ≡ used b → length a.slots ≡ length b.slots
as_many a b same = sym (length-map a.slots (λ slot. slot.used)) ∙ ap (λ (us : List Bool). length us) same ∙ length-map b.slots (λ slot. slot.used)

as_free : (a b : State) → used a ≡ used b → first_free a.slots ≡ first_free b.slots
as_free a b same = free_by a.slots ∙ ap first_false same ∙ sym (free_by b.slots)

-- in use, with no call, and has retired nothing
abbrev pub new_slot : Slot
new_slot = record { used = true; batch = []; call = None }

made_by : State → ℕ → State × Answer
made_by st s = (record st { slots = st.slots ++ new_slot ∷ []; heads = st.heads ++ Inactive ∷ []; rest = [] }, Done)

-- with nothing left no call begins
takes_none : (size slots : ℕ) → taken_slot size slots [] ≡ new_slot
takes_none size slots = ap (λ (full : Bool). record { used = true; batch = []; call = (if full then Some (record { place = Mark 0 slots []; queue = [] }) else None) }) (below size)
  where
    below : (size : ℕ) → nat_le (max 1 size) 0 ≡ false
    below size = grind arith

does : (size : ℕ) (st : State) (s : ℕ) → s ≡ length st.slots → s ≡ first_free st.slots → s < all_numbers → st.rest ≡ [] → next size st (Take s) ≡ Some (made_by st s)
unfolding made_by
does size st s is least few none =
    ap (λ (c : Bool). if c && nat_lt s all_numbers then Some (after_take scheme size st s, Done) else None) (equal s (first_free st.slots) least)
    ∙ ap (λ (c : Bool). if c then Some (after_take scheme size st s, Done) else None) (below s all_numbers few)
    ∙ ap (λ (c : Bool). Some (if c then with_slot (taken_slot size (length st.slots + 1) st.rest) else slot_set (record st { rest = [] }) s (taken_slot size (length st.slots) st.rest), Done)) (equal s (length st.slots) is)
    ∙ ap (λ (rest : List ℕ). Some (with_slot (taken_slot size (length st.slots + 1) rest), Done)) none
    ∙ ap (λ (slot : Slot). Some (with_slot slot, Done)) (takes_none size (length st.slots + 1))
  where
    with_slot : Slot → State
    with_slot slot = record st { slots = st.slots ++ slot ∷ []; heads = st.heads ++ Inactive ∷ []; rest = [] }

    below : (x y : ℕ) → x < y → nat_lt x y ≡ true
    below x y l = grind arith

pushed_length : {X : Type 0} (xs : List X) (x : X) → length (xs ++ x ∷ []) ≡ suc (length xs)
pushed_length [] x = refl
pushed_length (y ∷ xs) x = ap suc (pushed_length xs x)

pushed_free : (all : List Slot) (x : Slot) → first_free all ≡ length all → x.used ≡ true → first_free (all ++ x ∷ []) ≡ suc (length all)
pushed_free [] x h u = ap (λ (c : Bool). if not (not c) then 1 else 0) u
pushed_free (y ∷ all) x h u = go y.used refl h (λ k. pushed_free all x k u)
  where
    go : (c : Bool) → y.used ≡ c → (if not (not y.used) then 1 + first_free all else 0) ≡ suc (length all) → (first_free all ≡ length all → first_free (all ++ x ∷ []) ≡ suc (length all))
        → (if not (not y.used) then 1 + first_free (all ++ x ∷ []) else 0) ≡ suc (suc (length all))
    go true is h ih =
        let was : 1 + first_free all ≡ suc (length all) = sym (ap (λ (c : Bool). if not (not c) then 1 + first_free all else 0) is) ∙ h in
        let now : first_free (all ++ x ∷ []) ≡ suc (length all) = ih (omega (arith, was)) in
        ap (λ (c : Bool). if not (not c) then 1 + first_free (all ++ x ∷ []) else 0) is ∙ omega (arith, now)
    go false is h ih = absurd (let z : 0 ≡ suc (length all) = sym (ap (λ (c : Bool). if not (not c) then 1 + first_free all else 0) is) ∙ h in omega (arith, z))

-- where all numbers are in use, none is not
none_unused : (all : List Slot) → first_free all ≡ length all → list_any (λ u. not u) (map (λ slot. slot.used) all) ≡ false
none_unused [] h = refl
none_unused (y ∷ all) h = go y.used refl h (none_unused all)
  where
    go : (c : Bool) → y.used ≡ c → (if not (not y.used) then 1 + first_free all else 0) ≡ suc (length all) → (first_free all ≡ length all → list_any (λ u. not u) (map (λ slot. slot.used) all) ≡ false)
        → (not y.used || list_any (λ u. not u) (map (λ slot. slot.used) all)) ≡ false
    go true is h ih =
        let was : 1 + first_free all ≡ suc (length all) = sym (ap (λ (c : Bool). if not (not c) then 1 + first_free all else 0) is) ∙ h in
        ap (λ (c : Bool). not c || list_any (λ u. not u) (map (λ slot. slot.used) all)) is ∙ ih (omega (arith, was))
    go false is h ih = absurd (let z : 0 ≡ suc (length all) = sym (ap (λ (c : Bool). if not (not c) then 1 + first_free all else 0) is) ∙ h in omega (arith, z))

last : {X : Type 0} (xs : List X) (x d : X) → get_or (xs ++ x ∷ []) (length xs) d ≡ x
last [] x d = refl
last (y ∷ xs) x d = last xs x d

past : {X : Type 0} (xs : List X) (x d : X) → get_or (xs ++ x ∷ []) (suc (length xs)) d ≡ d
past [] x d = refl
past (y ∷ xs) x d = past xs x d

-- a sum that is a number of a slot is no longer than a word
plus_one : (v s : ℕ) → v ≡ s → s < all_numbers → plus 1 v ≡ suc s
plus_one v s is few = mod-eq_of_lt {n = v + 1} {m = 2 ^ 64} (omega (arith, is, few)) ∙ omega (arith, is)

module _ (n : Name) (a b : List (HeldKey Entry)) where
  abbrev st : State
  st = start n

  abbrev old : State
  old = after st (own_of a)

  abbrev s : ℕ
  s = length old.slots

  abbrev both : List (HeldKey Entry)
  both = only numbers a ++ only slots b

  -- where the key of the numbers knows that all are in use, and the slot's key is that of the next one, and says where its head lies
  pub record MayMakeIt : Type 0 where
    pub one : is_one numbers a ≡ true
    pub zero_is : key_of a ≡ 0
    pub slot : is_one slots b ≡ true
    pub full : first_free old.slots ≡ s
    pub few : s < all_numbers
    pub its : key_of b ≡ s
    pub placed : label_of b ≡ 1

  module _ (may : MayMakeIt) where
    joined : a ++ b ≡ both
    joined = ap (λ (t : List (HeldKey Entry) × List (HeldKey Entry)). t.0 ++ t.1) (λ j. (only_is numbers a may.one j, only_is slots b may.slot j))

    -- what is so in the list to which the event is added
    record Now (log : List Entry) : Type 0 where
      many : s ≡ length (after st log).slots
      free : s ≡ first_free (after st log).slots
      left : old.rest ≡ (after st log).rest
      none : (after st log).rest ≡ []

    -- while all numbers are in use nothing is left
    now : (log : List Entry) → are_distinct (linked_values n.links) ≡ true → IsLegalList st log → (used old ≡ used (after st log)) × (old.rest ≡ (after st log).rest) → Now log
    now log distinct legal same =
        let many = as_many old (after st log) same.0 in let free = sym may.full ∙ as_free old (after st log) same.0 in
        record {
          many = many;
          free = free;
          left = same.1;
          none = no_rest (after st log) (reached_after n log distinct legal) (none_unused (after st log).slots (sym free ∙ many));
        }

    module _ (p size : ℕ) where
      abbrev e : Deed
      e = takes p size s

      abbrev then_ : List Entry → List Entry
      then_ log = log ++ Made e ∷ []

      legal_now : (log : List Entry) → Now log → next size (after st log) (Take s) ≡ Some (made_by (after st log) s)
      legal_now log is = does size (after st log) s is.many is.free may.few is.none

      bears_now : (log : List Entry) → Now log → births (after st log) (Take s) ≡ of_slot (suc s)
      bears_now log is = ap (λ (c : Bool). if c then of_next_slot (after st log) else []) (equal s (length (after st log).slots) is.many) ∙ ap (λ (k : ℕ). of_slot (suc k)) (sym is.many)

      one_more : (log : List Entry) → IsLegalList st log → Now log → length (after st (then_ log)).slots ≡ suc s
      unfolding made_by
      one_more log legal is =
          ap (λ (z : State). length z.slots) (after_push st log (Made e) (made_by (after st log) s) legal (legal_now log is))
          ∙ pushed_length (after st log).slots new_slot ∙ ap suc (sym is.many)

      abbrev Step : ℕ → List Entry × List (HeldKey Entry) → List Entry → List Entry → Type 0
      Step v t own log = IsStepWith (of_slot (suc s)) (at_total n) p both [] (plus 1 v) (Made e) false t own log

      step : (v : ℕ) (since own log : List Entry) (seen : List Entry) → FoundAs (at_total n) v p seen both [] (since, []) log → Step v (since, []) own log
      unfolding made_by
      step v since own log seen found =
          let before = found.before in let is = now log found.distinct before.legal before.kept.1.0.1 in
          let was : v ≡ length (after st since).slots = found.shows in let same : length (after st since).slots ≡ length (after st log).slots = before.kept.0.1 in
          record {
            fair = record {
              done = made_by (after st log) s;
              legal = legal_now log is;
              covers = subst (λ (k : ℕ). Covers st (pass_key p own ∷ all (key_of a) k since (own_of a) (own_of b) (tag_of a) (tag_of b)) log (Made e)) (sym may.its)
                  (covers st log p size s (key_of a) (tag_of a) (tag_of b) own since (own_of a) (own_of b) may.zero_is);
              names = λ many was there. (there.0, (λ k le. refl), (λ k le. refl), λ f le. refl);
              one = λ one. one;
              leads = tt;
              labels = λ v named. inl named;
              says = omega arith;
              places = λ makes. inr (inr (inr (inl (refl, may.its ∙ is.many, may.placed))));
            };
            its = refl;
            bears = bears_now log is;
            ends = λ x in_. absurd in_;
            covered = tt;
            shows = plus_one v s (was ∙ same ∙ sym is.many) may.few ∙ sym (one_more log before.legal is);
            stands = refl;
          }

      pub may_make : (seen : List Entry) → MayStepWith (of_slot (suc s)) (at_total n) p seen (a ++ b) [] [] (plus 1) (λ v log. Made e) (λ v. false)
      may_make seen = subst (λ (hs : List (HeldKey Entry)). MayStepWith (of_slot (suc s)) (at_total n) p seen hs [] [] (plus 1) (λ v log. Made e) (λ v. false)) (sym joined) (
        (omega arith, (omega arith, tt)),
        λ v t own log found.
            let none : t.1 ≡ [] = found.stands in
            let found_none = subst (λ (vs : List (HeldKey Entry)). FoundAs (at_total n) v p seen both [] (t.0, vs) log) none found in
            subst (λ (vs : List (HeldKey Entry)). Step v (t.0, vs) own log) (sym none) (step v t.0 own log seen found_none),
      )

      -- what is known after it
      module _ (v : ℕ) (seen : List Entry) (t : List Entry × List (HeldKey Entry)) (log : List Entry) (found : FoundAs (at_total n) v p seen (a ++ b) [] t log) where
        known : Now log
        known =
            let none : t.1 ≡ [] = found.stands in
            let kept = subst (λ (hs : List (HeldKey Entry)). HoldersKnow (rules st) (in_step (at_total n) hs (t.0, [])) log) joined
            (subst (λ (vs : List (HeldKey Entry)). HoldersKnow (rules st) (in_step (at_total n) (a ++ b) (t.0, vs)) log) none found.before.kept) in
            now log found.distinct found.before.legal kept.1.0.1

        -- the slot has made no event since its key's list
        pub slot_kept : HolderKnows st TheSlot (key_of b) (own_of b) log
        slot_kept =
            let none : t.1 ≡ [] = found.stands in
            (subst (λ (hs : List (HeldKey Entry)). HoldersKnow (rules st) (in_step (at_total n) hs (t.0, [])) log) joined
            (subst (λ (vs : List (HeldKey Entry)). HoldersKnow (rules st) (in_step (at_total n) (a ++ b) (t.0, vs)) log) none found.before.kept)).1.1.0

        -- the keys then
        pub all_keys : (log' : List Entry)
            → with_list (a ++ b) log' ++ keys_made (of_slot (suc s)) log'
            ≡ record { kind = numbers; key = key_of a; own = log'; label = label_of a; note = note_of a } ∷ record { kind = slots; key = key_of b; own = log'; label = label_of b; note = note_of b }
            ∷ record { kind = slots; key = suc s; own = log'; label = 0; note = gnil } ∷ record { kind = heads; key = suc s; own = log'; label = 0; note = gnil } ∷ []
        all_keys log' = ap (λ (hs : List (HeldKey Entry)). with_list hs log' ++ keys_made (of_slot (suc s)) log') joined

        module _ (d : State × Answer) (done : next size (after st log) (Take s) ≡ Some d) where
          is_made : d ≡ made_by (after st log) s
          is_made = some_is _ _ (sym done ∙ legal_now log known)

          pub slot_is : slot_at d.0 s ≡ new_slot
          unfolding made_by
          slot_is = ap (λ (x : State × Answer). slot_at x.0 s) is_made ∙ ap (λ (k : ℕ). get_or ((after st log).slots ++ new_slot ∷ []) k no_slot) known.many ∙ last (after st log).slots new_slot no_slot

          -- nothing was left, nor is
          pub new_rest : (old.rest ≡ []) × (d.0.rest ≡ [])
          unfolding made_by
          new_rest = (known.left ∙ known.none, ap (λ (x : State × Answer). x.0.rest) is_made)

          heads_are : IsReached (after st log) → length (after st log).heads ≡ s
          heads_are reached = heads_length (after st log) reached ∙ sym known.many

          -- its head is inactive, and so is that of the slot that comes next
          pub new_head : IsReached (after st log) → head_at d.0 s ≡ Inactive
          unfolding made_by
          new_head reached = ap (λ (x : State × Answer). head_at x.0 s) is_made ∙ ap (λ (k : ℕ). get_or ((after st log).heads ++ Inactive ∷ []) k Inactive) (sym (heads_are reached)) ∙ last (after st log).heads Inactive Inactive

          pub next_head : IsReached (after st log) → head_at d.0 (suc s) ≡ Inactive
          unfolding made_by
          next_head reached = ap (λ (x : State × Answer). head_at x.0 (suc s)) is_made ∙ ap (λ (k : ℕ). get_or ((after st log).heads ++ Inactive ∷ []) (suc k) Inactive) (sym (heads_are reached)) ∙ past (after st log).heads Inactive Inactive

          -- and all numbers are in use still
          pub new_full : (length d.0.slots ≡ suc s) × (first_free d.0.slots ≡ suc s)
          unfolding made_by
          new_full =
              let free : first_free (after st log).slots ≡ length (after st log).slots = sym known.free ∙ known.many in (
                ap (λ (x : State × Answer). length x.0.slots) is_made ∙ pushed_length (after st log).slots new_slot ∙ ap suc (sym known.many),
                ap (λ (x : State × Answer). first_free x.0.slots) is_made ∙ pushed_free (after st log).slots new_slot free refl ∙ ap suc (sym known.many),
              )
