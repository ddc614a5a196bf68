-- The side condition of an event, by what it touches: a legal event changes nothing of a key that it does not touch, and makes its keys.
use Rattle.std.proofs.Common.{◌≡◌, ℕ, zero, suc, ◌+◌, ◌<◌, ◌≤◌, pos, Bool, true, false, ◌==◌, if◌then◌else◌, List, [], ◌∷◌, ◌++◌, length, refl, sym, ◌∙◌, ap, subst, ◌⊎◌, inl, inr, arith, append_assoc, append-nil}
use mathlib.Core.List.{IsPrefix}
use Rattle.seize_machine.specs.Machine.State.{State, slot_at, head_at, link_at, is_active, has, linked_values, are_distinct}
use Rattle.seize_machine.specs.Machine.Event.{Event}
use Rattle.seize_machine.specs.Machine.Frames.{used, slots_added}
use Rattle.seize_machine.specs.declared.machine.event.Answer.{Answer}
use Rattle.seize_machine.proofs.Facts.{step_of, slot_frame, active_frame, head_frame, link_frame, rest_frame, used_frame, value_frame, slots_length, links_length}
use Rattle.seize_book.specs.Ledger.{HeldKey, Known, Goes, AllThere, AllBelow, AreNextNumbers, more_of, more_by}
use Rattle.seize_book.specs.Blocks.{plans}
use Rattle.seize_book.specs.Chains.{IsLed, field_value}
use Rattle.seize_book.specs.Entry.{Entry, Made, Used, Deed, Use, maker}
use Rattle.seize_book.specs.Fair.{Fair}
use Rattle.seize_book.specs.Book.{after, IsLegalList, Does, mine, Kind, ThePass, TheNumbers, TheSlot, TheHead, TheLink, TheCount, TheBlock, TheField, TheTotal, Nothing, acts, kind_of, Same, HolderKnows, touches, makes_slot, IsKeyCount, rules, of_next_slot, births, births_by, passes, slots, heads, counts, blocks, fields, kinds}
use Rattle.seize_book.specs.Homes.{HasOne, changes_home, count_in, home_of}
use Rattle.seize_book.specs.Tokens.{Name, start}
use Rattle.seize_book.specs.Deposits.{deposit}
use Rattle.seize_book.proofs.Counts.{count_frame}
use Rattle.seize_book.proofs.Deposits.{deposit_frame}
use Rattle.seize_book.proofs.Homes.{home_value}
use Rattle.seize_book.proofs.Lists.{legal_push, after_push, after_used, reached_after, selected_out}
use Rattle.seize_book.proofs.Private.{none_used}
use Rattle.seize_book.proofs.Sound.{sound_push}
pub use Rattle.seize_book.proofs.Written.{chained_push}
use Rattle.seize_book.proofs.Written.{told_same, written_by_event, written_by_use}
use Rattle.seize_book.proofs.Saying.{all_say}

-- an event adds a slot just where it makes one
added_by : (st : State) (event : Event) → slots_added st event ≡ (if makes_slot st event then 1 else 0)
added_by st (Event.Take s) = refl
added_by st _ = refl

-- a key that the entry does not touch

module _ (n : Name) (distinct : are_distinct (linked_values n.links) ≡ true) where
  abbrev st : State
  st = start n

  -- where it is an event, by what the machine does; and a use of a field leaves the machine as it was
  by_event : (log own : List Entry) (x : Deed) (d : State × Answer) (kind : Kind) (k : ℕ) → IsLegalList st log → Does st log (Made x) d
      → touches (after st log) (Made x) kind k ≡ false → Same st kind k own log → Same st kind k own (log ++ Made x ∷ [])
  by_event log own x d ThePass p l h t s = s ∙ sym (selected_out (λ a. maker a.0 == p) st log (Made x) d h t)
  by_event log own x d TheNumbers k l h t s =
      let then_ = after_push st log (Made x) d l h in let step = step_of x.size (after st log) x.event d h in (
        s.0 ∙ sym (ap used then_ ∙ used_frame x.size (after st log) x.event d step (none_used x.event t)),
        s.1 ∙ sym (ap (λ (z : State). z.rest) then_ ∙ rest_frame x.size (after st log) x.event d step t),
      )
  by_event log own x d TheSlot k l h t s =
      let then_ = after_push st log (Made x) d l h in let step = step_of x.size (after st log) x.event d h in (
        s.0 ∙ sym (selected_out (λ a. acts k a.0) st log (Made x) d h t),
        s.1 ∙ sym (ap (λ (z : State). slot_at z k) then_ ∙ slot_frame k x.size (after st log) x.event d step t),
        s.2 ∙ sym (ap (λ (z : State). is_active (head_at z k)) then_ ∙ active_frame k x.size (after st log) x.event d step t),
        s.3 ∙ sym (written_by_event n log x d k distinct l h t),
      )
  by_event log own x d TheHead m l h t s =
      s ∙ sym (ap (λ (z : State). head_at z m) (after_push st log (Made x) d l h) ∙ head_frame m x.size (after st log) x.event d (step_of _ _ _ _ h) t)
  by_event log own x d TheLink k l h t s =
      s ∙ sym (ap (λ (z : State). link_at z k) (after_push st log (Made x) d l h) ∙ link_frame k x.size (after st log) x.event d (step_of _ _ _ _ h) t)
  by_event log own x d TheCount k l h t s =
      let then_ = after_push st log (Made x) d l h in let step = step_of x.size (after st log) x.event d h in (
        s.0 ∙ sym (ap (λ (z : State). count_in z k) then_ ∙ count_frame k x.size (after st log) x.event d step t),
        s.1 ∙ sym (ap (λ (z : State). deposit z k) then_ ∙ deposit_frame k x.size (after st log) x.event d (reached_after n log distinct l) step t),
      )
  by_event log own x d TheBlock k l h t s = λ v home.
      let then_ = after_push st log (Made x) d l h in
      let out = home_value (after st log) v x.event (subst (λ (j : ℕ). changes_home (after st log) j x.event ≡ false) (sym home) t) in
      let f = value_frame v x.size (after st log) x.event d (step_of _ _ _ _ h) out in
      ((s v home).0 ∙ sym (ap (λ (z : State). has v z.named) then_ ∙ f.0), (s v home).1 ∙ sym (ap (λ (z : State). has v z.loose) then_ ∙ f.1))
  by_event log own x d TheField f l h t s = s ∙ sym (told_same log (Made x) f t)
  by_event log own x d TheTotal k l h t s =
      let more : slots_added (after st log) x.event ≡ 0 = added_by (after st log) x.event ∙ ap (λ (c : Bool). if c then 1 else 0) t in
      let grown = slots_length x.size (after st log) x.event d (step_of _ _ _ _ h) in
      s ∙ sym (ap (λ (z : State). length z.slots) (after_push st log (Made x) d l h) ∙ omega (arith, grown, more))
  by_event log own x d Nothing k l h t s = tt

  by_use : (log own : List Entry) (u : Use) (d : State × Answer) (kind : Kind) (k : ℕ) → IsLegalList st log → HasOne (after st log) → IsLed (after st log) (plans st log) (field_value log) (Used u) → Does st log (Used u) d
      → touches (after st log) (Used u) kind k ≡ false → Same st kind k own log → Same st kind k own (log ++ Used u ∷ [])
  by_use log own u d ThePass p l one led h t s = s ∙ sym (selected_out (λ a. maker a.0 == p) st log (Used u) d h t)
  by_use log own u d TheNumbers k l one led h t s =
      let same = sym (after_used st log u) in (s.0 ∙ ap used same, s.1 ∙ ap (λ (z : State). z.rest) same)
  by_use log own u d TheSlot k l one led h t s = (
    s.0 ∙ sym (selected_out (λ a. acts k a.0) st log (Used u) d h t),
    s.1 ∙ sym (ap (λ (z : State). slot_at z k) (after_used st log u)),
    s.2 ∙ sym (ap (λ (z : State). is_active (head_at z k)) (after_used st log u)),
    s.3 ∙ sym (written_by_use n log u k distinct l one led t),
  )
  by_use log own u d TheHead m l one led h t s = s ∙ sym (ap (λ (z : State). head_at z m) (after_used st log u))
  by_use log own u d TheLink k l one led h t s = s ∙ sym (ap (λ (z : State). link_at z k) (after_used st log u))
  by_use log own u d TheCount k l one led h t s =
      let same = sym (after_used st log u) in (s.0 ∙ ap (λ (z : State). count_in z k) same, s.1 ∙ ap (λ (z : State). deposit z k) same)
  by_use log own u d TheBlock k l one led h t s = λ v home.
      let same = sym (after_used st log u) in ((s v home).0 ∙ ap (λ (z : State). has v z.named) same, (s v home).1 ∙ ap (λ (z : State). has v z.loose) same)
  by_use log own u d TheField f l one led h t s = s ∙ sym (told_same log (Used u) f t)
  by_use log own u d TheTotal k l one led h t s = s ∙ sym (ap (λ (z : State). length z.slots) (after_used st log u))
  by_use log own u d Nothing k l one led h t s = tt

  same_push : (log own : List Entry) (e : Entry) (d : State × Answer) (kind : Kind) (k : ℕ) → IsLegalList st log → HasOne (after st log) → IsLed (after st log) (plans st log) (field_value log) e → Does st log e d
      → touches (after st log) e kind k ≡ false → Same st kind k own log → Same st kind k own (log ++ e ∷ [])
  same_push log own (Made x) d kind k l one led h t s = by_event log own x d kind k l h t s
  same_push log own (Used u) d kind k l one led h t s = by_use log own u d kind k l one led h t s

same_now : (st : State) (kind : Kind) (k : ℕ) (log : List Entry) → Same st kind k log log
same_now st ThePass p log = refl
same_now st TheNumbers k log = (refl, refl)
same_now st TheSlot s log = (refl, refl, refl, refl)
same_now st TheHead m log = refl
same_now st TheLink l log = refl
same_now st TheCount k log = (refl, refl)
same_now st TheBlock k log = λ v home. (refl, refl)
same_now st TheField f log = refl
same_now st TheTotal k log = refl
same_now st Nothing k log = tt

pub kept_now : (st : State) (r k : ℕ) (log : List Entry) → HolderKnows st (kind_of r) k log log
kept_now st r k log = (([], append-nil log), same_now st (kind_of r) k log)

-- the numbers of keys after an entry that makes so many slots
record Sizes (st : State) (log : List Entry) (e : Entry) (many : ℕ → ℕ) (more_slots : ℕ) : Type 0 where
  pub was : (r : ℕ) → IsKeyCount st (kind_of r) (many r) log
  pub none_made : (p : ℕ) → many passes ≤ p → mine st p (log ++ e ∷ []) ≡ []
  slots_are : length (after st (log ++ e ∷ [])).slots ≡ length (after st log).slots + more_slots
  links_are : length (after st (log ++ e ∷ [])).links ≡ length (after st log).links
  none_counted : (k : ℕ) → many counts ≤ k → (count_in (after st (log ++ e ∷ [])) k ≡ pos 0) × (deposit (after st (log ++ e ∷ [])) k ≡ [])
  none_named : (v : ℕ) → many blocks ≤ home_of v → has v (after st (log ++ e ∷ [])).named ≡ false
  none_told : (f : ℕ) → many fields ≤ f → field_value (log ++ e ∷ []) f ≡ 0

nothing_new : (st : State) (log : List Entry) (e : Entry) (many : ℕ → ℕ) → Sizes st log e many 0 → AreNextNumbers many [] × ((r : ℕ) → IsKeyCount st (kind_of r) (more_by [] many r) (log ++ e ∷ []))
nothing_new st log e many s = (tt, go)
  where
    go : (r : ℕ) → IsKeyCount st (kind_of r) (many r) (log ++ e ∷ [])
    go zero = s.none_made
    go (suc zero) = s.was 1
    go (suc (suc zero)) = let was : many slots ≡ suc (length (after st log).slots) = s.was 2 in omega (arith, was, s.slots_are)
    go (suc (suc (suc zero))) = let was : many heads ≡ suc (length (after st log).slots) = s.was 3 in omega (arith, was, s.slots_are)
    go (suc (suc (suc (suc zero)))) = s.was 4 ∙ sym s.links_are
    go (suc (suc (suc (suc (suc zero))))) = s.none_counted
    go (suc (suc (suc (suc (suc (suc zero)))))) = s.none_named
    go (suc (suc (suc (suc (suc (suc (suc zero))))))) = s.none_told
    go (suc (suc (suc (suc (suc (suc (suc (suc zero)))))))) = s.was 8
    go (suc (suc (suc (suc (suc (suc (suc (suc (suc r))))))))) = tt

next_slot : (st : State) (log : List Entry) (e : Entry) (many : ℕ → ℕ) → Sizes st log e many 1
    → AreNextNumbers many (of_next_slot (after st log)) × ((r : ℕ) → IsKeyCount st (kind_of r) (more_by (of_next_slot (after st log)) many r) (log ++ e ∷ []))
next_slot st log e many s = ((s.was 2, (s.was 3, tt)), go)
  where
    go : (r : ℕ) → IsKeyCount st (kind_of r) (more_of heads (more_of slots many) r) (log ++ e ∷ [])
    go zero = s.none_made
    go (suc zero) = s.was 1
    go (suc (suc zero)) = let was : many slots ≡ suc (length (after st log).slots) = s.was 2 in omega (arith, was, s.slots_are)
    go (suc (suc (suc zero))) = let was : many heads ≡ suc (length (after st log).slots) = s.was 3 in omega (arith, was, s.slots_are)
    go (suc (suc (suc (suc zero)))) = s.was 4 ∙ sym s.links_are
    go (suc (suc (suc (suc (suc zero))))) = s.none_counted
    go (suc (suc (suc (suc (suc (suc zero)))))) = s.none_named
    go (suc (suc (suc (suc (suc (suc (suc zero))))))) = s.none_told
    go (suc (suc (suc (suc (suc (suc (suc (suc zero)))))))) = s.was 8
    go (suc (suc (suc (suc (suc (suc (suc (suc (suc r))))))))) = tt

-- how many slots an entry makes
slots_by : State → Entry → ℕ
slots_by st (Made x) = slots_added st x.event
slots_by st (Used u) = 0

makes : (st : State) (log : List Entry) (e : Entry) (many : ℕ → ℕ) → Sizes st log e many (slots_by (after st log) e)
    → AreNextNumbers many (births_by (after st log) e) × ((r : ℕ) → IsKeyCount st (kind_of r) (more_by (births_by (after st log) e) many r) (log ++ e ∷ []))
unfolding slots_by
makes st log (Used u) many so = nothing_new st log (Used u) many so
makes st log (Made x) many so = go (makes_slot (after st log) x.event) (subst (Sizes st log (Made x) many) (added_by (after st log) x.event) so)
  where
    go : (b : Bool) → Sizes st log (Made x) many (if b then 1 else 0)
        → AreNextNumbers many (if b then of_next_slot (after st log) else [])
        × ((r : ℕ) → IsKeyCount st (kind_of r) (more_by (if b then of_next_slot (after st log) else []) many r) (log ++ Made x ∷ []))
    go true so = next_slot st log (Made x) many so
    go false so = nothing_new st log (Made x) many so

other_pass : (a p n : ℕ) → a < n → n ≤ p → (a == p) ≡ false
other_pass a p n l le = grind arith

-- what an entry leaves of slots and links
lengths : (st : State) (log : List Entry) (e : Entry) (d : State × Answer) → IsLegalList st log → Does st log e d
    → (length (after st (log ++ e ∷ [])).slots ≡ length (after st log).slots + slots_by (after st log) e) × (length (after st (log ++ e ∷ [])).links ≡ length (after st log).links)
unfolding slots_by
lengths st log (Made x) d l h =
    let then_ = after_push st log (Made x) d l h in let step = step_of x.size (after st log) x.event d h in (
      ap (λ (z : State). length z.slots) then_ ∙ slots_length x.size (after st log) x.event d step,
      ap (λ (z : State). length z.links) then_ ∙ links_length x.size (after st log) x.event d step,
    )
lengths st log (Used u) d l h =
    let same = after_used st log u in
    let slots_same : length (after st (log ++ Used u ∷ [])).slots ≡ length (after st log).slots = ap (λ (z : State). length z.slots) same in
    (omega (arith, slots_same), ap (λ (z : State). length z.links) same)

sizes : (n : Name) → are_distinct (linked_values n.links) ≡ true → (held : List (HeldKey Entry)) (log : List Entry) (e : Entry) (many : ℕ → ℕ) → IsLegalList (start n) log → (f : Fair n held log e) → HasOne (after (start n) log)
    → ((r : ℕ) → IsKeyCount (start n) (kind_of r) (many r) log) → AllThere many held → Sizes (start n) log e many (slots_by (after (start n) log) e)
sizes n distinct held log e many l f has_one was there =
    let named = f.names many was there in let same = lengths (start n) log e f.done l f.legal in
    record {
      was = was;
      none_made = λ p le. selected_out (λ a. maker a.0 == p) (start n) log e f.done f.legal (other_pass (maker e) p (many passes) named.0 le) ∙ was passes p le;
      slots_are = same.0;
      links_are = same.1;
      none_counted = λ k le.
          let same = same_push n distinct log log e f.done TheCount k l has_one f.leads f.legal (named.1 k le) (refl, refl) in let old = was counts k le in (sym same.0 ∙ old.0, sym same.1 ∙ old.1);
      none_named = λ v le. sym (same_push n distinct log log e f.done TheBlock (home_of v) l has_one f.leads f.legal (named.2 (home_of v) le) (λ w home. (refl, refl)) v refl).0 ∙ was blocks v le;
      none_told = λ i le. sym (same_push n distinct log log e f.done TheField i l has_one f.leads f.legal (named.3 i le) refl) ∙ was fields i le;
    }

abbrev pub Can : Name → List (HeldKey Entry) → List Entry → (List Entry → Entry) → (List Entry → Type 0) → Type 0
Can n held seen ev Told = (log : List Entry) → Known (rules (start n)) held seen log → Told log → Fair n held log (ev log)

abbrev pub births_of : State → (List Entry → Entry) → List Entry → List (ℕ × ℕ)
births_of st ev log = births_by (after st log) (ev log)

pub prefix_push : (own log : List Entry) (e : Entry) → IsPrefix own log → IsPrefix own (log ++ e ∷ [])
prefix_push own log e p = (p.0 ++ e ∷ [], sym (append_assoc own p.0 (e ∷ [])) ∙ ap (λ (l : List Entry). l ++ e ∷ []) p.1)

pub goes : (n : Name) → are_distinct (linked_values n.links) ≡ true → (held : List (HeldKey Entry)) (seen : List Entry) (ev : List Entry → Entry) (Told : List Entry → Type 0) → Can n held seen ev Told
    → Goes (rules (start n)) held seen ev (births_of (start n) ev) Told
goes n distinct held seen ev Told can log known told_ =
    let st : State = start n in let e = ev log in let f = can log known told_ in let legal = known.0.0 in let sound = known.0.1 in (
      (legal_push st log e f.done legal f.legal, sound_push st log e f.done legal f.legal f.one sound, chained_push n log e f.done distinct legal sound known.0.2 f.legal f.leads, all_say log e known.0.3 f.says),
      (λ r k own beside there kept. (prefix_push own log e kept.0, same_push n distinct log own e f.done (kind_of r) k legal sound.one f.leads f.legal (f.covers r k beside there) kept.1)),
      (λ many was there. makes st log e many (sizes n distinct held log e many legal f sound.one was there)),
    )

-- there are as many slots after an entry as before, or one more where it makes one
pub slots_after : (st : State) (log : List Entry) (e : Entry) (d : State × Answer) → IsLegalList st log → Does st log e d
    → (length (after st (log ++ e ∷ [])).slots ≡ length (after st log).slots) ⊎ ((touches (after st log) e TheTotal 0 ≡ true) × (length (after st (log ++ e ∷ [])).slots ≡ suc (length (after st log).slots)))
unfolding slots_by
slots_after st log (Used u) d l h = inl (let same = (lengths st log (Used u) d l h).0 in omega (arith, same))
slots_after st log (Made x) d l h = go (makes_slot (after st log) x.event) refl
  where
    go : (b : Bool) → makes_slot (after st log) x.event ≡ b
        → (length (after st (log ++ Made x ∷ [])).slots ≡ length (after st log).slots) ⊎ ((makes_slot (after st log) x.event ≡ true) × (length (after st (log ++ Made x ∷ [])).slots ≡ suc (length (after st log).slots)))
    go true is = let more = (lengths st log (Made x) d l h).0 in let one = added_by (after st log) x.event ∙ ap (λ (c : Bool). if c then 1 else 0) is in inr (is, omega (arith, more, one))
    go false is = let more = (lengths st log (Made x) d l h).0 in let none = added_by (after st log) x.event ∙ ap (λ (c : Bool). if c then 1 else 0) is in inl (omega (arith, more, none))

-- none of these keys is of a block's values
abbrev pub AllFree : List (ℕ × ℕ) → Type 0
AllFree [] = Unit {0}
AllFree (b ∷ births) = ((b.0 == blocks) ≡ false) × AllFree births

of_event_below : (st : State) (event : Event) → AllBelow kinds (births st event)
of_event_below st event = go (makes_slot st event)
  where
    go : (b : Bool) → AllBelow kinds (if b then of_next_slot st else [])
    go true = (omega arith, (omega arith, tt))
    go false = tt

-- no key of a block comes with an entry
of_event_free : (st : State) (event : Event) → AllFree (births st event)
of_event_free st event = go (makes_slot st event)
  where
    go : (b : Bool) → AllFree (if b then of_next_slot st else [])
    go true = (refl, (refl, tt))
    go false = tt

pub births_free : (st : State) (e : Entry) → AllFree (births_by st e)
births_free st (Made x) = of_event_free st x.event
births_free st (Used u) = tt

pub births_below : (st : State) (e : Entry) → AllBelow kinds (births_by st e)
births_below st (Made x) = of_event_below st x.event
births_below st (Used u) = tt
