-- A step of a walk from block to block: the block with which the next batch waited, and the first block of that batch, are those of values
-- that were named, so their headers are found by their numbers.
use Rattle.std.proofs.Common.{◌≡◌, ℕ, zero, suc, ◌+◌, ◌-◌, ◌<◌, ◌≤◌, true, List, [], ◌∷◌, ◌++◌, length, Option, Some, append-nil, sym, refl, ◌∙◌, ap, subst, ◌⊎◌, inl, inr, arith}
use Rattle.std.proofs.Math.Bool.{Bool-set}
use Rattle.std.proofs.lemmas.Bool.{cases_lt}
use Rattle.std.proofs.lemmas.List.{get_or-set_same, get_or_past}
use Rattle.std.specs.List.{Contains}
use Rattle.std.specs.Prelude.{slice_index_or}
use mathlib.Core.List.{IsPrefix}
use base.Growing.{prefix_trans}
use Rattle.seize_machine.specs.Machine.State.{State, Progress, Place, Rest, Slot, are_distinct, has, linked_values, no_slot, slot_at}
use Rattle.seize_machine.specs.Machine.Event.{Hand}
use Rattle.seize_machine.specs.Machine.Next.{are_fresh, next, slot_set}
use Rattle.seize_machine.specs.declared.machine.event.Answer.{Answer}
use Rattle.seize_machine.specs.declared.machine.event.Answer.TheVariants.{Handed}
use Rattle.seize_machine.proofs.Facts.{Stands, Step, next_of, some_is, step_of}
use Rattle.seize_book.specs.Adding.{deed_with_words}
use Rattle.seize_machine.specs.Machine.Laws.{Walks, walk_of}
use Rattle.seize_book.specs.Blocks.{Plan, block_for, block_number, front_of, no_plan, plans}
use Rattle.seize_book.specs.Book.{IsLegalList, after, slots}
use Rattle.seize_book.specs.Private.{is_one}
use Rattle.seize_book.specs.declared.book.keys.Keys.{Keys}
use Rattle.seize_book.specs.Chains.{first_field, insertion_value}
use Rattle.seize_words.specs.Chunks.{IsHeaderOf, header_home}
use Rattle.seize_words.specs.Counts.{home}
use Rattle.seize_book.specs.Entry.{Deed, Entry, Made}
use Rattle.seize_words.specs.Headers.{IsFrontBlock, Passes}
use Rattle.seize_book.specs.Homes.{IsSound, home_of}
use Rattle.seize_book.specs.Homesteads.{HasNumber, state_seen}
use Rattle.seize_book.specs.Passes.{LooksOn}
use Rattle.seize_book.specs.Slots.{AddsDeed, IsKeyOfBook, IsStill, hands_next, own_list, slot_number, slot_of, start_of}
use Rattle.seize_book.specs.Loans.{AllCarryOne}
use Rattle.seize_book.specs.Tokens.{IsSole, Name, start}
use Rattle.seize_words.specs.Walks.{IsAtBatch, Knows, word_for}
use Rattle.seize_book.specs.declared.book.pass.Pass.{Pass}
use Rattle.seize_book.specs.declared.book.slot_key.SlotKey.{SlotKey}
use Rattle.seize_words.specs.declared.chunk.Header.{Header}
use Rattle.seize_words.proofs.Chunked.{named_seen}
use Rattle.seize_words.proofs.Finds.{IsLiving, front_living, walked_living}
use Rattle.seize_book.proofs.Facts.{soon_named, block_stays, legal_prefix, marked_after, same_twice, slots_in, walks_marked, named_later}

-- a slot's key is its keys
pub same_key : (key key' : SlotKey) → IsStill key key' → key' ≡ key
same_key key key' still = subst (λ (k : Keys). (one : is_one slots k.held ≡ true) → make k one ≡ key) (sym still) (λ one. ap (make key.keys) (Bool-set (is_one slots key.keys.held) true one key.one)) key'.one
  where
    make : (k : Keys) → is_one slots k.held ≡ true → SlotKey
    make k one = record { keys = k; one = one }

-- what the first field showed to a key that knew the same
pub front_shown : (key key' : SlotKey) → IsStill key key' → (f front : ℕ) → ((w : Passes first_field f key') → IsFrontBlock key' w.batch front) → (word : ℕ) (at : IsAtBatch key word)
    → f ≡ first_field (home_of (insertion_value (plans (start_of key) (own_list key)) at.batch (slot_number key))) → IsFrontBlock key at.batch front
front_shown key key' still f front shows word at its =
    subst (λ (k : SlotKey). (w : Passes first_field f k) → IsFrontBlock k w.batch front) (same_key key key' still) shows
    (record { batch = at.batch; walk = at.walk; queue = at.queue; walking = at.walking; its = its })

-- two looks are one
pub looks_twice : (a b c : Pass) → LooksOn a b → LooksOn b c → LooksOn a c
looks_twice a b c one two = record {
  same = same_twice a b c one.same two.same;
  none_made = two.none_made ∙ one.none_made;
  grows = prefix_trans a.seen b.seen c.seen one.grows two.grows;
  alone = λ s. two.alone (subst IsSole (sym one.same.1) s) ∙ one.alone s;
  legal = subst (λ (n : Name). IsLegalList (start n) c.seen) one.same.0 two.legal;
  sound = subst (λ (n : Name). IsSound (after (start n) c.seen)) one.same.0 two.sound;
  lent = subst (λ (n : Name). AllCarryOne (after (start n) c.seen).named) one.same.0 two.lent;
  distinct = one.distinct;
}

-- three looks are one
pub looks_thrice : (a b c d : Pass) → LooksOn a b → LooksOn b c → LooksOn c d → LooksOn a d
looks_thrice a b c d one two three = looks_twice a c d (looks_twice a b c one two) three

-- after a look the pass has still seen what the key knows
pub knows_still : (key : SlotKey) (pass pass' : Pass) → Knows key pass → LooksOn pass pass' → Knows key pass'
knows_still key pass pass' knows looks = record {
  seen = prefix_trans (own_list key) pass.seen pass'.seen knows.seen looks.grows;
  legal = subst (λ (n : Name). IsLegalList (start n) pass'.seen) (sym looks.same.0) looks.legal;
  distinct = subst (λ (n : Name). are_distinct (linked_values n.links) ≡ true) (sym looks.same.0) looks.distinct;
}

module _ (key : SlotKey) (pass : Pass) (book : IsKeyOfBook key pass) (knows : Knows key pass) where
  abbrev st : State
  st = start_of key

  abbrev own : List Entry
  own = own_list key

  legal : IsLegalList st pass.seen
  legal = subst (λ (n : Name). IsLegalList (start n) pass.seen) (sym book) knows.legal

  distinct : are_distinct (linked_values key.keys.name.links) ≡ true
  distinct = subst (λ (n : Name). are_distinct (linked_values n.links) ≡ true) (sym book) knows.distinct

  its_own : IsLegalList st own
  its_own = legal_prefix st own pass.seen knows.seen legal

  living_named : (v : ℕ) → IsLiving v (after st own) → has v (state_seen pass).named ≡ true
  living_named v living = subst (λ (n : Name). has v (after (start n) pass.seen).named ≡ true) book (named_later st own pass.seen v knows.seen legal living.0)

  -- a value that its call is about to hand was named
  pub handing_named : (v : ℕ) → hands_next (slot_of key) ≡ Some v → has v (state_seen pass).named ≡ true
  handing_named v soon =
      subst (λ (n : Name). has v (after (start n) pass.seen).named ≡ true) book
      (named_later st own pass.seen v knows.seen legal (soon_named key.keys.name own (slot_number key) v distinct its_own soon))

  -- so was the first value of a batch that is held
  -- a batch that the slot's call walks
  module _ (b : ℕ) (walks : Walks (after st own) (slot_number key) b) where
    abbrev pub its_value : ℕ
    its_value = insertion_value (plans st own) b (slot_number key)

    pub value_named : has its_value (state_seen pass).named ≡ true
    value_named = living_named its_value (walked_living key.keys.name own distinct its_own b (slot_number key) walks)

    pub front_named : (v : ℕ) → front_of st own b ≡ Some v → has v (state_seen pass).named ≡ true
    front_named v front = living_named v (front_living key.keys.name own distinct its_own b v (slot_number key) walks front)

    -- it was detached
    pub walked_there : b < length (plans st own)
    walked_there = go (cases_lt b (length (plans st own)))
      where
        none : (ps : List Plan) (k : ℕ) → length ps ≤ k → slice_index_or ps k no_plan ≡ no_plan
        none [] k le = refl
        none (p ∷ ps) zero le = absurd (omega (arith, le))
        none (p ∷ ps) (suc k) le = none ps k (omega (arith, le))

        serves : Contains (slots_in (plans st own) b) (slot_number key)
        serves = walks_marked (after st own) (plans st own) (slot_number key) b (marked_after key.keys.name own distinct its_own) walks

        go : (b < length (plans st own)) ⊎ (length (plans st own) ≤ b) → b < length (plans st own)
        go (inl below) = below
        go (inr past) = absurd (let there : Contains [] (slot_number key) = subst (λ (p : Plan). Contains p.slots (slot_number key)) (none (plans st own) b past) serves in let within : there.0 < 0 = there.1 in omega (arith, within))

-- the next batch of a walk
module _ (key : SlotKey) (pass : Pass) (word : ℕ) (book : IsKeyOfBook key pass) (knows : Knows key pass) (at : IsAtBatch key word) where
  pub at_walks : Walks (after (start_of key) (own_list key)) (slot_number key) at.batch
  at_walks = subst (λ (o : Option Progress). Contains (walk_of o) at.batch) (sym at.walking) (zero, omega arith, refl)

  less : (k : ℕ) → k + 2 - 2 ≡ k
  less k = omega arith

  at_block : block_number (its_value key pass book knows at.batch at_walks) ≡ word - 2
  at_block =
      let leads : word ≡ block_for (start_of key) (own_list key) at.batch (slot_number key) + 2 = at.leads in
      sym (ap (λ (k : ℕ). k - 2) leads ∙ less (block_for (start_of key) (own_list key) at.batch (slot_number key)))

  pub at_number : HasNumber (word - 2) (state_seen pass)
  at_number = (its_value key pass book knows at.batch at_walks, value_named key pass book knows at.batch at_walks, at_block)

  -- the header that is found there is that of the block with which it waited
  pub at_header : (pass' : Pass) (header : Header) → LooksOn pass pass' → IsHeaderOf header (word - 2) pass' → home_of (its_value key pass book knows at.batch at_walks) ≡ header_home header
  at_header pass' header looks is =
      is.1 (its_value key pass book knows at.batch at_walks)
      (named_seen pass pass' (its_value key pass book knows at.batch at_walks) looks (value_named key pass book knows at.batch at_walks)) at_block

  -- so its fields may be loaded
  pub at_field : (which : ℕ → ℕ) (f : ℕ) (header : Header) → home_of (its_value key pass book knows at.batch at_walks) ≡ header_home header → f ≡ which (home header.count)
      → f ≡ which (home_of (its_value key pass book knows at.batch at_walks))
  at_field which f header its is = is ∙ ap which (sym its)

  pub front_number : (front : ℕ) → IsFrontBlock key at.batch front → HasNumber front (state_seen pass)
  front_number front is = (is.0, front_named key pass book knows at.batch at_walks is.0 is.1, sym is.2)

  -- the header that is found by the first field's number is that of the batch's first block
  pub front_home : (front : ℕ) (is : IsFrontBlock key at.batch front) (pass' : Pass) (header : Header) → LooksOn pass pass' → IsHeaderOf header front pass' → home_of is.0 ≡ home header.count
  front_home front is pass' header looks found =
      found.1 is.0 (named_seen pass pass' is.0 looks (front_named key pass book knows at.batch at_walks is.0 is.1)) (sym is.2)

  -- the rest of the walk is walked as well
  pub rest_walks : (b : ℕ) → Contains at.walk b → Walks (after (start_of key) (own_list key)) (slot_number key) b
  rest_walks b there = subst (λ (o : Option Progress). Contains (walk_of o) b) (sym at.walking) (suc there.0, omega (arith, there.1), there.2)

-- the word of the rest of a walk is the same by what the key knows later
pub word_stays : (key key' : SlotKey) (pass : Pass) (batch : ℕ) (walk queue : List ℕ) → IsKeyOfBook key pass → Knows key pass → (key'.keys.name ≡ key.keys.name) → (slot_number key' ≡ slot_number key)
    → IsPrefix (own_list key) (own_list key') → (walks : (b : ℕ) → Contains walk b → Walks (after (start_of key) (own_list key)) (slot_number key) b)
    → word_for key walk ≡ word_for key' walk
word_stays key key' pass batch [] queue book knows name slot grows walks = refl
word_stays key key' pass batch (b ∷ walk) queue book knows name slot grows walks =
    let there = walked_there key pass book knows b (walks b (zero, omega arith, refl)) in
    ap (λ (k : ℕ). k + 2) (block_stays (start_of key) (own_list key) (own_list key') b (slot_number key) grows there
    ∙ ap (λ (t : Name × ℕ). block_for (start t.0) (own_list key') b t.1) (λ j. (sym name j, sym slot j)))

-- A walk goes on after events of the slot that leave it as it is: after values were handed that a batch of it gave up.

-- what the key knows after an event, the pass has seen
pub knows_noted : (key key' : SlotKey) (pass pass' : Pass) (e : Deed) → AddsDeed key pass key' pass' e → Knows key' pass'
knows_noted key key' pass pass' e notes =
    let noted = notes.2.0 in
    record {
      seen = subst (λ (own : List Entry). IsPrefix own pass'.seen) (sym notes.1.2) ([], append-nil pass'.seen);
      legal = subst (λ (n : Name). IsLegalList (start n) pass'.seen) (sym notes.0.0) noted.legal;
      distinct = subst (λ (n : Name). are_distinct (linked_values n.links) ≡ true) (sym notes.0.0) noted.distinct;
    }

-- the word of the walk is the same
pub walk_kept : (key key' : SlotKey) (pass pass' : Pass) (e : Deed) (given walk queue : List ℕ) → IsKeyOfBook key pass → Knows key pass → AddsDeed key pass key' pass' e
    → (slot_of key).call ≡ Some (record { place = Rest given walk; queue = queue }) → word_for key walk ≡ word_for key' walk
walk_kept key key' pass pass' e given walk queue book knows notes stands =
    let noted = notes.2.0 in
    let grows : IsPrefix (own_list key) (own_list key') =
    subst (IsPrefix (own_list key)) (sym notes.1.2) (prefix_trans (own_list key) noted.before pass'.seen notes.2.1.knew (Made e ∷ [], sym noted.appended)) in
    word_stays key key' pass 0 walk queue book knows notes.1.0 notes.1.1 grows (λ b there. subst (λ (o : Option Progress). Contains (walk_of o) b) (sym stands) there)

-- a slot with a call is one of those made
there : (st : State) (s : ℕ) (place : Place) (queue : List ℕ) → Stands st s place queue → s < length st.slots
there st s place queue stands = go (cases_lt s (length st.slots))
  where
    go : (s < length st.slots) ⊎ (length st.slots ≤ s) → s < length st.slots
    go (inl within) = within
    go (inr past) = absurd (let none : Option.None ≡ Some (record { place = place; queue = queue }) = sym (ap (λ (slot : Slot). slot.call) (get_or_past st.slots s no_slot past)) ∙ stands in cc)

fresh_of : (size : ℕ) (st : State) (s : ℕ) (puts : List ℕ) (d : State × Answer) → Step size st (Hand s puts) d → are_fresh st.named puts ≡ true
fresh_of size _ _ _ _ (Step.handed s v puts given walk queue stands fresh) = fresh

-- a value that goes to its reclaimer leaves the walk, and those that its reclaimer puts join the queue
pub hand_leaves : (key key' : SlotKey) (pass pass' : Pass) (puts kepts given walk queue : List ℕ) (v : ℕ) → AddsDeed key pass key' pass' (deed_with_words pass (Hand (slot_number key) puts) kepts)
    → (slot_of key).call ≡ Some (record { place = Rest (v ∷ given) walk; queue = queue }) → (slot_of key').call ≡ Some (record { place = Rest given walk; queue = queue ++ puts })
hand_leaves key key' pass pass' puts kepts given walk queue v notes stands =
    let s = slot_number key in let noted = notes.2.0 in let moves = notes.2.1 in let st : State = after (start_of key) noted.before in
    let here : Stands st s (Rest (v ∷ given) walk) queue = ap (λ (slot : Slot). slot.call) moves.was ∙ stands in
    let fresh = fresh_of pass.size st s puts (noted.later, noted.answer) (step_of _ _ _ _ moves.legal) in
    let slot : Slot = record (slot_at st s) { call = Some (record { place = Rest given walk; queue = queue ++ puts }) } in
    let d : State × Answer = (record (slot_set st s slot) { gone = st.gone ++ v ∷ []; named = st.named ++ puts }, Handed v) in
    let is : next pass.size st (Hand s puts) ≡ Some d = next_of pass.size st (Hand s puts) d (Step.handed s v puts given walk queue here fresh) in
    ap (λ (z : Slot). z.call)
    (moves.is ∙ ap (λ (x : State × Answer). slot_at x.0 s) (some_is _ _ (sym moves.legal ∙ is)) ∙ get_or-set_same st.slots s slot no_slot (there st s (Rest (v ∷ given) walk) queue here))
