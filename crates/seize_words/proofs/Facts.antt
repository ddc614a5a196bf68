-- What other crates may build on. All else in `proofs` is no interface, and may change.
use Rattle.std.proofs.Common.{◌≡◌, ◌≢◌, ℕ, ◌+◌, ◌-◌, ◌<◌, ◌≤◌, Bool, true, false, if◌then◌else◌, List, [], ◌∷◌, ◌++◌, Option, None, Some, refl, sym, ap, ◌∙◌, subst, append-nil, length, unwrap_or, arith}
use Rattle.std.specs.Prelude.{slice_index_or}
use base.Growing.{prefix_trans}
use mathlib.Core.List.{IsPrefix}
use Rattle.seize_machine.specs.Machine.State.{Mark, State, are_distinct, has, linked_values, slot_at}
use Rattle.seize_machine.specs.Machine.Event.{Event}
use Rattle.seize_machine.specs.Machine.History.{IsReached, first_or_none}
use Rattle.seize_machine.specs.Machine.Next.{next}
use Rattle.seize_machine.specs.declared.machine.event.Answer.{Answer}
use Rattle.seize_machine.proofs.Facts.{linked_named, note_within, some_is}
use Rattle.seize_book.specs.Adding.{private}
use Rattle.seize_book.specs.Blocks.{Plan, block_for, block_in, block_number, front_of, link_word, list_word, no_plan, plan_value, planned_by, plans}
use Rattle.seize_book.specs.Book.{IsLegalList, after, mine}
use Rattle.seize_book.specs.Chains.{front_block, insertion_value}
use Rattle.seize_book.specs.Entry.{Deed, Entry, Made, Used}
use Rattle.seize_words.specs.Activations.{with_units}
use Rattle.seize_words.specs.Chunks.{IsFoundAt}
use Rattle.seize_words.specs.Joined.{IsInAt}
use Rattle.seize_words.specs.Headers.{Stores, Uses, using}
use Rattle.seize_words.specs.Heads.{IsTrying}
use Rattle.seize_book.specs.Homes.{home_of}
use Rattle.seize_book.specs.Homesteads.{state_seen}
use Rattle.seize_book.specs.Laws.{life, starts}
use Rattle.seize_words.specs.LinkWords.{ActsOnLink, held_before, link_number}
use Rattle.seize_book.specs.Passes.{IsSamePass, LooksOn, events_by, events_in, mine_of}
use Rattle.seize_book.specs.Slots.{AddsDeed, IsKeyOfBook, Moves, life_of, own_list, slot_number, slot_of, start_of}
use Rattle.seize_book.specs.Loans.{CarriesOne}
use Rattle.seize_book.specs.Tokens.{AddsEntry, Name, start}
use Rattle.seize_words.specs.Totals.{slots_seen}
use Rattle.seize_book.proofs.Facts.{front_there, legal_front, reached_after, AllLess, blocks_stay, legal_prefix, plan_stays, plans_append, plans_long, saw_there, tried_there}
use Rattle.seize_words.proofs.Heads.{slots_grow}
pub use Rattle.seize_book.proofs.Facts.{after_used}
-- the keys of values that were never named, put together, and what the key of one knows that was put
pub use Rattle.seize_book.proofs.Facts.{none_new}
pub use Rattle.seize_book.proofs.Facts.{plans_used}
-- a number may be taken again, or the next one, by which are in use
pub use Rattle.seize_book.proofs.Facts.{may_take_by}
-- a count's word is 0 just where the count is
pub use Rattle.seize_book.proofs.Facts.{word_zero}
-- what a call knows that has still to insert its batch
pub use Rattle.seize_words.proofs.Inserts.{detached_named, looked_named, own_reached}
-- what a sight shows by a value's name is what was lent with the value
pub use Rattle.seize_words.proofs.Contents.{is_lent, same_code, same_content}
-- what is known of a value that a slot's call is about to hand, and when it was handed: what was lent with it comes back in between, and then
-- the key may be settled
pub use Rattle.seize_book.proofs.Facts.{hands_gone, hands_soon, settles_after, soon_named}
pub use Rattle.seize_book.proofs.Renames.{follows_value}
pub use Rattle.seize_words.proofs.Chunked.{named_seen, settles_block, settles_hollow, takes_block}
-- keys lead on: where there are none, and where the last one's note says the next one's word; so the next block is found, and the keys are
-- closed where it says none
pub use Rattle.seize_book.proofs.Facts.{has_noted, last_closes, none_closed, one_leads}
pub use Rattle.seize_book.proofs.Facts.{closed_after, parted_joined}
pub use Rattle.seize_book.proofs.Facts.{noted_one, one_label, others_closed, others_know, own_is, unchanged_last, unchanged_value}
pub use Rattle.seize_book.proofs.Facts.{labels_append}
-- what the list says is kept of values: of keys that are put together or apart, and of those that were retired or put
pub use Rattle.seize_book.proofs.Facts.{alike_told, all_of_told, all_told_append, all_told_grow, all_told_later, all_told_renewed, both_told, first_told, joined_told, pushed_told, put_told, retired_told, told_apart, told_later}
-- and there is but one such word of a value in a legal list
pub use Rattle.seize_book.proofs.Facts.{told_once}
-- the blocks of a store have cells for notes, and what was noted there is what is read
pub use Rattle.seize_words.proofs.Noted.{noted_back, same_note}
-- with a value that was named something is lent
pub use Rattle.seize_book.proofs.Facts.{named_lent}
-- a value that was named stays so, and one that was reclaimed
pub use Rattle.seize_book.proofs.Facts.{gone_later, named_later}
-- what was found in a link stands while its activation lasts, and so a won exchange takes out what it takes the link to hold
pub use Rattle.seize_words.proofs.Standing.{found_later, found_stands, was_found, word_back}
-- looks, a slot's key, and the walk of its call, in what the key knows later
pub use Rattle.seize_words.proofs.Traversals.{hand_leaves, handing_named, knows_noted, knows_still, looks_twice, same_key, walk_kept, word_stays}
use Rattle.seize_words.proofs.Stepped.{life_push}
use Rattle.seize_words.specs.declared.activation.Activation.{Activation}
use Rattle.seize_book.specs.declared.book.pass.Pass.{Pass}
use Rattle.seize_book.specs.declared.book.slot_key.SlotKey.{SlotKey}
use Rattle.seize_words.specs.declared.glimpse.Glimpse.{Glimpse}
use Rattle.seize_words.specs.declared.link.Link.{Link}

-- what was made with a pass has grown by the event and its answer
deed_grew : (pass pass' : Pass) (d : Deed) → IsSamePass pass pass' → (noted : AddsEntry pass.name pass.id pass.seen pass'.seen (Made d)) → mine_of pass' ≡ mine_of pass ++ (Made d, noted.answer) ∷ []
deed_grew pass pass' d same noted =
    ap (λ (n : Name). mine (start n) pass'.id pass'.seen) same.0 ∙ ap (λ (p : ℕ). mine (start pass.name) p pass'.seen) same.1 ∙ noted.made

-- and so have the events made with it, while a use of a field leaves them as they were

events_append : (xs ys : List (Entry × Answer)) → events_in (xs ++ ys) ≡ events_in xs ++ events_in ys
events_append [] ys = refl
events_append ((Made d, answer) ∷ xs) ys = ap (λ (made : List (Deed × Answer)). (d, answer) ∷ made) (events_append xs ys)
events_append ((Used u, answer) ∷ xs) ys = events_append xs ys

pub deeds_grew : (pass pass' : Pass) (d : Deed) → IsSamePass pass pass' → (noted : AddsEntry pass.name pass.id pass.seen pass'.seen (Made d)) → events_by pass' ≡ events_by pass ++ (d, noted.answer) ∷ []
deeds_grew pass pass' d same noted = ap events_in (deed_grew pass pass' d same noted) ∙ events_append (mine_of pass) ((Made d, noted.answer) ∷ [])

pub events_grew : (pass pass' : Pass) (event : Event) → IsSamePass pass pass' → (noted : AddsEntry pass.name pass.id pass.seen pass'.seen (Made (private pass event)))
    → events_by pass' ≡ events_by pass ++ (private pass event, noted.answer) ∷ []
events_grew pass pass' event same noted = deeds_grew pass pass' (private pass event) same noted

pub events_same : (key key' : SlotKey) (pass pass' : Pass) (f v : ℕ) → Uses key pass key' pass' f v → events_by pass' ≡ events_by pass
events_same key key' pass pass' f v uses =
    ap (λ (n : Name). events_in (mine (start n) pass'.id pass'.seen)) uses.same.0 ∙ ap (λ (p : ℕ). events_in (mine (start pass.name) p pass'.seen)) uses.same.1
    ∙ ap events_in uses.noted.made ∙ events_append (mine_of pass) ((using key pass f v, uses.noted.answer) ∷ []) ∙ append-nil (events_by pass)

-- the slot's record after an event, where this is what the machine makes of the event
pub moved : (key key' : SlotKey) (log : List Entry) (e : Deed) (later : State) (answer : Answer) → Moves key key' log e later answer
    → (d : State × Answer) → next e.size (after (start_of key) log) e.event ≡ Some d → slot_of key' ≡ slot_at d.0 (slot_number key)
moved key key' log e later answer moves d is = moves.is ∙ ap (λ (x : State × Answer). slot_at x.0 (slot_number key)) (some_is _ _ (sym moves.legal ∙ is))

-- and its answer
pub answered : (key key' : SlotKey) (log : List Entry) (e : Deed) (later : State) (answer : Answer) → Moves key key' log e later answer
    → (d : State × Answer) → next e.size (after (start_of key) log) e.event ≡ Some d → answer ≡ d.1
answered key key' log e later answer moves d is = ap (λ (x : State × Answer). x.1) (some_is _ _ (sym moves.legal ∙ is))

-- an event that begins no activation leaves the slot's last one as it was
pub life_kept : (key key' : SlotKey) (pass pass' : Pass) (e : Deed) → AddsDeed key pass key' pass' e → starts (slot_number key) e.event ≡ false → life_of key' ≡ life_of key
life_kept key key' pass pass' e noted none =
    let n = noted.2.0 in
    ap (λ (k : ℕ). life k (own_list key')) noted.1.1 ∙ ap (life (slot_number key)) (noted.1.2 ∙ n.appended) ∙ life_push (slot_number key) n.before e ∙ ap (λ (b : Bool). if b then e.life else life (slot_number key) n.before) none ∙ noted.2.1.lived

-- the plans of the batches detached, after one event more
pub planned_after : (st : State) (log : List Entry) (e : Deed) → plans st (log ++ Made e ∷ []) ≡ plans st log ++ planned_by (after st log) e.event
planned_after st log e = plans_append st log (Made e ∷ []) ∙ ap (λ (ps : List Plan). plans st log ++ ps) (append-nil (planned_by (after st log) e.event))

-- the plan of a batch that was detached, and so its front, stays in all that the slot's key knows later
pub plan_kept : (key key' : SlotKey) (pass pass' : Pass) (e : Deed) (b v : ℕ) → AddsDeed key pass key' pass' e → front_of (start_of key) (own_list key) b ≡ Some v
    → slice_index_or (plans (start_of key') (own_list key')) b no_plan ≡ slice_index_or (plans (start_of key) (own_list key)) b no_plan
plan_kept key key' pass pass' e b v noted front =
    let n = noted.2.0 in let m = noted.2.1 in
    let grows : IsPrefix (own_list key) (own_list key') = prefix_trans (own_list key) n.before (own_list key') m.knew (Made e ∷ [], sym (noted.1.2 ∙ n.appended)) in
    ap (λ (x : Name). slice_index_or (plans (start x) (own_list key')) b no_plan) noted.1.0
    ∙ sym (plan_stays (start_of key) (own_list key) (own_list key') b grows (front_there (start_of key) (own_list key) b v front))

-- what a pass has seen begins with what it had seen before an event
pub seen_grows : (n : Name) (p : ℕ) (seen seen' : List Entry) (e : Entry) → AddsEntry n p seen seen' e → IsPrefix seen seen'
seen_grows n p seen seen' e noted = prefix_trans seen noted.before seen' noted.grows (e ∷ [], sym noted.appended)

-- A use of a field leaves a call where it was, which is about to insert its batch: at the same head, after the same word, with the same block.
module _ (key key' : SlotKey) (pass pass' : Pass) (f v : ℕ) (uses : Uses key pass key' pass' f v) (book : key.keys.name ≡ pass.name) where
  pub grows : IsPrefix (own_list key) (own_list key')
  grows = prefix_trans (own_list key) uses.noted.before (own_list key') uses.knew (using key pass f v ∷ [], sym (uses.seen_by.2 ∙ uses.noted.appended))

  legal_own : IsLegalList (start_of key) (own_list key)
  legal_own =
      legal_prefix (start_of key) (own_list key) (own_list key') grows
      (subst (λ (t : Name × List Entry). IsLegalList (start t.0) t.1) (λ i. (sym book i, sym uses.seen_by.2 i)) uses.noted.legal)

  pub reached_own : IsReached (after (start_of key) (own_list key))
  reached_own = reached_after key.keys.name (own_list key) (ap (λ (n : Name). are_distinct (linked_values n.links)) book ∙ uses.noted.distinct) legal_own

  pub planned_own : length (plans (start_of key) (own_list key)) ≡ length (after (start_of key) (own_list key)).batches
  planned_own = plans_long key.keys.name (own_list key) legal_own

  -- the plan of a batch that was detached
  pub plan_same : (b : ℕ) → b < length (after (start_of key) (own_list key)).batches
      → slice_index_or (plans (start_of key') (own_list key')) b no_plan ≡ slice_index_or (plans (start_of key) (own_list key)) b no_plan
  plan_same b there =
      ap (λ (n : Name). slice_index_or (plans (start n) (own_list key')) b no_plan) uses.seen_by.0
      ∙ sym (plan_stays (start_of key) (own_list key) (own_list key') b grows (subst (λ (k : ℕ). b < k) (sym planned_own) there))

  module _ (m seen block : ℕ) (t : IsTrying (start_of key) (slot_number key) (own_list key) m seen block) where
    pub tried : t.batch < length (after (start_of key) (own_list key)).batches
    tried = tried_there (after (start_of key) (own_list key)) (slot_number key) t.batch t.won m t.later t.saw t.queue reached_own t.trying

    abbrev pub still_trying : IsTrying (start_of key') (slot_number key') (own_list key') m seen block
    still_trying = record {
      batch = t.batch;
      won = t.won;
      later = t.later;
      saw = t.saw;
      queue = t.queue;
      trying = ap (λ slot. slot.call) uses.slot ∙ t.trying;
      is_seen =
          t.is_seen
          ∙ blocks_stay key.keys.name (own_list key) (own_list key') m t.saw grows
          (subst (λ (k : ℕ). AllLess k t.saw) (sym planned_own) (saw_there (after (start_of key) (own_list key)) reached_own (slot_number key) t.batch t.won m t.later t.saw t.queue t.trying))
          ∙ ap (λ (n : Name). list_word (λ b. block_for (start n) (own_list key') b m) t.saw) (sym uses.seen_by.0);
      is_block = t.is_block ∙ ap (λ (plan : Plan). block_in plan m) (sym (plan_same t.batch tried));
    }

    -- and the number of its batch's first block stays
    pub front_same : front_block (plans (start_of key') (own_list key')) t.batch ≡ front_block (plans (start_of key) (own_list key)) t.batch
    front_same = ap (λ (plan : Plan). block_number (unwrap_or (first_or_none plan.values) 0)) (plan_same t.batch tried)

    -- so do its fields
    pub field_same : (which : ℕ → ℕ) → which (home_of (insertion_value (plans (start_of key') (own_list key')) t.batch m)) ≡ which (home_of (insertion_value (plans (start_of key) (own_list key)) t.batch m))
    field_same which = ap (λ (plan : Plan). which (home_of (plan_value m plan.slots plan.values))) (plan_same t.batch tried)

  -- the fields in which it may store are the same
  abbrev pub still_stores : (which : ℕ → ℕ) (g : ℕ) → Stores which g key → Stores which g key'
  still_stores which g w =
      let st = start_of key in let own = own_list key in
      let t : IsTrying st (slot_number key) own w.at (list_word (λ b. block_for st own b w.at) w.saw) (block_for st own w.batch w.at) =
      record { batch = w.batch; won = w.won; later = w.later; saw = w.saw; queue = w.queue; trying = w.trying; is_seen = refl; is_block = refl } in
      record {
        batch = w.batch;
        won = w.won;
        at = w.at;
        later = w.later;
        saw = w.saw;
        queue = w.queue;
        trying = ap (λ slot. slot.call) uses.slot ∙ w.trying;
        its = w.its ∙ sym (field_same w.at _ _ t which);
      }

  -- the plan of a batch that was detached, and so its front, stays
  pub plan_used : (b v : ℕ) → front_of (start_of key) (own_list key) b ≡ Some v
      → slice_index_or (plans (start_of key') (own_list key')) b no_plan ≡ slice_index_or (plans (start_of key) (own_list key)) b no_plan
  plan_used b v front =
      ap (λ (n : Name). slice_index_or (plans (start n) (own_list key')) b no_plan) uses.seen_by.0
      ∙ sym (plan_stays (start_of key) (own_list key) (own_list key') b grows (front_there (start_of key) (own_list key) b v front))

-- Slots are never taken away, so a pass that has seen more has seen no fewer of them.
pub more_slots : (n : Name) (seen seen' : List Entry) → IsPrefix seen seen' → IsLegalList (start n) seen' → length (after (start n) seen).slots ≤ length (after (start n) seen').slots
more_slots n = slots_grow (start n)

pub more_seen : (pass pass' : Pass) → LooksOn pass pass' → slots_seen pass ≤ slots_seen pass'
more_seen pass pass' looks =
    subst (λ (n : Name). slots_seen pass ≤ length (after (start n) pass'.seen).slots) (sym looks.same.0) (more_slots pass.name pass.seen pass'.seen looks.grows looks.legal)

-- A slot's call that marks, as its key knows, has to read no more heads than a pass of its book has seen slots that has seen what the key
-- knows.
pub note_seen : (key : SlotKey) (pass : Pass) (next note : ℕ) (marks queue : List ℕ) → IsKeyOfBook key pass → IsPrefix (own_list key) pass.seen → IsLegalList (start pass.name) pass.seen
    → are_distinct (linked_values pass.name.links) ≡ true → (slot_of key).call ≡ Some (record { place = Mark next note marks; queue = queue }) → note ≤ slots_seen pass
note_seen key pass next note marks queue book grows legal distinct marking =
    let n = pass.name in let own = own_list key in
    let own_legal = legal_prefix (start n) own pass.seen grows legal in
    let here : (slot_at (after (start n) own) (slot_number key)).call ≡ Some (record { place = Mark next note marks; queue = queue }) =
    subst (λ (z : Name). (slot_at (after (start z) own) (slot_number key)).call ≡ Some (record { place = Mark next note marks; queue = queue })) book marking in
    let then_there : note ≤ length (after (start n) own).slots = note_within (after (start n) own) (reached_after n own distinct own_legal) (slot_number key) next note marks queue here in
    omega (arith, then_there, more_slots n own pass.seen grows legal)

-- A value that was found in a link was named, as the pass has seen by then.
module _ (link : Link) (a : Activation) (pass pass' : Pass) (event : Event) (v w : ℕ) (t : ActsOnLink link a pass pass' event v) (is : held_before t ≡ Some w) where
  named_now : has w (after (start pass.name) pass'.seen).named ≡ true
  named_now =
      let st : State = start pass.name in let noted = t.noted in let e : Entry = Made (private pass event) in
      let appended : pass'.seen ≡ t.before ++ e ∷ [] = noted.appended ∙ ap (λ (log : List Entry). log ++ e ∷ []) t.is_before in
      let legal = legal_front st t.before e (subst (IsLegalList st) appended noted.legal) in
      let named = (linked_named (after st t.before) (reached_after pass.name t.before noted.distinct legal) (link_number link) w is).0 in
      named_later st t.before pass'.seen w (e ∷ [], sym appended) noted.legal named

  pub held_named : has w (state_seen pass').named ≡ true
  held_named = subst (λ (n : Name). has w (after (start n) pass'.seen).named ≡ true) (sym t.same.0) named_now

  -- and something is lent with it
  pub held_lent : CarriesOne w
  held_lent = t.noted.lent w (subst (λ (z : State). has w z.named ≡ true) t.noted.leads named_now)

-- so whoever has a glimpse of what the link held knows that it can be seen
pub glimpse_lent : (link : Link) (a : Activation) (pass pass' : Pass) (event : Event) (v w : ℕ) (glimpse : Glimpse) (t : ActsOnLink link a pass pass' event v) → glimpse.value ≡ held_before t → glimpse.value ≡ Some w → CarriesOne w
glimpse_lent link a pass pass' event v w glimpse t its is = held_lent link a pass pass' event v w t (sym its ∙ is)

-- and by which number, where the link's word was not 0: of a read, and of an exchange that was lost
pub glimpse_found : (link : Link) (a : Activation) (pass pass' : Pass) (event : Event) (v : ℕ) (glimpse : Glimpse) (t : ActsOnLink link a pass pass' event v) → glimpse.value ≡ held_before t → v ≢ 0
    → IsFoundAt glimpse.value (v - 1) pass'
glimpse_found link a pass pass' event v glimpse t its some = go (held_before t) refl
  where
    go : (o : Option ℕ) → held_before t ≡ o → IsFoundAt glimpse.value (v - 1) pass'
    go None is = absurd (some (t.found ∙ ap link_word is))
    go (Some w) is = record {
      value = w;
      is = its ∙ is;
      named = held_named link a pass pass' event v w t is;
      numbered = let shows : v ≡ block_number w + 1 = t.found ∙ ap link_word is in omega (arith, shows);
      lent = glimpse_lent link a pass pass' event v w glimpse t its (its ∙ is);
    }

-- What an activation may step on, each unit of it may.
pub unit_in : (a unit : Activation) (pass : Pass) (l n : ℕ) → unit ≡ with_units a n → IsInAt a pass l → IsInAt unit pass l
unit_in a unit pass l n is in_ = subst (λ (b : Activation). IsInAt b pass l) (sym is) in_
