-- The values of a batch go to their reclaimers, one after the other.
use Rattle.std.proofs.Common.{◌≡◌, ◌≢◌, ℕ, zero, suc, ◌-◌, true, List, [], ◌∷◌, ◌++◌, Some, None, refl, sym, ap, ◌∙◌, subst, append_assoc, append-nil, arith}
use Rattle.std.specs.List.{Contains}
use base.Stored.{Gv}
use Rattle.seize_machine.specs.Machine.State.{Rest}
use Rattle.seize_machine.specs.Machine.History.{first_or_none}
use Rattle.seize_machine.specs.Machine.Next.{handing_at, of_call}
use Rattle.seize_machine.specs.declared.machine.event.Answer.{Answer}
use Rattle.seize_machine.proofs.Facts.{and_true, eq_true, some_is}
use Rattle.seize_book.specs.Blocks.{block_number}
use Rattle.seize_book.specs.Book.{after, blocks}
use Rattle.seize_book.specs.Entry.{Deed, Entry}
use Rattle.seize_book.specs.Ledger.{HeldKey, with_list}
use Rattle.seize_book.specs.Linked.{are_joined, are_linked, leads_first, next_in}
use Rattle.seize_book.specs.Notes.{note_in}
use Rattle.seize_book.specs.Others.{IsLast, IsLastIn, IsValueOf, value_of}
use Rattle.seize_book.specs.Passes.{events_by}
use Rattle.seize_book.specs.Private.{is_one, labels_of, note_of}
use Rattle.seize_book.specs.Slots.{hands_next, own_list, slot_number, slot_of}
use Rattle.seize_book.specs.Tokens.{Name, start}
use Rattle.seize_book.specs.Values.{AreClosed, AreLast, Nexts, book_in, values_of}
use Rattle.seize_book.specs.declared.book.pass.Pass.{Pass}
use Rattle.seize_book.specs.declared.book.slot_key.SlotKey.{SlotKey}
use Rattle.seize_book.specs.declared.book.value_key.ValueKey.{ValueKey}
use Rattle.seize_book.specs.declared.book.value_keys.ValueKeys.{ValueKeys}
use Rattle.seize_calls.specs.Handing.{Had, Handings, HasHad, Queues, values_handed, values_put, words_put}
use Rattle.seize_book.specs.Kept.{kept_in, kepts_of}
use Rattle.seize_calls.specs.Walking.{ContinuesAndKnows, HandsAll, HandsOne, IsGiven, hands}
use Rattle.seize_calls.proofs.Batches.{kept_one, kepts, kepts_append}
use Rattle.seize_calls.proofs.Handed.{had_more, had_none, handed_append, put_append, queues_more, queues_none}
use Rattle.seize_words.proofs.Facts.{labels_append, one_label, others_closed, others_know, own_is}
use Rattle.seize_calls.proofs.Keeps.{keeps_none}
use Rattle.seize_calls.proofs.Strolls.{goes_twice, same_hands}

abbrev Keys : Type 0
Keys = List (HeldKey Entry)

-- The events of some, and of more.

hands_append : (pass : Pass) (s : ℕ) (one two : Handings) → hands pass s (one ++ two) ≡ hands pass s one ++ hands pass s two
hands_append pass s [] two = refl
hands_append pass s (first ∷ one) two = ap (λ (log : List (Deed × Answer)). hands pass s (first ∷ []) ++ log) (hands_append pass s one two)

-- what is noted of the first one's block leads to the next, or to none
leads_on : (held rest : Keys) → is_one blocks held ≡ true → are_linked (held ++ rest) ≡ true → are_joined (held ++ rest) [] ≡ true
    → leads_first (note_of held) rest ≡ true
leads_on [] rest one linked closed = absurd (cc)
leads_on (h ∷ []) [] one linked closed = closed
leads_on (h ∷ []) (k ∷ rest) one linked closed = (and_true _ _ linked).0
leads_on (h ∷ g ∷ held) rest one linked closed = absurd (cc)

none_after : (g : Gv) (rest : Keys) → leads_first g rest ≡ true → next_in g ≡ 0 → rest ≡ []
none_after g [] leads none = refl
none_after g (h ∷ rest) leads none = absurd (let e : next_in g ≡ suc (block_number h.label) = eq_true (next_in g) (suc (block_number h.label)) leads in omega (arith, e, none))

first_after : (g : Gv) (rest : Keys) → leads_first g rest ≡ true → next_in g ≢ 0 → (first : ℕ) × (first_or_none (labels_of rest) ≡ Some first) × (next_in g - 1 ≡ block_number first)
first_after g [] leads some = absurd (some (eq_true (next_in g) 0 leads))
first_after g (h ∷ rest) leads some = (h.label, refl, let e : next_in g ≡ suc (block_number h.label) = eq_true (next_in g) (suc (block_number h.label)) leads in omega (arith, e))

among_all : (v u : ℕ) (us vs : List ℕ) → vs ≡ u ∷ us → Contains us v → Contains vs v
among_all v u us vs is among = subst (λ (ws : List ℕ). Contains ws v) (sym is) (suc among.0, let less = among.1 in omega (arith, less), among.2)

-- some were handed, and some are left
pub record IsHanding {key : SlotKey} {pass : Pass} {values : ValueKeys} {front : ℕ} (given : IsGiven key pass values front) (queue : ValueKeys) (had : Had) (key' : SlotKey) (pass' : Pass) (values' queue' : ValueKeys) (number : ℕ) (had' : Had) : Type 0 where
  pub goes_on : ContinuesAndKnows key pass key' pass'
  pub done : Keys
  pub split : values.keys.held ≡ done ++ values'.keys.held
  pub handed : Handings
  pub which : values_handed handed ≡ labels_of done
  pub made : events_by pass' ≡ events_by pass ++ hands pass (slot_number key) handed
  pub stands : (slot_of key').call ≡ Some (record { place = Rest (values_of values') given.walk; queue = given.queue ++ values_put handed })
  pub queued : Queues queue (values_put handed) (words_put handed) queue'
  pub book : book_in values' ≡ pass.name
  pub knows : values'.keys.held ≡ with_list values'.keys.held pass.seen
  pub last : AreLast values' pass
  pub closed : AreClosed values'
  pub first : ℕ
  pub is_first : first_or_none (values_of values') ≡ Some first
  pub its_block : number ≡ block_number first
  pub theirs : HasHad handed (kepts done) had had'

abbrev pub none_handed : {key : SlotKey} {pass : Pass} {values : ValueKeys} {front : ℕ} (given : IsGiven key pass values front) (queue : ValueKeys) (had : Had) → IsHanding given queue had key pass values queue front had
none_handed {key} {pass} {values} {front} given queue had = record {
  goes_on = (keeps_none key pass, ([], append-nil (own_list key)));
  done = [];
  split = refl;
  handed = [];
  which = refl;
  made = sym (append-nil (events_by pass));
  stands = given.given_up ∙ ap (λ (q : List ℕ). Some (record { place = Rest (values_of values) given.walk; queue = q })) (sym (append-nil given.queue));
  queued = queues_none queue;
  book = given.book;
  knows = given.keys.2;
  last = given.last;
  closed = given.closed;
  first = given.first;
  is_first = given.is_first;
  its_block = given.its_block;
  theirs = had_none had;
}

module _ {key0 : SlotKey} {pass0 : Pass} {values0 : ValueKeys} {front : ℕ} {given : IsGiven key0 pass0 values0 front} {queue0 : ValueKeys} {had0 : Had} {key : SlotKey} {pass : Pass} {values queue : ValueKeys} {number : ℕ} {had : Had}
    (r : IsHanding given queue0 had0 key pass values queue number had) where
  pub some_left : values_of values ≢ []
  some_left none = absurd (let e : None ≡ Some r.first = sym (ap first_or_none none) ∙ r.is_first in cc)

  module _ (value : ValueKey) (rest : ValueKeys) (nexts : Nexts values value rest) where
    whole : value.keys.held ++ rest.keys.held ≡ with_list (value.keys.held ++ rest.keys.held) pass0.seen
    whole = sym nexts.3 ∙ (r.knows ∙ ap (λ (held : Keys). with_list held pass0.seen) nexts.3)

    among : (v : ℕ) → Contains (values_of rest) v → Contains (values_of values) v
    among v = among_all v (value_of value) (values_of rest) (values_of values) nexts.2

    pub its_book : IsValueOf value pass
    its_book = nexts.1 ∙ (r.book ∙ sym r.goes_on.0.on.same.0)

    pub is_last : IsLast value
    is_last =
        let v : ℕ = value_of value in let its = subst (λ (ws : List ℕ). Contains ws v) (sym nexts.2) (zero, omega arith, refl) in
        subst (λ (t : Name × List Entry). IsLastIn v (after (start t.0) t.1)) (λ i. (sym (nexts.1 ∙ r.book) i, sym (own_is value.keys.held rest.keys.held pass0.seen value.one whole) i)) (r.last v its)

    abbrev waits : List ℕ
    waits = given.queue ++ values_put r.handed

    here : (slot_of key).call ≡ Some (record { place = Rest (value_of value ∷ values_of rest) given.walk; queue = waits })
    here = r.stands ∙ ap (λ (vs : List ℕ). Some (record { place = Rest vs given.walk; queue = waits })) nexts.2

    pub is_soon : hands_next (slot_of key) ≡ Some (value_of value)
    is_soon = ap (of_call handing_at) here

    pub is_there : block_number (value_of value) ≡ number
    is_there = ap block_number (some_is _ _ (sym (ap first_or_none nexts.2) ∙ r.is_first)) ∙ sym r.its_block

    module _ {key' : SlotKey} {pass' : Pass} {queue' : ValueKeys} {had' : Had} (hand : HandsOne key pass (value_of value) queue key' pass' queue') (more : HasHad ((value_of value, hand.puts, hand.words) ∷ []) (kept_in (note_in value) ∷ []) had had') where
      leads : leads_first (note_in value) rest.keys.held ≡ true
      leads =
          leads_on value.keys.held rest.keys.held value.one
          (subst (λ (held : Keys). are_linked held ≡ true) nexts.3 values.linked) (subst (λ (held : Keys). are_joined held [] ≡ true) nexts.3 r.closed)

      goes : ContinuesAndKnows key0 pass0 key' pass'
      goes = goes_twice key0 key key' pass0 pass pass' r.goes_on hand.goes_on

      split_more : values0.keys.held ≡ (r.done ++ value.keys.held) ++ rest.keys.held
      split_more = r.split ∙ (ap (λ (held : Keys). r.done ++ held) nexts.3 ∙ sym (append_assoc r.done value.keys.held rest.keys.held))

      abbrev one : Handings
      one = (value_of value, hand.puts, hand.words) ∷ []

      which_more : values_handed (r.handed ++ one) ≡ labels_of (r.done ++ value.keys.held)
      which_more =
          handed_append r.handed one
          ∙ (λ i. r.which i ++ sym (one_label value.keys.held value.one) i) ∙ sym (labels_append r.done value.keys.held)

      made_more : events_by pass' ≡ events_by pass0 ++ hands pass0 (slot_number key0) (r.handed ++ one)
      made_more =
          let s = slot_number key0 in let behind = hands pass0 s r.handed in
          hand.made ∙ ap (λ (log : List (Deed × Answer)). log ++ hands pass (slot_number key) one) r.made
          ∙ ap (λ (log : List (Deed × Answer)). (events_by pass0 ++ behind) ++ log) (same_hands pass0 pass r.goes_on.0.on.same (slot_number key) one ∙ ap (λ (k : ℕ). hands pass0 k one) r.goes_on.0.on.its.1)
          ∙ append_assoc (events_by pass0) behind (hands pass0 s one)
          ∙ ap (λ (log : List (Deed × Answer)). events_by pass0 ++ log) (sym (hands_append pass0 s r.handed one))

      queued_more : Queues queue0 (values_put (r.handed ++ one)) (words_put (r.handed ++ one)) queue'
      queued_more =
          queues_more queue0 queue queue' r.handed one r.queued
          (hand.queued.0, hand.queued.1 ∙ ap (λ (vs : List ℕ). values_of queue ++ vs) (sym (append-nil hand.puts)), hand.queued.2 ∙ ap (λ (ks : List ℕ). kepts_of queue ++ ks) (sym (append-nil hand.words)))

      theirs_more : HasHad (r.handed ++ one) (kepts (r.done ++ value.keys.held)) had0 had'
      theirs_more =
          subst (λ (ks : List ℕ). HasHad (r.handed ++ one) ks had0 had')
          (ap (λ (ks : List ℕ). kepts r.done ++ ks) (sym (kept_one value.keys.held (kept_in (note_in value)) value.one refl)) ∙ sym (kepts_append r.done value.keys.held))
          (had_more r.handed one (kepts r.done) (kept_in (note_in value) ∷ []) had0 had had' r.theirs more)

      stands_more : (slot_of key').call ≡ Some (record { place = Rest (values_of rest) given.walk; queue = given.queue ++ values_put (r.handed ++ one) })
      stands_more =
          hand.stands (values_of rest) given.walk waits here
          ∙ ap (λ (q : List ℕ). Some (record { place = Rest (values_of rest) given.walk; queue = q }))
          (append_assoc given.queue (values_put r.handed) hand.puts
          ∙ ap (λ (vs : List ℕ). given.queue ++ vs) (sym (put_append r.handed one ∙ ap (λ (vs : List ℕ). values_put r.handed ++ vs) (append-nil hand.puts))))

      -- the next one's block is that of the word
      pub handed_on : next_in (note_in value) ≢ 0 → IsHanding given queue0 had0 key' pass' rest queue' (next_in (note_in value) - 1) had'
      handed_on some =
          let first = first_after (note_in value) rest.keys.held leads some in
          record {
            goes_on = goes;
            done = r.done ++ value.keys.held;
            split = split_more;
            handed = r.handed ++ one;
            which = which_more;
            made = made_more;
            stands = stands_more;
            queued = queued_more;
            book = nexts.0 ∙ r.book;
            knows = others_know value.keys.held rest.keys.held pass0.seen value.one whole;
            last = λ v there. r.last v (among v there);
            closed = (others_closed value.keys.held rest.keys.held value.one (subst (λ (held : Keys). are_joined held [] ≡ true) nexts.3 r.closed));
            first = first.0;
            is_first = first.1;
            its_block = first.2;
            theirs = theirs_more;
          }

      -- or none is left
      module _ (none : next_in (note_in value) ≡ 0) where
        empty : rest.keys.held ≡ []
        empty = none_after (note_in value) rest.keys.held leads none

        all_done : values0.keys.held ≡ r.done ++ value.keys.held
        all_done = split_more ∙ (ap (λ (held : Keys). (r.done ++ value.keys.held) ++ held) empty ∙ append-nil (r.done ++ value.keys.held))

        pub handed_over : HandsAll given queue0 key' pass' rest queue'
        handed_over = record {
          goes_on = goes;
          handed = r.handed ++ one;
          which = which_more ∙ ap labels_of (sym all_done);
          made = made_more;
          walks_on = stands_more ∙ ap (λ (held : Keys). Some (record { place = Rest (labels_of held) given.walk; queue = given.queue ++ values_put (r.handed ++ one) })) empty;
          none = (nexts.0 ∙ (r.book ∙ sym goes.0.on.same.0), empty);
          queued = queued_more;
        }

        pub all_had : HasHad handed_over.handed (kepts_of values0) had0 had'
        unfolding handed_over
        all_had = subst (λ (held : Keys). HasHad (r.handed ++ one) (kepts held) had0 had') (sym all_done) theirs_more
