-- Where a call has come to that attempted, and handed what was given up.
use Rattle.std.proofs.Common.{◌≡◌, ℕ, ◌≤◌, Bool, true, false, if◌then◌else◌, List, [], ◌∷◌, ◌++◌, length, Some, refl, sym, ap, subst, ◌∙◌, append-nil, inr}
use Rattle.std.proofs.lemmas.Bool.{false≢true}
use Rattle.seize_machine.specs.Machine.State.{Rest}
use Rattle.seize_machine.specs.Machine.Event.{AddCount, Detach}
use Rattle.seize_machine.specs.Machine.History.{first_or_none}
use Rattle.seize_machine.specs.declared.machine.event.Answer.{Answer}
use Rattle.seize_machine.specs.declared.machine.event.Answer.TheVariants.{Count}
use Rattle.seize_machine.proofs.Facts.{marking_full}
use Rattle.seize_book.specs.Adding.{private}
use Rattle.seize_book.specs.Book.{after}
use Rattle.seize_book.specs.Entry.{Deed, Entry as Logged}
use Rattle.seize_book.specs.Ledger.{HeldKey, with_list}
use Rattle.seize_book.specs.Passes.{events_by}
use Rattle.seize_book.specs.Slots.{IsKeyOfBook, own_list, slot_number, slot_of, start_of}
use Rattle.seize_book.specs.Tokens.{Name}
use Rattle.seize_book.specs.Values.{IsEmpty, values_of}
use Rattle.seize_words.specs.Walks.{Knows}
use Rattle.seize_book.specs.Private.{labels_of}
use Rattle.seize_book.specs.declared.book.pass.Pass.{Pass}
use Rattle.seize_book.specs.declared.book.slot_key.SlotKey.{SlotKey}
use Rattle.seize_book.specs.declared.book.value_keys.ValueKeys.{ValueKeys}
use Rattle.seize_words.proofs.Facts.{alike_told, all_of_told, all_told_grow, all_told_later, all_told_renewed, own_reached}
use Rattle.seize_calls.specs.Attempts.{Retires}
use Rattle.seize_book.specs.Kept.{AllTold, AreTold, AreToldIn, kepts_of}
use Rattle.seize_calls.specs.Batches.{AreRemarked}
use Rattle.seize_calls.specs.Handing.{Had, HasHad, values_handed, values_put}
use Rattle.seize_calls.specs.Inserts.{all_insert_events}
use Rattle.seize_calls.specs.Marks.{BeginsToMark, EndsMarks, actives, readings}
use Rattle.seize_calls.specs.Settling.{CallState, HasBatch, IsToMark, RetiresBatch, Stays, done_event}
use Rattle.seize_calls.specs.Walking.{HandsAll, IsGiven, hands}
use Rattle.seize_calls.specs.Numbered.{starts_at}
use Rattle.seize_calls.specs.declared.marking.MarkOutcome.TheVariants.{TooMany}
use Rattle.seize_calls.proofs.Attempts.{first_block}
use Rattle.seize_calls.proofs.Batches.{kepts, remarked_kepts, remarked_labels, renewed_kepts, renewed_labels}
use Rattle.seize_calls.proofs.Handed.{had_none, queues_none}
use Rattle.seize_calls.proofs.Holders.{HasKeys}
use Rattle.seize_calls.proofs.Alone.{onward_twice}
use Rattle.seize_calls.proofs.Strolls.{same_hands}

module _ (a : CallState) (m : IsToMark a.key a.queue) where
  abbrev at : BeginsToMark a.key
  at = m.0

  abbrev s : ℕ
  s = slot_number a.key

  abbrev batch : List ℕ
  batch = (slot_of a.key).batch

  pub has_values : IsKeyOfBook a.key a.pass → Knows a.key a.pass → 1 ≤ length batch
  has_values book knows = marking_full (after (start_of a.key) (own_list a.key)) s 0 at.note [] at.queue (own_reached a.key a.pass book knows) at.marking

  -- the batch stays
  pub has_stayed : (key1 : SlotKey) (pass1 : Pass) → EndsMarks at a.pass key1 pass1 [] TooMany → (values1 : ValueKeys) → AreRemarked a.batch values1
      → Stays 0 a (record { key = key1; pass = pass1; batch = values1; queue = a.queue; had = a.had })
  has_stayed key1 pass1 ends values1 remarked = record {
    on = ends.on;
    batch = ends.batch;
    rests = ends.stands.0 ∙ ap (λ (q : List ℕ). Some (record { place = Rest [] []; queue = q })) m.1;
    finds = ends.finds;
    made = ends.made;
    too_few = inr ends.stands.1;
    keys = remarked;
    queued = queues_none a.queue;
    had_none = refl;
  }

  -- or it was retired
  module _ (key1 : SlotKey) (pass1 : Pass) (values1 : ValueKeys) (zero : Bool) (r : Retires at a.pass a.batch key1 pass1 values1 zero) where
    abbrev before : List (Deed × Answer)
    before = (((events_by a.pass ++ readings a.pass s 0 r.finds) ++ done_event a.pass (Detach s)) ++ all_insert_events a.pass s (actives 0 r.finds) r.turns) ++ (private a.pass (AddCount s), Count r.count) ∷ []

    -- and waits
    pub has_waited : zero ≡ false → RetiresBatch a (record { key = key1; pass = pass1; batch = values1; queue = a.queue; had = a.had })
    has_waited off = let none = sym r.is_count ∙ off in
        record {
          on = r.on;
          batch = r.batch;
          rests =
              r.stands ∙ ap (λ (z : Bool). Some (record { place = Rest (if z then batch else []) []; queue = at.queue })) off
              ∙ ap (λ (q : List ℕ). Some (record { place = Rest [] []; queue = q })) m.1;
          finds = r.finds;
          turns = r.turns;
          each = r.each;
          count = r.count;
          handed = [];
          which = sym (ap (λ (z : Bool). if z then batch else []) none);
          under_guard = λ active. refl;
          made = r.made ∙ sym (append-nil before);
          none = (r.keys.0, r.keys.1 ∙ ap (λ (z : Bool). with_list (if z then r.marked.keys.held else []) pass1.seen) off);
          queued = queues_none a.queue;
          has_had = subst (λ (z : Bool). HasHad [] (if z then kepts_of a.batch else []) a.had a.had) (sym none) (had_none a.had);
          told = subst (λ (z : Bool). AllTold pass1.seen [] (if z then kepts_of a.batch else [])) (sym none) tt;
        }

    -- or its values are given up to the call
    module _ (on : zero ≡ true) (front : ℕ) (starts : starts_at front (values_of values1) ≡ true) (full : 1 ≤ length batch) (its_batch : HasBatch a.key a.pass a.batch) where
      pub renewed_twice : (held : List (HeldKey Logged)) (seen : List Logged) → with_list held seen ≡ with_list (with_list held seen) seen
      renewed_twice [] seen = refl
      renewed_twice (h ∷ held) seen = ap (λ (hs : List (HeldKey Logged)). record { kind = h.kind; key = h.key; own = seen; label = h.label; note = h.note } ∷ hs) (renewed_twice held seen)

      pub kept_keys : values1.keys.held ≡ with_list r.marked.keys.held pass1.seen
      kept_keys = r.keys.1 ∙ ap (λ (z : Bool). with_list (if z then r.marked.keys.held else []) pass1.seen) on

      pub same_values : values_of values1 ≡ batch
      same_values = ap labels_of kept_keys ∙ renewed_labels r.marked.keys.held pass1.seen ∙ remarked_labels r.marked.keys.held a.batch.keys.held r.remarked.1 ∙ its_batch.1

      pub same_kepts : kepts_of values1 ≡ kepts_of a.batch
      same_kepts = ap kepts kept_keys ∙ renewed_kepts r.marked.keys.held pass1.seen ∙ remarked_kepts r.marked.keys.held a.batch.keys.held r.remarked.1

      pub still_told : AreTold values1 pass1
      still_told =
          let held = r.marked.keys.held in
          subst (λ (t : Name × List (HeldKey Logged)). AreToldIn pass1.seen t.1) (λ j. ((its_batch.0 ∙ sym r.on.same.0 ∙ sym r.keys.0) j, sym kept_keys j))
          (all_told_renewed pass1.seen held pass1.seen
          (alike_told pass1.seen a.batch.keys.held held (sym (remarked_labels held a.batch.keys.held r.remarked.1)) (sym (remarked_kepts held a.batch.keys.held r.remarked.1))
          (all_told_later a.pass.seen pass1.seen a.batch.keys.held r.on.grows its_batch.2)))

      abbrev pub given_now : IsGiven key1 pass1 values1 front
      given_now =
          let its_first = first_block front batch (subst (λ (vs : List ℕ). starts_at front vs ≡ true) same_values starts) full in
          record {
            walk = [];
            queue = at.queue;
            given_up = r.stands ∙ ap (λ (z : Bool). Some (record { place = Rest (if z then batch else []) []; queue = at.queue })) on ∙ ap (λ (vs : List ℕ). Some (record { place = Rest vs []; queue = at.queue })) (sym same_values);
            first = its_first.0;
            is_first = ap first_or_none same_values ∙ its_first.1;
            its_block = its_first.2;
            book = r.keys.0;
            keys = (refl, refl, kept_keys ∙ renewed_twice r.marked.keys.held pass1.seen ∙ ap (λ (hs : List (HeldKey Logged)). with_list hs pass1.seen) (sym kept_keys));
            last = r.keys.2;
            closed = r.keys.3;
            told = still_told;
          }

      pub has_handed : (key2 : SlotKey) (pass2 : Pass) (batch2 values2 queue2 : ValueKeys) (had2 : Had) → IsEmpty batch2 pass1 → (all_of : HandsAll given_now a.queue key2 pass2 values2 queue2) → HasHad all_of.handed (kepts_of values1) a.had had2
          → RetiresBatch a (record { key = key2; pass = pass2; batch = batch2; queue = queue2; had = had2 })
      has_handed key2 pass2 batch2 values2 queue2 had2 empty handed theirs =
          let keeps = handed.goes_on.0 in let all = sym r.is_count ∙ on in
          record {
            on = onward_twice a.key key1 key2 a.pass pass1 pass2 r.on keeps.on;
            batch = keeps.batch ∙ r.batch;
            rests = handed.walks_on ∙ ap (λ (q : List ℕ). Some (record { place = Rest [] []; queue = q })) (ap (λ (q : List ℕ). q ++ values_put handed.handed) m.1 ∙ sym handed.queued.1);
            finds = r.finds;
            turns = r.turns;
            each = r.each;
            count = r.count;
            handed = handed.handed;
            under_guard = λ active. absurd (false≢true (sym (r.under_guard active) ∙ on));
            which = handed.which ∙ (same_values ∙ ap (λ (z : Bool). if z then batch else []) (sym all));
            made = handed.made ∙ ap (λ (log : List (Deed × Answer)). log ++ hands pass1 (slot_number key1) handed.handed) r.made
                ∙ ap (λ (log : List (Deed × Answer)). before ++ log) (same_hands a.pass pass1 r.on.same (slot_number key1) handed.handed ∙ ap (λ (k : ℕ). hands a.pass k handed.handed) r.on.its.1);
            none = (empty.0 ∙ sym keeps.on.same.0, empty.1);
            queued = handed.queued;
            told = subst (λ (ks : List ℕ). AllTold pass2.seen (values_handed handed.handed) ks) (same_kepts ∙ ap (λ (z : Bool). if z then kepts_of a.batch else []) (sym all))
                (subst (λ (vs : List ℕ). AllTold pass2.seen vs (kepts_of values1)) (sym handed.which)
                (all_told_grow pass1.seen pass2.seen (values_of values1) (kepts_of values1) keeps.on.grows
                (all_of_told pass1.seen values1.keys.held still_told)));
            has_had = subst (λ (ks : List ℕ). HasHad handed.handed ks a.had had2) (same_kepts ∙ ap (λ (z : Bool). if z then kepts_of a.batch else []) (sym all)) theirs;
          }

-- The keys that the call's holder has then.

pub stays_keys : (a b : CallState) → Stays 0 a b → HasKeys a → HasKeys b
stays_keys a b stays has = (
  (
    stays.keys.0 ∙ (has.0.0 ∙ sym stays.on.same.0),
    remarked_labels b.batch.keys.held a.batch.keys.held stays.keys.1 ∙ (has.0.1 ∙ sym stays.batch),
    (alike_told b.pass.seen a.batch.keys.held b.batch.keys.held (sym (remarked_labels b.batch.keys.held a.batch.keys.held stays.keys.1)) (sym (remarked_kepts b.batch.keys.held a.batch.keys.held stays.keys.1))
        (all_told_later a.pass.seen b.pass.seen a.batch.keys.held stays.on.grows has.0.2)),
  ),
  stays.queued.0 ∙ (has.1 ∙ sym stays.on.same.0),
  (alike_told b.pass.seen a.queue.keys.held b.queue.keys.held (sym (stays.queued.1 ∙ append-nil (values_of a.queue))) (sym (stays.queued.2 ∙ append-nil (kepts_of a.queue)))
      (all_told_later a.pass.seen b.pass.seen a.queue.keys.held stays.on.grows has.2)),
)

pub none_kept : (key : SlotKey) (pass : Pass) (values : ValueKeys) → IsEmpty values pass → (slot_of key).batch ≡ [] → HasBatch key pass values
none_kept key pass values empty none = (empty.0, ap labels_of empty.1 ∙ sym none, subst (λ (held : List (HeldKey Logged)). AreToldIn pass.seen held) (sym empty.1) tt)
