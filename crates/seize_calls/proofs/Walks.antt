-- A call walks: what is known while it counts batches down.
use Rattle.std.proofs.Common.{◌≡◌, ◌≢◌, ℕ, suc, ◌+◌, ◌<◌, ℤ, Bool, true, false, if◌then◌else◌, List, [], ◌∷◌, ◌++◌, length, get_or, Option, Some, refl, sym, ap, ◌∙◌, append_assoc, append-nil, arith}
use Rattle.std.proofs.lemmas.List.{get_or-set_same, length_push}
use base.Growing.{prefix_trans}
use Rattle.seize_machine.specs.Machine.State.{Progress, Head, Inactive, Rest, Slot, State, is_active, no_slot, slot_at}
use Rattle.seize_machine.specs.Machine.Event.{SubCount}
use Rattle.seize_machine.specs.Machine.History.{first_or_none}
use Rattle.seize_machine.specs.Machine.Laws.{walk_of}
use Rattle.seize_machine.specs.Machine.Next.{is_zero}
use Rattle.seize_machine.specs.declared.machine.event.Answer.{Answer}
use Rattle.seize_machine.specs.declared.machine.event.Answer.TheVariants.{Count as Counted}
use Rattle.seize_machine.proofs.Facts.{Step, some_is}
use Rattle.seize_book.specs.Adding.{private}
use Rattle.seize_words.specs.Counts.{values_in}
use Rattle.seize_book.specs.Entry.{Deed, Entry}
use Rattle.seize_words.specs.Headers.{IsFrontBlock}
use Rattle.seize_book.specs.Ledger.{HeldKey}
use Rattle.seize_book.specs.Passes.{events_by, IsSamePass}
use Rattle.seize_book.specs.Slots.{AddsEvent, own_list, slot_number, slot_of}
use Rattle.seize_book.specs.Values.{IsEmpty}
use Rattle.seize_words.specs.Walks.{CountsDown, IsAtBatch, word_for}
use Rattle.seize_book.specs.Private.{labels_of}
use Rattle.seize_book.specs.declared.book.pass.Pass.{Pass}
use Rattle.seize_book.specs.declared.book.slot_key.SlotKey.{SlotKey}
use Rattle.seize_book.specs.declared.book.value_keys.ValueKeys.{ValueKeys}
use Rattle.seize_book.proofs.Facts.{same_twice}
use Rattle.seize_words.proofs.Facts.{events_grew}
use Rattle.seize_calls.specs.Inserts.{Continues}
use Rattle.seize_calls.specs.Walking.{AreHeld, ContinuesAndKnows, EndsWalk, IsAtWalk, Stops, counting, countings}
use Rattle.seize_calls.proofs.Keeps.{keeps_from, keeps_looked, keeps_none, keeps_twice, looked_same, outcome, own_grows, same_private, state_before, step_noted}
use Rattle.seize_calls.proofs.Marks.{within}

pub countings_push : (pass : Pass) (s : ℕ) (counts : List ℤ) (count : ℤ) → countings pass s (counts ++ count ∷ []) ≡ countings pass s counts ++ counting pass s count ∷ []
countings_push pass s [] count = refl
countings_push pass s (first ∷ counts) count = ap (λ (made : List (Deed × Answer)). counting pass s first ∷ made) (countings_push pass s counts count)

held_push : (counts : List ℤ) (count : ℤ) → AreHeld counts → is_zero count ≡ false → AreHeld (counts ++ count ∷ [])
held_push [] count all more = (more, tt)
held_push (first ∷ counts) count all more = (all.0, held_push counts count all.1 more)

none_labelled : (held : List (HeldKey Entry)) → labels_of held ≡ [] → held ≡ []
none_labelled [] e = refl
none_labelled (h ∷ held) e = absurd (cc)

-- the machine counts a batch down
after_sub : (size : ℕ) (st : State) (s : ℕ) (d : State × Answer) → Step size st (SubCount s) d → ((slot_at d.0 s).batch ≡ (slot_at st s).batch) × ((slot_at d.0 s).used ≡ (slot_at st s).used) × (d.0.heads ≡ st.heads)
after_sub size st _ d (Step.subtracted s b walk queue _ stands is) =
    let same = get_or-set_same st.slots s _ no_slot (within st s _ stands) in let eq = some_is _ _ is in (
      ap (λ (x : State × Answer). (slot_at x.0 s).batch) (sym eq) ∙ ap (λ (z : Slot). z.batch) same,
      ap (λ (x : State × Answer). (slot_at x.0 s).used) (sym eq) ∙ ap (λ (z : Slot). z.used) same,
      ap (λ (x : State × Answer). x.0.heads) (sym eq),
    )

pub keeps_counted : (key key' : SlotKey) (pass pass' : Pass) → AddsEvent key pass key' pass' (SubCount (slot_number key)) → Continues key pass key' pass'
keeps_counted key key' pass pass' notes =
    let event = SubCount (slot_number key) in
    let so = after_sub pass.size (state_before key key' pass pass' event [] notes) (slot_number key) (outcome key key' pass pass' event [] notes) (step_noted key key' pass pass' event [] notes) in
    keeps_from key key' pass pass' event [] notes so.0 so.1 (ap (λ (hs : List Head). is_active (get_or hs (slot_number key) Inactive)) so.2) refl

-- some batches were counted down, and none was given up
pub record IsWalking {key : SlotKey} {word : ℕ} (at : IsAtWalk key word) (pass : Pass) (key' : SlotKey) (pass' : Pass) (values' : ValueKeys) (leads' : ℕ) : Type 0 where
  pub goes_on : ContinuesAndKnows key pass key' pass'
  pub held : List ℤ
  pub above : AreHeld held
  pub done : List ℕ
  pub left : List ℕ
  pub split : at.walk ≡ done ++ left
  pub each : length held ≡ length done
  pub made : events_by pass' ≡ events_by pass ++ countings pass (slot_number key) held
  pub walking : (slot_of key').call ≡ Some (record { place = Rest [] left; queue = at.queue })
  pub leads : leads' ≡ word_for key' left
  pub none : IsEmpty values' pass'

abbrev pub none_walked : (key : SlotKey) (word : ℕ) (at : IsAtWalk key word) (pass : Pass) (values : ValueKeys) → IsEmpty values pass → IsWalking at pass key pass values word
none_walked key word at pass values empty = record {
  goes_on = (keeps_none key pass, ([], append-nil (own_list key)));
  held = [];
  above = tt;
  done = [];
  left = at.walk;
  split = refl;
  each = refl;
  made = sym (append-nil (events_by pass));
  walking = at.walking;
  leads = at.leads;
  none = empty;
}

module _ {key0 : SlotKey} {word : ℕ} {at : IsAtWalk key0 word} {pass0 : Pass} {key : SlotKey} {pass : Pass} {values : ValueKeys} {leads : ℕ} (r : IsWalking at pass0 key pass values leads) where
  -- a word that is not 1 leads to a batch
  pub is_at : leads ≢ 1 → IsAtBatch key leads
  is_at more = go r.left r.walking r.leads
    where
      go : (left : List ℕ) → (slot_of key).call ≡ Some (record { place = Rest [] left; queue = at.queue }) → leads ≡ word_for key left → IsAtBatch key leads
      go [] walking is = absurd (more is)
      go (b ∷ walk) walking is = record { batch = b; walk = walk; queue = at.queue; walking = walking; leads = is }

  -- and 1 to none
  pub is_over : leads ≡ 1 → r.left ≡ []
  is_over none = go r.left r.leads
    where
      go : (left : List ℕ) → leads ≡ word_for key left → left ≡ []
      go [] is = refl
      go (b ∷ walk) is = absurd (omega (arith, is, none))

  pub walk_over : leads ≡ 1 → EndsWalk at r.held pass0 key pass values
  walk_over none = record {
    each = r.each ∙ (let split = ap (λ (bs : List ℕ). length bs) (r.split ∙ ap (λ (bs : List ℕ). r.done ++ bs) (is_over none) ∙ append-nil r.done) in sym split);
    made = r.made;
    over = r.walking ∙ ap (λ (bs : List ℕ). Some (record { place = Rest [] bs; queue = at.queue })) (is_over none);
    none = r.none;
  }

  -- where the walk stands, by what the call knows at a batch
  module _ (batch : IsAtBatch key leads) where
    abbrev call : Progress
    call = record { place = Rest [] r.left; queue = at.queue }

    same_call : record { place = Rest [] (batch.batch ∷ batch.walk); queue = batch.queue } ≡ call
    same_call = some_is _ _ (sym batch.walking ∙ r.walking)

    same_left : batch.batch ∷ batch.walk ≡ r.left
    same_left = ap (λ (c : Progress). walk_of (Some c)) same_call

    same_queue : batch.queue ≡ at.queue
    same_queue = ap (λ (c : Progress). c.queue) same_call

    module _ {key' : SlotKey} {pass' : Pass} {values' : ValueKeys} {rest : ℕ} {zero : Bool} (down : CountsDown batch pass key' values' pass' rest zero) where
      abbrev count : ℤ
      count = down.counts.1.0

      pub goes_down : ContinuesAndKnows key0 pass0 key' pass'
      goes_down = (
        keeps_twice key0 key key' pass0 pass pass' r.goes_on.0 (keeps_twice key key key' pass down.mid pass' (keeps_looked key pass down.mid down.looks) (keeps_counted key key' down.mid pass' down.counts.0)),
        prefix_trans (own_list key0) (own_list key) (own_list key') r.goes_on.1 (own_grows key key' down.mid pass' (SubCount (slot_number key)) [] down.counts.0),
      )

      mid_same : IsSamePass pass0 down.mid
      mid_same = same_twice pass0 pass down.mid r.goes_on.0.on.same down.looks.same

      made_down : events_by pass' ≡ events_by pass0 ++ countings pass0 (slot_number key0) (r.held ++ count ∷ [])
      made_down =
          let event = SubCount (slot_number key) in let before = events_by pass0 in let old = countings pass0 (slot_number key0) r.held in
          events_grew down.mid pass' event down.counts.0.0 down.counts.0.2.0
          ∙ ap (λ (log : List (Deed × Answer)). log ++ (private down.mid event, down.counts.0.2.0.answer) ∷ []) (looked_same pass down.mid down.looks ∙ r.made)
          ∙ ap (λ (a : Answer). (before ++ old) ++ (private down.mid event, a) ∷ []) down.counts.1.1
          ∙ ap (λ (d : Deed). (before ++ old) ++ (d, Counted count) ∷ []) (same_private pass0 down.mid mid_same event)
          ∙ ap (λ (s : ℕ). (before ++ old) ++ counting pass0 s count ∷ []) r.goes_on.0.on.its.1
          ∙ append_assoc before old (counting pass0 (slot_number key0) count ∷ [])
          ∙ ap (λ (log : List (Deed × Answer)). before ++ log) (sym (countings_push pass0 (slot_number key0) r.held count))

      split_down : at.walk ≡ (r.done ++ batch.batch ∷ []) ++ batch.walk
      split_down = r.split ∙ ap (λ (bs : List ℕ). r.done ++ bs) (sym same_left) ∙ sym (append_assoc r.done (batch.batch ∷ []) batch.walk)

      each_down : length (r.held ++ count ∷ []) ≡ length (r.done ++ batch.batch ∷ [])
      each_down = length_push r.held count ∙ ap (λ (n : ℕ). n + 1) r.each ∙ sym (length_push r.done batch.batch)

      -- the walk goes on
      pub counted_on : zero ≡ false → IsWalking at pass0 key' pass' values' rest
      counted_on off = record {
        goes_on = goes_down;
        held = r.held ++ count ∷ [];
        above = held_push r.held count r.above (sym down.counts.1.2 ∙ off);
        done = r.done ++ batch.batch ∷ [];
        left = batch.walk;
        split = split_down;
        each = each_down;
        made = made_down;
        walking =
            down.gives ∙ ap (λ (z : Bool). Some (record { place = Rest (if z then values_in key batch.batch else []) batch.walk; queue = batch.queue })) off
            ∙ ap (λ (q : List ℕ). Some (record { place = Rest [] batch.walk; queue = q })) same_queue;
        leads = down.leads;
        none = (down.takes.0, none_labelled values'.keys.held (down.takes.2 ∙ ap (λ (z : Bool). if z then values_in key batch.batch else []) off));
      }

      -- or the batch is given up
      pub stops : zero ≡ true → (front : ℕ) → IsFrontBlock key batch.batch front → Stops at r.held pass0 key' pass' values' front rest
      stops on front its =
          let values = down.takes.2 ∙ ap (λ (z : Bool). if z then values_in key batch.batch else []) on in
          record {
            zero = count;
            is_zero_last = sym down.counts.1.2 ∙ on;
            made = made_down;
            gives = record {
              walk = batch.walk;
              queue = batch.queue;
              given_up = down.gives ∙ ap (λ (z : Bool). Some (record { place = Rest (if z then values_in key batch.batch else []) batch.walk; queue = batch.queue })) on
                  ∙ ap (λ (vs : List ℕ). Some (record { place = Rest vs batch.walk; queue = batch.queue })) (sym values);
              first = its.0;
              is_first = ap first_or_none values ∙ its.1;
              its_block = its.2;
              book = down.takes.0;
              keys = (refl, refl, down.takes.1);
              last = down.takes.3;
              closed = down.takes.4;
              told = down.takes.5;
            };
            leads = down.leads;
            done = r.done ++ batch.batch ∷ [];
            each = sym each_down;
            walked = split_down;
            same_queue = same_queue;
          }

      -- there is less to walk
      pub less : zero ≡ false → length (walk_of (slot_of key').call) < length (walk_of (slot_of key).call)
      less off =
          let new : length (walk_of (slot_of key').call) ≡ length batch.walk =
          ap (λ (o : Option Progress). length (walk_of o)) (down.gives ∙ ap (λ (z : Bool). Some (record { place = Rest (if z then values_in key batch.batch else []) batch.walk; queue = batch.queue })) off) in
          let old : length (walk_of (slot_of key).call) ≡ suc (length batch.walk) = ap (λ (o : Option Progress). length (walk_of o)) batch.walking in
          omega (arith, new, old)
