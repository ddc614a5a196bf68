-- A slot leaves or refreshes: what swapping its head out makes, and where the call stands then.
use Rattle.std.proofs.Common.{◌≡◌, ℕ, ◌<◌, ◌≤◌, Bool, true, false, if◌then◌else◌, List, [], ◌∷◌, ◌++◌, length, Some, refl, sym, ap, subst, ◌∙◌, ◌⊎◌, inl, inr}
use Rattle.std.proofs.lemmas.List.{get_or-set_same, get_or_past}
use Rattle.std.proofs.lemmas.Bool.{cases_lt}
use base.Growing.{prefix_trans}
use mathlib.Core.List.{IsPrefix}
use Rattle.seize_machine.specs.Machine.State.{Active, Inactive, Out, Rest, Slot, State, head_at, is_active, no_slot, slot_at}
use Rattle.seize_machine.specs.Machine.Event.{Begin, Event, SwapOut}
use Rattle.seize_machine.specs.Machine.Next.{leaving_at, of_call}
use Rattle.seize_machine.specs.declared.machine.event.Answer.{Answer}
use Rattle.seize_machine.specs.declared.machine.event.Answer.TheVariants.{Done}
use Rattle.seize_machine.specs.declared.machine.event.Job.{Job}
use Rattle.seize_machine.proofs.Facts.{Step, some_is, step_of}
use Rattle.seize_book.specs.Blocks.{block_for, list_word}
use Rattle.seize_book.specs.Book.{after}
use Rattle.seize_book.specs.Entry.{Deed, Entry, Made}
use Rattle.seize_book.specs.Kept.{kepts_in, kepts_of}
use Rattle.seize_book.specs.Laws.{life}
use Rattle.seize_book.specs.Ledger.{HeldKey}
use Rattle.seize_book.specs.Passes.{IsSamePass, events_by}
use Rattle.seize_book.specs.Private.{labels_of}
use Rattle.seize_book.specs.Slots.{AddsDeed, IsKeyOfBook, active_of, own_list, slot_number, slot_of, start_of}
use Rattle.seize_book.specs.Tokens.{Name, start}
use Rattle.seize_book.specs.Values.{values_of}
use Rattle.seize_book.specs.declared.book.pass.Pass.{Pass}
use Rattle.seize_book.specs.declared.book.slot_key.SlotKey.{SlotKey}
use Rattle.seize_book.specs.declared.book.value_keys.ValueKeys.{ValueKeys}
use Rattle.seize_book.proofs.Facts.{same_twice}
use Rattle.seize_words.specs.Reservations.{IsActivationOf, IsLastOf, IsOfSlot, WalksFrom, beginning, slot}
use Rattle.seize_words.specs.declared.activation.Activation.{Activation}
use Rattle.seize_words.specs.declared.reservation.Head.{Head as Word}
use Rattle.seize_words.specs.declared.words.Words.{Words}
use Rattle.seize_words.proofs.Facts.{all_told_later, deeds_grew, knows_noted, seen_grows}
use Rattle.seize_calls.specs.Alone.{AddsAlone, AddsOwn, Onward}
use Rattle.seize_calls.specs.Batches.{keys_in}
use Rattle.seize_calls.specs.Calls.{Begins, Ends, HasBegun, Leaves, SwapsOut, job_of, life_when}
use Rattle.seize_calls.specs.Furthers.{further_in}
use Rattle.seize_calls.specs.Handing.{Had, values_put, words_put}
use Rattle.seize_calls.specs.Together.{IsUnderWay}
use Rattle.seize_calls.specs.Laying.{Lays}
use Rattle.seize_calls.specs.Settling.{CallState, HasBatch, HasQueue, call_state, done_event}
use Rattle.seize_calls.specs.Walking.{IsAtWalk, WalksAll, handed_in, steps}
use Rattle.seize_calls.specs.declared.further.Further.{Further}
use Rattle.seize_calls.specs.declared.holder.Holder.{Holder}
use Rattle.seize_calls.proofs.Alone.{alone_noted, alone_twice, onward_twice, own_one, own_twice}
use Rattle.seize_calls.proofs.Laid.{lays_deed, lays_twice}
use Rattle.seize_calls.proofs.Marks.{within}
use Rattle.seize_calls.proofs.Strolls.{same_steps}
use Rattle.seize_calls.proofs.Whole.{Begun, ends_on}

pub same_beginning : (pass pass' : Pass) → IsSamePass pass pass' → (life : ℕ) (event : Event) → beginning pass' life event ≡ beginning pass life event
same_beginning pass pass' same life event =
    ap (λ (p : ℕ). record { pass = p; size = pass'.size; event = event; life = life; kepts = [] }) same.1 ∙ ap (λ (k : ℕ). record { pass = pass.id; size = k; event = event; life = life; kepts = [] }) same.2

-- the machine swaps the head out
after_swap : (size : ℕ) (st : State) (s : ℕ) (stays : Bool) (queue : List ℕ) (d : State × Answer) → Step size st (SwapOut s) d → (slot_at st s).call ≡ Some (record { place = Out stays; queue = queue }) → is_active (head_at st s) ≡ true
    → ((slot_at d.0 s).batch ≡ (slot_at st s).batch) × ((slot_at d.0 s).used ≡ (slot_at st s).used) × (is_active (head_at d.0 s) ≡ stays) × (d.1 ≡ Done)
after_swap size st _ stays queue _ (Step.swapped_out s other q stands) is on =
    let same = get_or-set_same st.slots s _ no_slot (within st s _ stands) in
    let its : other ≡ stays = some_is _ _ (ap (of_call leaving_at) (sym stands ∙ is)) in (
      ap (λ (z : Slot). z.batch) same,
      ap (λ (z : Slot). z.used) same,
      ap is_active (get_or-set_same st.heads s (if other then Active [] else Inactive) Inactive (there (cases_lt s (length st.heads)))) ∙ which other ∙ its,
      refl,
    )
  where
    there : (s < length st.heads) ⊎ (length st.heads ≤ s) → s < length st.heads
    there (inl less) = less
    there (inr past) = absurd (let off : false ≡ true = sym (ap is_active (get_or_past st.heads s Inactive past)) ∙ on in cc)

    which : (b : Bool) → is_active (if b then Active [] else Inactive) ≡ b
    which true = refl
    which false = refl

-- The head was swapped out by a call that began, and had this word.
pub record Swapped {T : Type 0} (words : Words T) (stays : Bool) (life : ℕ) (holder : Holder T) (pass : Pass) (queue : Further) (two : SlotKey) (pass2 : Pass) (word : ℕ) : Type 0 where
  pub at : IsAtWalk two word
  pub none_waits : at.queue ≡ []
  pub swaps : SwapsOut (job_of stays) (beginning pass (life_when stays life) (SwapOut (slot_number holder.key))) (slot_number holder.key) pass pass2 at.walk
  pub under : IsUnderWay words (record { key = two; batch = holder.batch; spots = holder.spots }) queue pass2
  pub empty : (further_in queue).keys.held ≡ []
  pub its : (two.keys.name ≡ holder.key.keys.name) × (slot_number two ≡ slot_number holder.key)
  pub sees : own_list two ≡ pass2.seen
  pub batch : (slot_of two).batch ≡ (slot_of holder.key).batch
  pub used : (slot_of two).used ≡ (slot_of holder.key).used
  pub active : active_of two ≡ stays
  pub alone : AddsAlone pass pass2
  pub own : AddsOwn holder.key pass two
  pub laid : Lays pass holder.spots pass2 holder.spots

module _ {T : Type 0} (words : Words T) (stays : Bool) (holder : Holder T) (pass : Pass) (queue : Further) (one : SlotKey) (pass1 : Pass) (b : Begun words (job_of stays) [] (Out stays) holder pass queue one pass1) (on : active_of holder.key ≡ true) (life : ℕ) (two : SlotKey) (pass2 : Pass)
    (notes : AddsDeed one pass1 two pass2 (beginning pass1 (life_when stays life) (SwapOut (slot_number one)))) (head : Word) (word : ℕ) (walks : WalksFrom head two word []) (own : slot head ≡ slot_number holder.key) where
  abbrev begins : Begins holder.key pass (job_of stays) [] one pass1
  begins = b.begins

  abbrev s : ℕ
  s = slot_number holder.key

  abbrev swap : Pass → ℕ → Deed
  swap p k = beginning p (life_when stays life) (SwapOut k)

  so : ((slot_of two).batch ≡ (slot_of one).batch) × ((slot_of two).used ≡ (slot_of one).used) × (active_of two ≡ stays) × (notes.2.0.answer ≡ Done)
  so =
      let d : State × Answer = (notes.2.0.later, notes.2.0.answer) in let st = after (start_of one) notes.2.0.before in
      let is = after_swap pass1.size st (slot_number one) stays [] d (step_of pass1.size st (SwapOut (slot_number one)) d notes.2.1.legal) (ap (λ (z : Slot). z.call) notes.2.1.was ∙ b.stands) (notes.2.1.was_active ∙ begins.keeps.on.active ∙ on) in (
        ap (λ (z : Slot). z.batch) notes.2.1.is ∙ is.0 ∙ ap (λ (z : Slot). z.batch) notes.2.1.was,
        ap (λ (z : Slot). z.used) notes.2.1.is ∙ is.1 ∙ ap (λ (z : Slot). z.used) notes.2.1.was,
        notes.2.1.is_now_active ∙ is.2,
        is.3,
      )

  same_two : IsSamePass pass pass2
  same_two = same_twice pass pass1 pass2 begins.keeps.on.same notes.0

  its_two : (two.keys.name ≡ holder.key.keys.name) × (slot_number two ≡ s)
  its_two = (notes.1.0 ∙ begins.keeps.on.its.0, notes.1.1 ∙ begins.keeps.on.its.1)

  grew : IsPrefix pass1.seen pass2.seen
  grew = seen_grows pass1.name pass1.id pass1.seen pass2.seen _ notes.2.0

  made_two : events_by pass2 ≡ (events_by pass ++ done_event pass (Begin s (job_of stays))) ++ (swap pass s, Done) ∷ []
  made_two =
      deeds_grew pass1 pass2 (swap pass1 (slot_number one)) notes.0 notes.2.0
      ∙ ap (λ (log : List (Deed × Answer)). log ++ (swap pass1 (slot_number one), notes.2.0.answer) ∷ []) begins.made
      ∙ ap (λ (a : Answer). (events_by pass ++ done_event pass (Begin s (job_of stays))) ++ (swap pass1 (slot_number one), a) ∷ []) so.3
      ∙ ap (λ (x : Deed). (events_by pass ++ done_event pass (Begin s (job_of stays))) ++ (x, Done) ∷ []) (same_beginning pass pass1 begins.keeps.on.same (life_when stays life) (SwapOut (slot_number one)) ∙ ap (swap pass) begins.keeps.on.its.1)

  under_two : IsUnderWay words (record { key = two; batch = holder.batch; spots = holder.spots }) queue pass2
  under_two = let is = b.under.holds in let has = b.under.queue_is in
      record {
        holds = record {
          keyed = record {
            of = (is.keyed.of.0 ∙ sym notes.0.0, is.keyed.of.1 ∙ sym notes.0.2);
            its = notes.1.0 ∙ (is.keyed.its ∙ sym notes.0.0);
            knows = knows_noted one two pass1 pass2 (swap pass1 (slot_number one)) notes;
          };
          batch = (is.batch.0 ∙ sym notes.0.0, is.batch.1 ∙ sym so.0, all_told_later pass1.seen pass2.seen (keys_in holder.batch).keys.held grew is.batch.2);
          spots = is.spots;
        };
        queue_is = (has.0 ∙ sym notes.0.0, all_told_later pass1.seen pass2.seen (further_in queue).keys.held grew has.1);
      }

  pub swapped : Swapped words stays life holder pass queue two pass2 word
  swapped = record {
    at = record {
      walk = walks.0;
      queue = [];
      walking = walks.1;
      leads = walks.2 ∙ ap (λ (m : ℕ). list_word (λ b. block_for (start_of two) (own_list two) b m) walks.0) (own ∙ sym its_two.1);
    };
    none_waits = refl;
    swaps = record {
      same = same_two;
      grows = prefix_trans pass.seen pass1.seen pass2.seen begins.keeps.on.grows grew;
      made = made_two;
      stands =
          subst (λ (t : Name × List Entry × ℕ). (slot_at (after (start t.0) t.1) t.2).call ≡ Some (record { place = Rest [] walks.0; queue = [] }))
          (λ j. (under_two.holds.keyed.its j, notes.1.2 j, its_two.1 j)) walks.1;
    };
    under = under_two;
    empty = b.empty;
    its = its_two;
    sees = notes.1.2;
    batch = so.0 ∙ begins.keeps.batch;
    used = so.1 ∙ begins.keeps.on.used;
    active = so.2;
    alone = alone_twice pass pass1 pass2 begins.keeps.on.same begins.keeps.on.alone (alone_noted pass1 pass2 (Made (swap pass1 (slot_number one))) refl notes.2.0);
    own = own_twice holder.key one two pass pass1 begins.keeps.on.same begins.keeps.on.own (own_one one pass1 two (Made (swap pass1 (slot_number one))) notes.2.0.answer refl notes.2.1.acts);
    laid = lays_twice pass pass1 pass2 holder.spots holder.spots holder.spots b.laid (lays_deed one two pass1 pass2 (swap pass1 (slot_number one)) holder.spots notes (λ answer. refl));
  }

-- Then it walked, drained its queue, and returned.
module _ {T : Type 0} (words : Words T) (stays : Bool) (life : ℕ) (holder : Holder T) (pass : Pass) (queue : Further) (two : SlotKey) (pass2 : Pass) (word : ℕ) (w : Swapped words stays life holder pass queue two pass2 word)
    (holder3 : Holder T) (queue3 : Further) (pass3 : Pass) (had had3 : Had) (all : WalksAll w.at pass2 (further_in queue) had holder3.key pass3 (further_in queue3) had3) where
  abbrev key : SlotKey
  key = holder.key

  abbrev three : SlotKey
  three = holder3.key

  abbrev behind : CallState
  behind = call_state holder3 pass3 queue3 had3

  walked_queue : (values_of (further_in queue3) ≡ values_put (handed_in all.walked)) × (kepts_of (further_in queue3) ≡ words_put (handed_in all.walked))
  walked_queue = (
    all.queued.1 ∙ ap (λ (held : List (HeldKey Entry)). labels_of held ++ values_put (handed_in all.walked)) w.empty,
    all.queued.2 ∙ ap (λ (held : List (HeldKey Entry)). kepts_in held ++ words_put (handed_in all.walked)) w.empty,
  )

  pub walked_over : HasQueue three (further_in queue3)
  walked_over = all.over ∙ ap (λ (q : List ℕ). Some (record { place = Rest [] []; queue = q })) (ap (λ (q : List ℕ). q ++ values_put (handed_in all.walked)) w.none_waits ∙ sym walked_queue.0)

  module _ (key' : SlotKey) (pass' : Pass) (values' : ValueKeys) (had' : Had) (ends : Ends behind key' pass' values' had') where
    pub out_on : Onward two pass2 key' pass'
    out_on = onward_twice two three key' pass2 pass3 pass' all.goes_on.0.on (ends_on behind key' pass' values' had' ends)

    pub has_left : holder3.batch ≡ holder.batch → HasBatch key' pass' values' → Leaves (job_of stays) stays (beginning pass (life_when stays life) (SwapOut (slot_number key))) key pass (keys_in holder.batch) had key' pass' values' had'
    has_left batch has = record {
      walk = w.at.walk;
      out = pass2;
      swaps_out = w.swaps;
      walked = all.walked;
      each = all.each;
      kepts = all.kepts;
      behind = behind;
      grows = all.goes_on.0.on.grows;
      its = (all.goes_on.0.on.its.0 ∙ w.its.0, all.goes_on.0.on.its.1 ∙ w.its.1);
      stands = walked_over;
      kept = all.goes_on.0.batch ∙ w.batch;
      made = all.made ∙ ap (λ (log : List (Deed × Answer)). events_by pass2 ++ log)
          (same_steps pass pass2 w.swaps.same (slot_number two) all.walked ∙ ap (λ (k : ℕ). steps pass k all.walked) w.its.1);
      has_had = all.has_had;
      told = all.told;
      queued = walked_queue;
      batch = ap keys_in batch;
      ends = ends;
      rests = record {
        same = same_twice pass pass2 pass' w.swaps.same out_on.same;
        grows = prefix_trans pass.seen pass2.seen pass'.seen w.swaps.grows out_on.grows;
        alone = alone_twice pass pass2 pass' w.swaps.same w.alone out_on.alone;
        own = own_twice key two key' pass pass2 w.swaps.same w.own out_on.own;
        sees = ends.sees;
        its = (out_on.its.0 ∙ w.its.0, out_on.its.1 ∙ w.its.1);
        call = ends.call;
        used = out_on.used ∙ w.used;
        batch = has;
      };
      active = out_on.active ∙ w.active;
    }

-- The activation is the slot's still, and has begun with what its key knew.
module _ (key key' : SlotKey) (pass pass' : Pass) (on : Onward key pass key' pass') (a : Activation) where
  pub of_still : IsOfSlot key a → IsOfSlot key' a
  of_still of = (of.0 ∙ sym on.its.0, of.1 ∙ sym on.its.1, of.2)

  pub begun_last : IsKeyOfBook key pass → own_list key ≡ pass.seen → IsActivationOf key a → IsLastOf key' a × HasBegun a pass'
  begun_last book sees is = let of = is.of_slot in (
    (of_still of, sym is.its ∙ (λ i. life (of.1 i) (is.since i)) ∙ sym on.life),
    record { book = of.0 ∙ book ∙ sym on.same.0; active = is.active; its = is.its; known = subst (λ (log : List Entry). IsPrefix log pass'.seen) (sym (is.since ∙ sees)) on.grows },
  )

-- All that was made before the queue was drained.
pub left_made : {job : Job} {stays : Bool} {swap : Deed} {key : SlotKey} {pass : Pass} {values : ValueKeys} {had : Had} {key' : SlotKey} {pass' : Pass} {values' : ValueKeys} {had' : Had} → (l : Leaves job stays swap key pass values had key' pass' values' had')
    → events_by l.behind.pass ≡ ((events_by pass ++ done_event pass (Begin (slot_number key) job)) ++ (swap, Done) ∷ []) ++ steps pass (slot_number key) l.walked
left_made {key} {pass} l = l.made ∙ ap (λ (log : List (Deed × Answer)). log ++ steps pass (slot_number key) l.walked) l.swaps_out.made
