-- Whole calls, put together of what their parts did.
use Rattle.std.proofs.Common.{◌≡◌, ℕ, ◌<◌, ◌≤◌, Bool, List, [], ◌∷◌, length, Some, refl, sym, ap, subst, ◌∙◌, inl, arith}
use Rattle.seize_machine.specs.Machine.State.{Append, Mark, Out, Place, Rest}
use Rattle.seize_machine.specs.Machine.Event.{Begin, Return}
use Rattle.seize_machine.specs.Machine.Next.{flushing_at}
use Rattle.seize_machine.specs.declared.machine.event.Job.{Job}
use Rattle.seize_machine.specs.declared.machine.event.Job.TheVariants.{Flush, Retire}
use Rattle.seize_book.specs.Adding.{deed_with_words}
use Rattle.seize_book.specs.Entry.{Entry as Logged}
use Rattle.seize_book.specs.Kept.{AreToldIn}
use Rattle.seize_book.specs.Ledger.{HeldKey, with_list}
use Rattle.seize_book.specs.Private.{IsOver, label_of, labels_of}
use Rattle.seize_book.specs.Slots.{AddsDeed, AddsEvent, slot_number, slot_of}
use Rattle.seize_book.specs.Values.{IsEmpty, values_of}
use Rattle.seize_book.specs.declared.book.pass.Pass.{Pass}
use Rattle.seize_book.specs.declared.book.slot_key.SlotKey.{SlotKey}
use Rattle.seize_book.specs.declared.book.value_keys.ValueKeys.{ValueKeys}
use Rattle.seize_words.proofs.Facts.{knows_noted}
use Rattle.seize_words.specs.Walks.{Knows}
use Rattle.seize_words.specs.declared.words.Words.{Words}
use Rattle.seize_calls.specs.Alone.{Onward}
use Rattle.seize_calls.specs.Batches.{keys_in}
use Rattle.seize_calls.specs.Calls.{Begins, BeginsSo, BeginsToAttempt, Ends, Flushes, Rests, Resumes, RetiresOne, Returns, job_of}
use Rattle.seize_calls.specs.Furthers.{further_in}
use Rattle.seize_calls.specs.Handing.{Had}
use Rattle.seize_calls.specs.Together.{IsHolderFor, IsUnderWay}
use Rattle.seize_calls.specs.Laying.{Lays}
use Rattle.seize_calls.specs.Settling.{CallState, DrainsOne, HasBatch, HasQueue, IsToMark, MarksFrom, MayPut, Settles}
use Rattle.seize_calls.specs.declared.further.Further.{Further}
use Rattle.seize_calls.specs.declared.holder.Holder.{Holder}
use Rattle.seize_calls.proofs.Events.{Kept, begins_so, begun_retire_so, call_begun, flush_so, keeps_returned, made_returned, out_so}
use Rattle.seize_calls.proofs.Holders.{under_on}
use Rattle.seize_calls.proofs.Keeps.{outcome, state_before}
use Rattle.seize_calls.proofs.Laid.{lays_deed}
use Rattle.seize_calls.proofs.Alone.{onward_twice}
use Rattle.seize_calls.proofs.Onwards.{round_on, settles_on}

-- The call returns when its queue is empty.

pub is_over : (key : SlotKey) (queue : ValueKeys) → HasQueue key queue → values_of queue ≡ [] → IsOver (slot_of key)
is_over key queue has none = has ∙ ap (λ (q : List ℕ). Some (record { place = Rest [] []; queue = q })) none

pub returned : (a : CallState) (key' : SlotKey) (pass' : Pass) → AddsEvent a.key a.pass key' pass' (Return (slot_number a.key)) → values_of a.queue ≡ [] → Returns a key' pass' a.batch a.had
returned a key' pass' notes none =
    record { keeps = keeps_returned a.key key' a.pass pass' notes; made = made_returned a.key key' a.pass pass' notes; batch = refl; none = none; had_none = refl }

-- From where a call has its queue alone to its return.
module _ (a : CallState) (key' : SlotKey) (pass' : Pass) (values' : ValueKeys) (had' : Had) (ends : Ends a key' pass' values' had') where
  pub ends_on : Onward a.key a.pass key' pass'
  ends_on = let d = ends.drained in onward_twice a.key d.key key' a.pass d.pass pass' ends.drains.on ends.returns.keeps.on

  pub call_rests : (key : SlotKey) (pass : Pass) → Onward key pass key' pass' → HasBatch key' pass' values' → Rests key pass key' pass' values'
  call_rests key pass on batch = record { same = on.same; grows = on.grows; alone = on.alone; own = on.own; sees = ends.sees; its = on.its; call = ends.call; used = on.used; batch = batch }

-- A call begins with an empty queue, and stands at this place.
pub record Begun {T : Type 0} (words : Words T) (job : Job) (kepts : List ℕ) (place : Place) (holder : Holder T) (pass : Pass) (queue : Further) (key1 : SlotKey) (pass1 : Pass) : Type 0 where
  pub begins : Begins holder.key pass job kepts key1 pass1
  pub under : IsUnderWay words (record { key = key1; batch = holder.batch; spots = holder.spots }) queue pass1
  pub empty : (further_in queue).keys.held ≡ []
  pub stands : (slot_of key1).call ≡ Some (record { place = place; queue = [] })
  pub laid : Lays pass holder.spots pass1 holder.spots

-- The pass is as it was when the queue was made.
module _ {T : Type 0} (words : Words T) (holder : Holder T) (pass made : Pass) (same : made ≡ pass) (queue : Further) (empty : IsEmpty (further_in queue) pass) (is : IsHolderFor words holder pass) (key1 : SlotKey) (pass1 : Pass) where
  abbrev key : SlotKey
  key = holder.key

  -- of no values the list says what is to be said
  under_begun : (job : Job) (kepts : List ℕ) → Begins key pass job kepts key1 pass1 → Knows key1 pass1 → IsUnderWay words (record { key = key1; batch = holder.batch; spots = holder.spots }) queue pass1
  under_begun job kepts begins knows =
      under_on words holder pass is queue key1 pass1 (empty.0, subst (λ (held : List (HeldKey Logged)). AreToldIn pass.seen held) (sym empty.1) tt) begins.keeps knows

  begun : (job : Job) (kepts : List ℕ) (place : Place) (notes : AddsDeed key pass key1 pass1 (deed_with_words pass (Begin (slot_number key) job) kepts))
      → Kept (state_before key key1 pass pass1 (Begin (slot_number key) job) kepts notes) (slot_number key) (outcome key key1 pass pass1 (Begin (slot_number key) job) kepts notes) (record { place = place; queue = [] }) → Begun words job kepts place holder pass queue key1 pass1
  begun job kepts place notes so = let d = deed_with_words pass (Begin (slot_number key) job) kepts in let begins = begins_so key key1 pass pass1 job kepts notes _ so in
      record {
        begins = begins;
        under = under_begun job kepts begins (knows_noted key key1 pass pass1 d notes);
        empty = empty.1;
        stands = call_begun key key1 pass pass1 job kepts notes _ so;
        laid = lays_deed key key1 pass pass1 d holder.spots notes (λ answer. refl);
      }

  at_pass : (job : Job) (kepts : List ℕ) → AddsDeed key made key1 pass1 (deed_with_words made (Begin (slot_number key) job) kepts) → AddsDeed key pass key1 pass1 (deed_with_words pass (Begin (slot_number key) job) kepts)
  at_pass job kepts notes = subst (λ (p : Pass). AddsDeed key p key1 pass1 (deed_with_words p (Begin (slot_number key) job) kepts)) same notes

  pub begun_retire : (v kept : ℕ) → AddsDeed key made key1 pass1 (deed_with_words made (Begin (slot_number key) (Retire v)) (kept ∷ [])) → Begun words (Retire v) (kept ∷ []) (Append v) holder pass queue key1 pass1
  begun_retire v kept notes = let here = at_pass (Retire v) (kept ∷ []) notes in begun (Retire v) (kept ∷ []) (Append v) here (begun_retire_so key key1 pass pass1 v kept here)

  pub begun_out : (stays : Bool) → AddsEvent key made key1 pass1 (Begin (slot_number key) (job_of stays)) → Begun words (job_of stays) [] (Out stays) holder pass queue key1 pass1
  begun_out stays notes = let here = at_pass (job_of stays) [] notes in begun (job_of stays) [] (Out stays) here (out_so key key1 pass pass1 stays here)

  pub begun_flush : AddsEvent key made key1 pass1 (Begin (slot_number key) Flush) → (n : ℕ) × Begun words Flush [] (flushing_at n (slot_of key).batch) holder pass queue key1 pass1
  begun_flush notes = let here = at_pass Flush [] notes in (_, begun Flush [] _ here (flush_so key key1 pass pass1 here))

module _ {T : Type 0} (words : Words T) (holder : Holder T) (pass : Pass) (queue : Further) (key1 : SlotKey) (pass1 : Pass) (had : Had) where
  abbrev first : CallState
  first = record { key = key1; pass = pass1; batch = keys_in holder.batch; queue = further_in queue; had = had }

  so_begun : (job : Job) (kepts : List ℕ) (place : Place) → Begun words job kepts place holder pass queue key1 pass1 → BeginsSo holder.key pass job kepts (keys_in holder.batch) had first
  so_begun job kepts place b = record { begins = b.begins; batch = refl; none = ap labels_of b.empty; had_none = refl }

  -- what a call did that attempted, and ended
  module _ (job : Job) (kepts : List ℕ) (place : Place) (b : Begun words job kepts place holder pass queue key1 pass1) (settled : CallState) (on : Onward key1 pass1 settled.key settled.pass) (key' : SlotKey) (pass' : Pass) (values' : ValueKeys) (had' : Had)
      (ends : Ends settled key' pass' values' had') where
    pub whole_on : Onward holder.key pass key' pass'
    whole_on =
        onward_twice holder.key settled.key key' pass settled.pass pass' (onward_twice holder.key key1 settled.key pass pass1 settled.pass b.begins.keeps.on on)
        (ends_on settled key' pass' values' had' ends)

  -- A flush.
  module _ (n : ℕ) (b : Begun words Flush [] (flushing_at n (slot_of holder.key).batch) holder pass queue key1 pass1) where
    -- it marks where there is something to retire
    pub flush_from : MarksFrom 1 key1 (further_in queue)
    flush_from = (
      λ some. (record { note = n; queue = []; marking = b.stands ∙ ap (λ place. Some (record { place = place; queue = [] })) (marks (slot_of holder.key).batch (subst (λ (vs : List ℕ). 1 ≤ length vs) b.begins.keeps.batch some)) }, sym (ap labels_of b.empty)),
      λ few. b.stands ∙ (λ i. Some (record { place = none (slot_of holder.key).batch (subst (λ (vs : List ℕ). length vs < 1) b.begins.keeps.batch few) i; queue = sym (ap labels_of b.empty) i })),
    )
      where
        marks : (batch : List ℕ) → 1 ≤ length batch → flushing_at n batch ≡ Mark 0 n []
        marks [] some = absurd (omega (arith, some))
        marks (v ∷ batch) some = refl

        none : (batch : List ℕ) → length batch < 1 → flushing_at n batch ≡ Rest [] []
        none [] few = refl
        none (v ∷ batch) few = absurd (omega (arith, few))

    pub has_flushed : (settled : CallState) (retired : Bool) → Settles 1 first settled retired → (key' : SlotKey) (pass' : Pass) (values' : ValueKeys) (had' : Had) → Ends settled key' pass' values' had' → HasBatch key' pass' values'
        → Flushes holder.key pass (keys_in holder.batch) had key' pass' values' had' retired
    has_flushed settled retired settles key' pass' values' had' ends batch =
        let on = whole_on Flush [] _ b settled (settles_on 1 first settled retired settles) key' pass' values' had' ends in
        record {
          begun = first;
          begins = so_begun Flush [] _ b;
          settled = settled;
          settles = settles;
          ends = ends;
          rests = call_rests settled key' pass' values' had' ends holder.key pass on batch;
          active = on.active;
          life = on.life;
        }

  -- A retirement.
  module _ (v kept : ℕ) (b : Begun words (Retire v) (kept ∷ []) (Append v) holder pass queue key1 pass1) where
    pub retire_puts : MayPut key1 v (further_in queue)
    retire_puts = (Append v, [], b.stands, inl (refl, sym (ap labels_of b.empty)))

    pub has_retired : (settled : CallState) (retired : Bool) → DrainsOne first v kept settled retired → (key' : SlotKey) (pass' : Pass) (values' : ValueKeys) (had' : Had) → Ends settled key' pass' values' had' → HasBatch key' pass' values'
        → RetiresOne holder.key pass v kept (keys_in holder.batch) had key' pass' values' had' retired
    has_retired settled retired round key' pass' values' had' ends batch =
        let on = whole_on (Retire v) (kept ∷ []) _ b settled (round_on first v kept settled retired round) key' pass' values' had' ends in
        record {
          begun = first;
          begins = so_begun (Retire v) (kept ∷ []) _ b;
          settled = settled;
          drains_one = round;
          ends = ends;
          rests = call_rests settled key' pass' values' had' ends holder.key pass on batch;
          active = on.active;
          life = on.life;
        }

-- A call that a take or a gathering began goes on. The pass is as it was when the queue was made.
module _ {T : Type 0} (words : Words T) (holder : Holder T) (pass made : Pass) (same : made ≡ pass) (queue : Further) (empty : IsEmpty (further_in queue) pass) where
  pub resumes_under : IsHolderFor words holder pass → IsUnderWay words holder queue made
  resumes_under is = subst (IsUnderWay words holder queue) (sym same)
      (record { holds = is; queue_is = (empty.0, subst (λ (held : List (HeldKey Logged)). AreToldIn pass.seen held) (sym empty.1) tt) })

  pub resumes_at : BeginsToAttempt holder.key → IsToMark holder.key (further_in queue)
  resumes_at at = (at.0, at.1 ∙ sym (ap labels_of empty.1))

  module _ (had : Had) (settled : CallState) (retired : Bool) (settles : Settles 0 (record { key = holder.key; pass = made; batch = keys_in holder.batch; queue = further_in queue; had = had }) settled retired) where
    here : Settles 0 (record { key = holder.key; pass = pass; batch = keys_in holder.batch; queue = further_in queue; had = had }) settled retired
    here = subst (λ (p : Pass). Settles 0 (record { key = holder.key; pass = p; batch = keys_in holder.batch; queue = further_in queue; had = had }) settled retired) same settles

    pub has_resumed : (key' : SlotKey) (pass' : Pass) (values' : ValueKeys) (had' : Had) → Ends settled key' pass' values' had' → HasBatch key' pass' values' → Resumes holder.key pass (keys_in holder.batch) had key' pass' values' had'
    has_resumed key' pass' values' had' ends batch =
        let on = onward_twice holder.key settled.key key' pass settled.pass pass' (settles_on 0 _ settled retired here) (ends_on settled key' pass' values' had' ends) in
        record {
          queue = further_in queue;
          none = ap labels_of empty.1;
          settled = settled;
          retired = retired;
          settles = here;
          ends = ends;
          rests = call_rests settled key' pass' values' had' ends holder.key pass on batch;
          active = on.active;
          life = on.life;
        }

-- the key of the value is for the same value, which comes last
pub same_label : (held : List (HeldKey Logged)) (log : List Logged) → label_of (with_list held log) ≡ label_of held
same_label [] log = refl
same_label (h ∷ held) log = refl
