-- What the events make at which a call begins and returns, and what they leave.
use Rattle.std.proofs.Common.{◌≡◌, ℕ, ◌<◌, ◌≤◌, Bool, true, false, List, [], ◌∷◌, ◌++◌, length, get_or, Option, Some, None, refl, sym, ap, ◌∙◌, ◌⊎◌, inl, inr}
use Rattle.std.proofs.lemmas.List.{get_or-set_same, get_or_past}
use Rattle.std.proofs.lemmas.Bool.{cases_lt}
use Rattle.seize_machine.specs.Machine.State.{Append, Progress, Head, Inactive, Out, Place, Rest, Slot, State, head_at, is_active, is_idle, no_slot, slot_at}
use Rattle.seize_machine.specs.Machine.Event.{Begin, Event, Put, Return}
use Rattle.seize_machine.specs.Machine.Next.{begun_at, flushing_at, slot_set}
use Rattle.seize_machine.specs.declared.machine.event.Answer.{Answer}
use Rattle.seize_machine.specs.declared.machine.event.Answer.TheVariants.{Done}
use Rattle.seize_machine.specs.declared.machine.event.Job.{Job}
use Rattle.seize_machine.specs.declared.machine.event.Job.TheVariants.{Flush, Leave, Refresh, Retire}
use Rattle.seize_machine.proofs.Facts.{Step, after_put, beginning, next_of, some_is, step_put}
use Rattle.seize_book.specs.Adding.{deed_with_words, private}
use Rattle.seize_book.specs.Entry.{Deed}
use Rattle.seize_book.specs.Passes.{IsSamePass, events_by}
use Rattle.seize_book.specs.Slots.{AddsDeed, AddsEvent, slot_number, slot_of}
use Rattle.seize_book.specs.declared.book.pass.Pass.{Pass}
use Rattle.seize_book.specs.declared.book.slot_key.SlotKey.{SlotKey}
use Rattle.seize_words.proofs.Facts.{deeds_grew, events_grew}
use Rattle.seize_calls.specs.Calls.{Begins, job_of}
use Rattle.seize_calls.specs.Settling.{PutsValue, done_event}
use Rattle.seize_calls.specs.Inserts.{Continues}
use Rattle.seize_calls.proofs.Alone.{onward_event}
use Rattle.seize_calls.proofs.Keeps.{keeps_from, outcome, same_private, state_before, step_noted}
use Rattle.seize_calls.proofs.Marks.{within}

-- a call returns
after_return : (size : ℕ) (st : State) (s : ℕ) (d : State × Answer) → Step size st (Return s) d
    → ((slot_at d.0 s).call ≡ None) × ((slot_at d.0 s).batch ≡ (slot_at st s).batch) × ((slot_at d.0 s).used ≡ (slot_at st s).used) × (d.0.heads ≡ st.heads) × (d.1 ≡ Done)
after_return size st _ _ (Step.returned s stands) =
    let same = get_or-set_same st.slots s _ no_slot (within st s _ stands) in (ap (λ (z : Slot). z.call) same, ap (λ (z : Slot). z.batch) same, ap (λ (z : Slot). z.used) same, refl, refl)

module _ (key key' : SlotKey) (pass pass' : Pass) (notes : AddsEvent key pass key' pass' (Return (slot_number key))) where
  abbrev event : Event
  event = Return (slot_number key)

  so : ((slot_at (outcome key key' pass pass' event [] notes).0 (slot_number key)).call ≡ None) × ((slot_at (outcome key key' pass pass' event [] notes).0 (slot_number key)).batch ≡ (slot_at (state_before key key' pass pass' event [] notes) (slot_number key)).batch)
      × ((slot_at (outcome key key' pass pass' event [] notes).0 (slot_number key)).used ≡ (slot_at (state_before key key' pass pass' event [] notes) (slot_number key)).used)
      × ((outcome key key' pass pass' event [] notes).0.heads ≡ (state_before key key' pass pass' event [] notes).heads) × ((outcome key key' pass pass' event [] notes).1 ≡ Done)
  so = after_return pass.size (state_before key key' pass pass' event [] notes) (slot_number key) (outcome key key' pass pass' event [] notes) (step_noted key key' pass pass' event [] notes)

  pub keeps_returned : Continues key pass key' pass'
  keeps_returned = keeps_from key key' pass pass' event [] notes so.1 so.2 (ap (λ (hs : List Head). is_active (get_or hs (slot_number key) Inactive)) so.3) refl

  pub call_returned : (slot_of key').call ≡ None
  call_returned = ap (λ (z : Slot). z.call) notes.2.1.is ∙ so.0

  pub made_returned : events_by pass' ≡ events_by pass ++ done_event pass event
  made_returned = events_grew pass pass' event notes.0 notes.2.0 ∙ ap (λ (a : Answer). events_by pass ++ (private pass event, a) ∷ []) so.4

-- an event by itself is the same with a pass as it was before, of a slot by the same number
pub same_done : (pass pass' : Pass) → IsSamePass pass pass' → (event : ℕ → Event) (s s' : ℕ) → s' ≡ s → done_event pass' (event s') ≡ done_event pass (event s)
same_done pass pass' same event s s' is = ap (λ (d : Deed). (d, Done) ∷ []) (same_private pass pass' same (event s')) ∙ ap (λ (k : ℕ). done_event pass (event k)) is

-- A call begins.

pub there : (st : State) (s : ℕ) → is_idle (slot_at st s) ≡ true → s < length st.slots
there st s idle = go (cases_lt s (length st.slots))
  where
    go : (s < length st.slots) ⊎ (length st.slots ≤ s) → s < length st.slots
    go (inl less) = less
    go (inr past) = absurd (let none : is_idle no_slot ≡ true = sym (ap is_idle (get_or_past st.slots s no_slot past)) ∙ idle in cc)

abbrev pub Kept : State → ℕ → State × Answer → Progress → Type 0
Kept st s d call =
    ((slot_at d.0 s).call ≡ Some call) × ((slot_at d.0 s).batch ≡ (slot_at st s).batch) × ((slot_at d.0 s).used ≡ (slot_at st s).used) × (d.0.heads ≡ st.heads) × (d.1 ≡ Done)

begun_so : (size : ℕ) (st : State) (s : ℕ) (job : Job) (d : State × Answer) (place : Place) → Step size st (Begin s job) d → beginning st s job ≡ Some place → Kept st s d (record { place = place; queue = [] })
begun_so size st _ _ _ place (Step.begun_retire s v idle may) is = absurd (let none : Option.None ≡ Some place = is in cc)
begun_so size st _ _ _ place (Step.gathered s idle off lone some) is = absurd (let none : Option.None ≡ Some place = is in cc)
begun_so size st _ _ _ place (Step.begun_other s job other idle which may) is =
    let same = get_or-set_same st.slots s (begun_at (slot_at st s) other) no_slot (there st s idle) in (
      ap (λ (z : Slot). z.call) same ∙ ap (λ (p : Place). Some (record { place = p; queue = [] })) (some_is _ _ (sym may.1 ∙ is)),
      ap (λ (z : Slot). z.batch) same,
      ap (λ (z : Slot). z.used) same,
      refl,
      refl,
    )

retire_so : (size : ℕ) (st : State) (s v : ℕ) (d : State × Answer) → Step size st (Begin s (Retire v)) d → Kept st s d (record { place = Append v; queue = [] })
retire_so size st _ _ _ (Step.begun_retire s v idle may) =
    let same = get_or-set_same st.slots s (begun_at (slot_at st s) (Append v)) no_slot (there st s idle) in
    (ap (λ (z : Slot). z.call) same, ap (λ (z : Slot). z.batch) same, ap (λ (z : Slot). z.used) same, refl, refl)
retire_so size st _ _ _ (Step.begun_other s (Retire v) place idle which may) = absurd (let none : Option.None ≡ Some place = may.1 in cc)

module _ (key key' : SlotKey) (pass pass' : Pass) (job : Job) (kepts : List ℕ) (notes : AddsDeed key pass key' pass' (deed_with_words pass (Begin (slot_number key) job) kepts)) (call : Progress)
    (so : Kept (state_before key key' pass pass' (Begin (slot_number key) job) kepts notes) (slot_number key) (outcome key key' pass pass' (Begin (slot_number key) job) kepts notes) call) where
  pub begins_so : Begins key pass job kepts key' pass'
  begins_so = record {
    keeps = keeps_from key key' pass pass' (Begin (slot_number key) job) kepts notes so.1 so.2 (ap (λ (hs : List Head). is_active (get_or hs (slot_number key) Inactive)) so.3) refl;
    made = deeds_grew pass pass' (deed_with_words pass (Begin (slot_number key) job) kepts) notes.0 notes.2.0 ∙ ap (λ (a : Answer). events_by pass ++ (deed_with_words pass (Begin (slot_number key) job) kepts, a) ∷ []) so.4;
  }

  pub call_begun : (slot_of key').call ≡ Some call
  call_begun = ap (λ (z : Slot). z.call) notes.2.1.is ∙ so.0

-- by its job
module _ (key key' : SlotKey) (pass pass' : Pass) where
  pub out_so : (stays : Bool) (notes : AddsEvent key pass key' pass' (Begin (slot_number key) (job_of stays)))
      → Kept (state_before key key' pass pass' (Begin (slot_number key) (job_of stays)) [] notes) (slot_number key) (outcome key key' pass pass' (Begin (slot_number key) (job_of stays)) [] notes) (record { place = Out stays; queue = [] })
  out_so true notes = begun_so pass.size _ (slot_number key) Refresh _ (Out true) (step_noted key key' pass pass' (Begin (slot_number key) Refresh) [] notes) refl
  out_so false notes = begun_so pass.size _ (slot_number key) Leave _ (Out false) (step_noted key key' pass pass' (Begin (slot_number key) Leave) [] notes) refl

  abbrev pub flush_call : (notes : AddsEvent key pass key' pass' (Begin (slot_number key) Flush)) → Progress
  flush_call notes = record { place = flushing_at (length (state_before key key' pass pass' (Begin (slot_number key) Flush) [] notes).slots) (slot_of key).batch; queue = [] }

  pub flush_so : (notes : AddsEvent key pass key' pass' (Begin (slot_number key) Flush)) → Kept (state_before key key' pass pass' (Begin (slot_number key) Flush) [] notes) (slot_number key) (outcome key key' pass pass' (Begin (slot_number key) Flush) [] notes) (flush_call notes)
  flush_so notes =
      let st = state_before key key' pass pass' (Begin (slot_number key) Flush) [] notes in
      begun_so pass.size st (slot_number key) Flush _ (flushing_at (length st.slots) (slot_of key).batch) (step_noted key key' pass pass' (Begin (slot_number key) Flush) [] notes)
      (ap (λ (z : Slot). Some (flushing_at (length st.slots) z.batch)) notes.2.1.was)

  pub begun_retire_so : (v kept : ℕ) (notes : AddsDeed key pass key' pass' (deed_with_words pass (Begin (slot_number key) (Retire v)) (kept ∷ [])))
      → Kept (state_before key key' pass pass' (Begin (slot_number key) (Retire v)) (kept ∷ []) notes) (slot_number key) (outcome key key' pass pass' (Begin (slot_number key) (Retire v)) (kept ∷ []) notes) (record { place = Append v; queue = [] })
  begun_retire_so v kept notes = retire_so pass.size _ (slot_number key) v _ (step_noted key key' pass pass' (Begin (slot_number key) (Retire v)) (kept ∷ []) notes)

-- A value is put.
module _ (key key' : SlotKey) (pass pass' : Pass) (notes : AddsEvent key pass key' pass' (Put (slot_number key))) (v : ℕ) (from : Place) (before after : List ℕ)
    (stands : (slot_of key).call ≡ Some (record { place = from; queue = before })) (turn : ((from ≡ Append v) × (before ≡ after)) ⊎ ((from ≡ Rest [] []) × (before ≡ v ∷ after))) where
  abbrev put : Event
  put = Put (slot_number key)

  abbrev pub put_st : State
  put_st = state_before key key' pass pass' put [] notes

  abbrev batch : List ℕ
  batch = (slot_of key).batch

  abbrev new : Slot
  new = let z = slot_at put_st (slot_number key) in record { used = z.used; batch = z.batch ++ v ∷ []; call = Some (record { place = after_put pass.size (length put_st.slots) (z.batch ++ v ∷ []); queue = after }) }

  here : (slot_at put_st (slot_number key)).call ≡ Some (record { place = from; queue = before })
  here = ap (λ (z : Slot). z.call) notes.2.1.was ∙ stands

  is_put : outcome key key' pass pass' put [] notes ≡ (slot_set put_st (slot_number key) new, Done)
  is_put = some_is _ _ (sym notes.2.1.legal ∙ next_of pass.size put_st put _ (step_put pass.size put_st (slot_number key) v from before after here turn))

  slot_put : slot_of key' ≡ new
  slot_put = notes.2.1.is ∙ ap (λ (x : State × Answer). slot_at x.0 (slot_number key)) is_put ∙ get_or-set_same put_st.slots (slot_number key) new no_slot (within put_st (slot_number key) _ here)

  pub puts_so : PutsValue key pass v key' pass'
  puts_so = record {
    on = onward_event key key' pass pass' (private pass put) notes refl refl (ap (λ (z : Slot). z.used) slot_put ∙ ap (λ (z : Slot). z.used) notes.2.1.was)
        (notes.2.1.is_now_active ∙ ap (λ (x : State × Answer). is_active (head_at x.0 (slot_number key))) is_put ∙ notes.2.1.was_active);
    batch = ap (λ (z : Slot). z.batch) slot_put ∙ ap (λ (z : Slot). z.batch ++ v ∷ []) notes.2.1.was;
    made = events_grew pass pass' put notes.0 notes.2.0 ∙ ap (λ (x : State × Answer). events_by pass ++ (private pass put, x.1) ∷ []) is_put;
  }

  pub call_put : (slot_of key').call ≡ Some (record { place = after_put pass.size (length put_st.slots) (batch ++ v ∷ []); queue = after })
  call_put = ap (λ (z : Slot). z.call) slot_put ∙ ap (λ (z : Slot). Some (record { place = after_put pass.size (length put_st.slots) (z.batch ++ v ∷ []); queue = after })) notes.2.1.was
