-- What stays over the parts of a call.
use Rattle.std.proofs.Common.{◌≡◌, ℕ, ◌<◌, ◌≤◌, Bool, true, false, if◌then◌else◌, nat_le, List, [], ◌∷◌, ◌++◌, Option, Some, is_some, length, max, refl, sym, ap, subst, ◌∙◌, append-nil, inl, inr, ◌⊎◌, arith}
use Rattle.std.proofs.lemmas.List.{length_push}
use Rattle.seize_machine.specs.Machine.State.{Append, Progress, Mark, Place, Rest}
use Rattle.seize_machine.specs.Machine.Event.{Put}
use Rattle.seize_machine.specs.Machine.Next.{of_call}
use Rattle.seize_machine.proofs.Facts.{after_put}
use Rattle.seize_book.specs.Passes.{events_by}
use Rattle.seize_book.specs.Private.{next_at, puts_next}
use Rattle.seize_book.specs.Slots.{AddsEvent, slot_number, slot_of}
use Rattle.seize_book.specs.Values.{values_of}
use Rattle.seize_book.specs.declared.book.pass.Pass.{Pass}
use Rattle.seize_book.specs.declared.book.slot_key.SlotKey.{SlotKey}
use Rattle.seize_book.specs.declared.book.value_keys.ValueKeys.{ValueKeys}
use Rattle.seize_book.specs.Kept.{AreTold, IsTold}
use Rattle.seize_words.proofs.Facts.{all_told_later, pushed_told, told_later}
use Rattle.seize_calls.specs.Alone.{Onward}
use Rattle.seize_calls.specs.Batches.{IsPushed}
use Rattle.seize_calls.specs.Settling.{CallState, DrainsOne, HasQueue, IsToMark, MarksFrom, MayPut, PutsValue, Settles, Stays}
use Rattle.seize_calls.proofs.Alone.{onward_none, onward_twice}
use Rattle.seize_calls.proofs.Events.{call_put, put_st, puts_so}
use Rattle.seize_calls.proofs.Handed.{queues_none}
use Rattle.seize_calls.proofs.Holders.{HasKeys}

pub settles_on : (least : ℕ) (a b : CallState) (retired : Bool) → Settles least a b retired → Onward a.key a.pass b.key b.pass
settles_on least a b false stays = stays.on
settles_on least a b true went = went.on

pub settles_rest : (least : ℕ) (a b : CallState) (retired : Bool) → Settles least a b retired → HasQueue b.key b.queue
settles_rest least a b false stays = stays.rests
settles_rest least a b true went = went.rests

-- what was attempted at any length was so at this one
pub settles_any : (least : ℕ) (a b : CallState) (retired : Bool) → Settles 0 a b retired → Settles least a b retired
settles_any least a b false stays =
    record {
      on = stays.on;
      batch = stays.batch;
      rests = stays.rests;
      finds = stays.finds;
      made = stays.made;
      too_few = read stays.too_few;
      keys = stays.keys;
      queued = stays.queued;
      had_none = stays.had_none;
    }
  where
    read : {A B : Type 0} {many : ℕ} → (A × (many < 0)) ⊎ B → (A × (many < least)) ⊎ B
    read (inl none) = absurd (omega (arith, none.1))
    read (inr more) = inr more
settles_any least a b true went = went

pub round_on : (a : CallState) (v kept : ℕ) (b : CallState) (retired : Bool) → DrainsOne a v kept b retired → Onward a.key a.pass b.key b.pass
round_on a v kept b retired r = onward_twice a.key r.full.key b.key a.pass r.full.pass b.pass r.puts.on (settles_on _ r.full b retired r.settles)

-- nothing was attempted
pub only_stays : (least : ℕ) (a : CallState) → length (slot_of a.key).batch < least → HasQueue a.key a.queue → Stays least a a
only_stays least a few rests = record {
  on = onward_none a.key a.pass;
  batch = refl;
  rests = rests;
  finds = [];
  made = sym (append-nil (events_by a.pass));
  too_few = inl (refl, few);
  keys = (refl, refl);
  queued = queues_none a.queue;
  had_none = refl;
}

-- A value is put.

pub may_put : (key : SlotKey) (v : ℕ) (queue : ValueKeys) → MayPut key v queue → is_some (puts_next (slot_of key)) ≡ true
may_put key v queue may = go may.0 may.1 may.2 may.3
  where
    go : (from : Place) (before : List ℕ) → (slot_of key).call ≡ Some (record { place = from; queue = before }) → ((from ≡ Append v) × (before ≡ values_of queue)) ⊎ ((from ≡ Rest [] []) × (before ≡ v ∷ values_of queue))
        → is_some (puts_next (slot_of key)) ≡ true
    go from before is (inl turn) = ap (λ (o : Option Progress). is_some (of_call next_at o)) (is ∙ ap (λ (p : Place). Some (record { place = p; queue = before })) turn.0)
    go from before is (inr turn) =
        ap (λ (o : Option Progress). is_some (of_call next_at o)) (is ∙ (λ i. Some (record { place = turn.0 i; queue = turn.1 i })))

module _ (key key' : SlotKey) (pass pass' : Pass) (v : ℕ) (queue : ValueKeys) (may : MayPut key v queue) (notes : AddsEvent key pass key' pass' (Put (slot_number key))) where
  pub is_put : PutsValue key pass v key' pass'
  is_put = puts_so key key' pass pass' notes v may.0 may.1 (values_of queue) may.2 may.3

  abbrev batch : List ℕ
  batch = (slot_of key).batch ++ v ∷ []

  abbrev slots : ℕ
  slots = length (put_st key key' pass pass' notes v may.0 may.1 (values_of queue) may.2 may.3).slots

  stands : (slot_of key').call ≡ Some (record { place = after_put pass.size slots batch; queue = values_of queue })
  stands = call_put key key' pass pass' notes v may.0 may.1 (values_of queue) may.2 may.3

  many : length batch ≡ length (slot_of key').batch
  many = ap (λ (vs : List ℕ). length vs) (sym is_put.batch)

  put_marks : pass.size ≤ length (slot_of key').batch → 1 ≤ length (slot_of key').batch → IsToMark key' queue
  put_marks full some = (
    record {
      note = slots;
      queue = values_of queue;
      marking = stands ∙ ap (λ (b : Bool). Some (record { place = if b then Mark 0 slots [] else Rest [] []; queue = values_of queue })) (reaches pass.size (length batch) (omega (arith, many, full)) (omega (arith, many, some)));
    },
    refl,
  )
    where
      reaches : (size k : ℕ) → size ≤ k → 1 ≤ k → nat_le (max 1 size) k ≡ true
      reaches size k le some = grind arith

  put_rests : length (slot_of key').batch < max 1 pass.size → HasQueue key' queue
  put_rests few = stands ∙ ap (λ (b : Bool). Some (record { place = if b then Mark 0 slots [] else Rest [] []; queue = values_of queue })) (short (max 1 pass.size) (length batch) (omega (arith, many, few)))
    where
      short : (a b : ℕ) → b < a → nat_le a b ≡ false
      short a b less = grind arith

  pub put_from : (size : ℕ) → size ≡ pass.size → MarksFrom size key' queue
  put_from size is =
      let grew = length_push (slot_of key).batch v in
      (λ full. put_marks (omega (arith, full, is)) (omega (arith, many, grew)), λ few. put_rests (subst (λ (k : ℕ). length (slot_of key').batch < max 1 k) is few))

pub put_keys : (a b : CallState) (v kept : ℕ) → PutsValue a.key a.pass v b.key b.pass → IsPushed a.batch v kept b.batch → b.queue ≡ a.queue → HasKeys a → IsTold a.pass.seen v kept → HasKeys b
put_keys a b v kept puts pushed queue has told = (
  (
    pushed.0 ∙ (has.0.0 ∙ sym puts.on.same.0),
    pushed.1 ∙ (ap (λ (vs : List ℕ). vs ++ v ∷ []) has.0.1 ∙ sym puts.batch),
    (pushed_told b.pass.seen a.batch.keys.held b.batch.keys.held v kept pushed.1 pushed.2
        (all_told_later a.pass.seen b.pass.seen a.batch.keys.held puts.on.grows has.0.2) (told_later a.pass.seen b.pass.seen v kept puts.on.grows told)),
  ),
  ap (λ (keys : ValueKeys). keys.keys.name) queue ∙ (has.1 ∙ sym puts.on.same.0),
  subst (λ (keys : ValueKeys). AreTold keys b.pass) (sym queue) (all_told_later a.pass.seen b.pass.seen a.queue.keys.held puts.on.grows has.2),
)

pub below_full : (size many : ℕ) → many < size → many < max 1 size
below_full size many less = grind arith
