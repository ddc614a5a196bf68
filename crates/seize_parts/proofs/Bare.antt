-- Where a pass is alone and no other slot is active, a slot that attempted its batch has none; and it has none when it has left, where
-- nothing is put.
use Rattle.std.proofs.Common.{◌≡◌, ℕ, suc, ◌<◌, ◌≤◌, ◌⊎◌, Bool, true, false, List, [], ◌∷◌, ◌++◌, length, None, Some, refl, sym, ap, subst, ◌∙◌, arith}
use native.Mathlib.Decide.{ℕ_discrete}
use mathlib.Core.Logic.{inl, inr}
use Rattle.seize_machine.proofs.Facts.{Step, head_frame, step_of}
use Rattle.seize_machine.specs.Machine.Event.{Event, ReadHead, SwapOut}
use Rattle.seize_machine.specs.declared.machine.event.Job.TheVariants.{Leave}
use Rattle.seize_machine.specs.Machine.Frames.{changes_head_of}
use Rattle.seize_machine.specs.Machine.History.{done_by, or_illegal}
use Rattle.seize_machine.specs.Machine.Next.{Outcome, next}
use Rattle.seize_machine.specs.Machine.State.{Slot as Record, State, head_at, is_active, slot_at}
use Rattle.seize_machine.specs.declared.machine.event.Answer.{Answer}
use Rattle.seize_machine.specs.declared.machine.event.Answer.TheVariants.{Head as HeadRead, Illegal}
use Rattle.seize_book.specs.Adding.{private}
use Rattle.seize_book.specs.Book.{with_answers}
use Rattle.seize_book.specs.Entry.{Deed, Entry, Made, Used, timed_deed}
use Rattle.seize_book.specs.Homesteads.{state_seen}
use Rattle.seize_book.specs.Passes.{events_in}
use Rattle.seize_book.specs.Slots.{slot_number, slot_of}
use Rattle.seize_book.specs.Tokens.{IsSole}
use Rattle.seize_book.specs.Values.{values_of}
use Rattle.seize_book.specs.declared.book.pass.Pass.{Pass}
use Rattle.seize_calls.proofs.Alone.{made_there}
use Rattle.seize_calls.proofs.Current.{looked_active, shown}
use Rattle.seize_calls.specs.Batches.{keys_in}
use Rattle.seize_calls.specs.Calls.{Flushes, Leaves}
use Rattle.seize_calls.specs.Aparts.{without_puts}
use Rattle.seize_calls.specs.Handing.{AreTheirs, Had, Handings, values_put}
use Rattle.seize_calls.specs.Marks.{actives, readings}
use Rattle.seize_calls.specs.Settling.{CallState, Drains, Settles, Stays}
use Rattle.seize_calls.specs.Slots.{IsActive, IsInUse, IsInactive, IsOfWords, IsPassOf, Prepares, SlotEnters, SlotFlushes, SlotLeaves, SlotLooks, its_number}
use Rattle.seize_calls.specs.declared.batch.Batch.{Batch}
use Rattle.seize_calls.specs.declared.slot.Slot.{Slot}
use Rattle.seize_calls.specs.Walking.{handed_in}
use Rattle.seize_alone.proofs.Segments.{drained}
use Rattle.seize_words.specs.declared.activation.Activation.{Activation}
use Rattle.seize_words.specs.declared.words.Words.{Words}
use Rattle.seize_parts.specs.Places.{IsUnmoved}
use Rattle.seize_parts.specs.Sweeps.{AreOff, IsLedBy, KeepsActive, KeepsIdle}
use Rattle.seize_parts.proofs.Placed.{still_for}
use Rattle.seize_parts.proofs.Stilled.{still_looked}
use Rattle.seize_parts.proofs.Swept.{active_led, entered_off, enters, flushes, idle_call, idle_led, leaves, led_as, led_made, led_prepared, led_then, looks, other, prepared_same, prepared_sole, still_sole}

-- Reading a head answers whether it is active, and changes none.

is_read : (size : ℕ) (st : State) (s n : ℕ) (t : State × Answer) → Step size st (ReadHead s n) t → t.1 ≡ HeadRead (is_active (head_at st n))
is_read size st s n _ (Step.marked _ _ then note marks queue e r at) = refl
is_read size st s n _ (Step.looked_at _ b won m later queue e) = refl

same_answer : (a b : Bool) → HeadRead a ≡ HeadRead b → a ≡ b
same_answer a b is = cc

read_one : (st : State) (d : Deed) (s n : ℕ) (found : Bool) → d.event ≡ ReadHead s n → (done_by next st (timed_deed d)).1 ≡ HeadRead found
    → (found ≡ is_active (head_at st n)) × ((t : ℕ) → head_at (done_by next st (timed_deed d)).0 t ≡ head_at st t)
read_one st d s n found is answers = go (next d.size st d.event) refl answers
  where
    go : (o : Outcome) → next d.size st d.event ≡ o → (or_illegal st o).1 ≡ HeadRead found → (found ≡ is_active (head_at st n)) × ((t : ℕ) → head_at (or_illegal st o).0 t ≡ head_at st t)
    go None none answered = absurd (let e : Illegal ≡ HeadRead found = answered in cc)
    go (Some done) some answered =
        let step = step_of d.size st d.event done some in (
          same_answer found _ (sym answered ∙ is_read d.size st s n done (subst (λ (e : Event). Step d.size st e done) is step)),
          λ t. head_frame t d.size st d.event done step (ap (changes_head_of t) is),
        )

same_first : (a b : Deed × Answer) (more rest : List (Deed × Answer)) → a ∷ more ≡ b ∷ rest → (a ≡ b) × (more ≡ rest)
same_first a b more rest h = (cc, cc)

abbrev OthersOff : ℕ → State → Type 0
OthersOff s st = (t : ℕ) → ¬ (t ≡ s) → is_active (head_at st t) ≡ false

-- of heads that were read in order at most one is active: the slot's own
few_active : (pass : Pass) (s n : ℕ) (finds : List Bool) (st : State) (log : List Entry) → events_in (with_answers st log) ≡ readings pass s n finds → OthersOff s st
    → (length (actives n finds) ≤ 1) × (s < n → actives n finds ≡ [])
few_active pass s n [] st log is off = (omega arith, λ less. refl)
few_active pass s n (found ∷ finds) st [] is off = absurd (let e : [] ≡ readings pass s n (found ∷ finds) = is in cc)
few_active pass s n (found ∷ finds) st (Used u ∷ log) is off = few_active pass s n (found ∷ finds) st log is off
few_active pass s n (found ∷ finds) st (Made d ∷ log) is off =
    let done : State × Answer = done_by next st (timed_deed d) in
    let same = same_first (d, done.1) _ (events_in (with_answers done.0 log)) (readings pass s (suc n) finds) is in
    let read = read_one st d s n found (ap (λ (a : Deed × Answer). a.0.event) same.0) (ap (λ (a : Deed × Answer). a.1) same.0) in
    let rest = few_active pass s (suc n) finds done.0 log same.1 (λ t differs. ap is_active (read.1 t) ∙ off t differs) in
    counted (ℕ_discrete n s) found read.0 rest
  where
    counted : Dec (n ≡ s) → (b : Bool) → b ≡ is_active (head_at st n) → (length (actives (suc n) finds) ≤ 1) × (s < suc n → actives (suc n) finds ≡ [])
        → (length (actives n (b ∷ finds)) ≤ 1) × (s < n → actives n (b ∷ finds) ≡ [])
    counted own false at rest = (rest.0, λ less. rest.1 (omega (arith, less)))
    counted (yes own) true at rest =
        let none = rest.1 (omega (arith, own)) in let few : length (actives (suc n) finds) ≡ 0 = ap (λ (ms : List ℕ). length ms) none in
        (omega (arith, few), λ less. absurd (omega (arith, less, own)))
    counted (no differs) true at rest = absurd (let e : true ≡ false = at ∙ off n differs in cc)

no_values : (vs : List ℕ) → length vs < 1 → vs ≡ []
no_values [] none = refl
no_values (v ∷ vs) none = absurd (omega (arith, none))

-- A batch that stays has no value.
stays_short : (a b : CallState) → Stays 1 a b → IsSole a.pass.id → OthersOff (slot_number a.key) (state_seen a.pass) → (slot_of a.key).batch ≡ []
stays_short a b stays sole off = no_values batch (few stays.too_few)
  where
    batch : List ℕ
    batch = (slot_of a.key).batch

    few : ((stays.finds ≡ []) × (length batch < 1)) ⊎ (length (actives 0 stays.finds) ≡ suc (length batch)) → length batch < 1
    few (inl short) = short.1
    few (inr many) =
        let one = (few_active a.pass (slot_number a.key) 0 stays.finds (state_seen a.pass) (stays.on.alone sole).0 (made_there a.pass b.pass _ stays.on.same stays.on.alone sole stays.made) off).0 in
        omega (arith, one, many)

-- A queue with nothing in it stays so.

drains_none : (a b : CallState) → values_of a.queue ≡ [] → Drains a b → b ≡ a
drains_none a _ none Drains.over = refl
drains_none a _ none (Drains.goes_on b c queue v kept retired drains takes round) =
    let same = drains_none a b none drains in let some : [] ≡ v ∷ values_of queue = sym none ∙ ap (λ (x : CallState). values_of x.queue) (sym same) ∙ takes.1 in absurd (cc)

-- Where nothing is put with what was had.

abbrev NothingPut : Had → Type 0
NothingPut [] = Unit {0}
NothingPut (one ∷ had) = (one.2 ≡ []) × NothingPut had

without_nothing : (had : Had) → NothingPut (without_puts had)
without_nothing [] = tt
without_nothing (one ∷ had) = (refl, without_nothing had)

nothing_first : (a b : Had) → NothingPut (a ++ b) → NothingPut a
nothing_first [] b none = tt
nothing_first (one ∷ a) b none = (none.0, nothing_first a b none.1)

nothing_handed : (handed : Handings) (kepts : List ℕ) (had : Had) → AreTheirs handed kepts had → NothingPut had → values_put handed ≡ []
nothing_handed [] kepts had are none = refl
nothing_handed (h ∷ handed) [] had are none = absurd are
nothing_handed (h ∷ handed) (kept ∷ kepts) [] are none = absurd are
nothing_handed (h ∷ handed) (kept ∷ kepts) (one ∷ had) are none =
    ap (λ (vs : List ℕ). vs ++ values_put handed) (sym are.0.2 ∙ none.0) ∙ nothing_handed handed kepts had are.1 none.1

-- An attempt.

module _ {T : Type 0} (slot : Slot T) (pass : Pass) (slot' : Slot T) (pass' : Pass) (sole : IsSole pass.id) (had had' : Had) where
  module _ (off : OthersOff (its_number slot) (state_seen pass)) (on : IsActive slot) (retired : Bool) (e : SlotFlushes slot pass had slot' pass' had' retired) where
    abbrev f : Flushes slot.holder.key e.ready (keys_in slot.holder.batch) had slot'.holder.key pass' (keys_in slot'.holder.batch) had' retired
    f = e.does

    abbrev k : ℕ
    k = slot_number slot.holder.key

    own : slot_number f.begun.key ≡ k
    own = f.begins.begins.keeps.on.its.1

    begun_sole : IsSole f.begun.pass.id
    begun_sole = still_sole e.ready f.begun.pass f.begins.begins.keeps.on.same (prepared_sole slot pass e.ready e.prepares sole)

    -- no other slot is active when the call has begun
    begun_off : OthersOff (slot_number f.begun.key) (state_seen f.begun.pass)
    begun_off t differs =
        let keeps = f.begins.begins.keeps in let differs_own : ¬ (t ≡ k) = λ e. differs (e ∙ sym own) in
        (led_made k e.ready f.begun.pass _ keeps.on.same keeps.on.alone (prepared_sole slot pass e.ready e.prepares sole) f.begins.begins.made (((λ u apart. other k u k refl apart), λ l. refl), tt)).active t differs_own
        ∙ ap (λ (st : State). is_active (head_at st t)) (prepared_same slot pass e.ready e.prepares sole)
        ∙ off t (λ e. differs_own (e ∙ sym slot.together.numbered))

    -- an active slot hands nothing, so nothing is put
    settled : (b : Bool) → Settles 1 f.begun f.settled b → ((slot_of f.settled.key).batch ≡ []) × (values_of f.settled.queue ≡ [])
    settled true r = (
      r.batch,
      r.queued.1 ∙ ap (λ (vs : List ℕ). vs ++ values_put r.handed) f.begins.none ∙ ap values_put (r.under_guard (f.begins.begins.keeps.on.active ∙ on)),
    )
    settled false r = (r.batch ∙ stays_short f.begun f.settled r begun_sole begun_off, r.queued.1 ∙ ap (λ (vs : List ℕ). vs ++ []) f.begins.none)

    pub flush_bare : (slot_of slot'.holder.key).batch ≡ []
    flush_bare =
        let is = settled retired f.settles in let same = drains_none f.settled f.ends.drained is.1 f.ends.drains.drains in
        f.ends.returns.keeps.batch ∙ ap (λ (x : CallState). (slot_of x.key).batch) same ∙ is.0

-- Where nothing is put, a leave of a slot without a batch leaves none.
module _ {T : Type 0} (slot : Slot T) (pass : Pass) (slot' : Slot T) (pass' : Pass) (had : Had) (e : SlotLeaves slot pass [] slot' pass' (without_puts had)) where
  abbrev l : Leaves Leave false (private e.ready (SwapOut (slot_number slot.holder.key))) slot.holder.key e.ready (keys_in slot.holder.batch) [] slot'.holder.key pass' (keys_in slot'.holder.batch) (without_puts had)
  l = e.does

  none_queued : values_of l.behind.queue ≡ []
  none_queued =
      let all : NothingPut l.ends.drained.had = subst NothingPut l.ends.returns.had_none (without_nothing had) in
      let first = nothing_first l.behind.had _ (subst NothingPut (drained l.behind l.ends.drained l.ends.drains.drains).has_had.after all) in
      l.queued.0 ∙ nothing_handed (handed_in l.walked) l.kepts l.has_had.more l.has_had.theirs (subst NothingPut l.has_had.after first)

  pub leave_bare : (slot_of slot.holder.key).batch ≡ [] → (slot_of slot'.holder.key).batch ≡ []
  leave_bare bare =
      sym l.rests.batch.1 ∙ ap values_of l.ends.returns.batch
      ∙ ap (λ (x : CallState). values_of x.batch) (drains_none l.behind l.ends.drained none_queued l.ends.drains.drains)
      ∙ ap values_of l.batch ∙ slot.together.batch_is.1 ∙ bare

-- A slot enters, attempts its batch, leaves, and looks at the list.
module _ {T : Type 0} (words : Words T) (s0 s2 s3 s4 s5 : Slot T) (p0 p1 p2 p3 p4 p5 : Pass) (sole : IsSole p0.id) (for : IsPassOf words p0) (prep : Prepares s0 p0 p1) (a : Activation) (entered : SlotEnters s0 p1 a s2 p2)
    (e3 : Had) (of3 : IsOfWords words s3) (retired : Bool) (flushed : SlotFlushes s2 p2 [] s3 p3 e3 retired) (had4 : Had) (of4 : IsOfWords words s4) (left : SlotLeaves s3 p3 [] s4 p4 (without_puts had4))
    (looked : SlotLooks s4 p4 s5 p5) where
  abbrev s : ℕ
  s = its_number s0

  sole1 : IsSole p1.id
  sole1 = prepared_sole s0 p0 p1 prep sole

  led2 : IsLedBy s p1 p2
  led2 = enters s0 p1 s2 p2 sole1 a entered

  num2 : its_number s2 ≡ s
  num2 = entered.same.0

  sole2 : IsSole p2.id
  sole2 = still_sole p1 p2 led2.same sole1

  for2 : IsPassOf words p2
  for2 = still_for words p1 p2 (still_for words p0 p1 for prep.same) led2.same

  led3 : IsLedBy s p2 p3
  led3 = led_as s (its_number s2) p2 p3 num2 (flushes s2 p2 s3 p3 sole2 words of3 for2 [] e3 retired flushed)

  num3 : its_number s3 ≡ s
  num3 = flushed.same.0 ∙ num2

  sole3 : IsSole p3.id
  sole3 = still_sole p2 p3 led3.same sole2

  for3 : IsPassOf words p3
  for3 = still_for words p2 p3 for2 led3.same

  led4 : IsLedBy s p3 p4
  led4 = led_as s (its_number s3) p3 p4 num3 (leaves s3 p3 s4 p4 sole3 words of4 for3 [] (without_puts had4) left)

  num4 : its_number s4 ≡ s
  num4 = left.same.0 ∙ num3

  sole4 : IsSole p4.id
  sole4 = still_sole p3 p4 led4.same sole3

  for4 : IsPassOf words p4
  for4 = still_for words p3 p4 for3 led4.same

  pub swept_led : IsLedBy s p0 p5
  swept_led = led_then s p0 p1 p5 (led_prepared s0 p0 p1 prep sole s) (led_then s p1 p2 p5 led2 (led_then s p2 p3 p5 led3 (led_then s p3 p4 p5 led4 (looks s4 p4 s5 p5 sole4 s looked))))

  pub swept_active : IsInactive s4 → KeepsActive p0 p5
  swept_active off4 = active_led s p0 p5 swept_led (off5 ∙ sym (ap (λ (st : State). is_active (head_at st s)) (sym (prepared_same s0 p0 p1 prep sole)) ∙ entered_off s0 p1 s2 p2 sole1 a entered))
    where
      off5 : is_active (head_at (state_seen p5) s) ≡ false
      off5 = subst (λ (k : ℕ). is_active (head_at (state_seen p5) k) ≡ false) num4 ((shown s4 s5 p4 p5 looked (of4.book ∙ for4.0)).1 ∙ looked_active _ _ _ _ looked.0.does ∙ off4)

  pub swept_idle : IsInUse s5 → KeepsIdle p0 p5
  swept_idle used5 = idle_led s p0 p5 swept_led (subst (λ (k : ℕ). (slot_at (state_seen p5) k).call ≡ None) num4 (ap (λ (x : Record). x.call) (shown s4 s5 p4 p5 looked (of4.book ∙ for4.0)).0 ∙ idle_call (slot_of s5.holder.key) used5))

  pub swept_spent : IsActive s2 → AreOff p0 → values_of (keys_in s5.holder.batch) ≡ []
  swept_spent active off = ap (λ (b : Batch). values_of (keys_in b)) looked.1 ∙ s4.together.batch_is.1 ∙ leave_bare s3 p3 s4 p4 had4 left batch3
    where
      off2 : OthersOff (its_number s2) (state_seen p2)
      off2 t differs = led2.leads.active t (λ e. differs (e ∙ sym num2)) ∙ ap (λ (st : State). is_active (head_at st t)) (prepared_same s0 p0 p1 prep sole) ∙ off t

      batch3 : (slot_of s3.holder.key).batch ≡ []
      batch3 = flush_bare s2 p2 s3 p3 sole2 [] e3 off2 active retired flushed

  -- a look with a pass that is alone
  pub swept_still : IsUnmoved p4 p5
  swept_still = still_looked s4 s5 looked
