-- The calls that take a number: register, and the entry of an owned guard.
use Rattle.std.proofs.Common.{◌≡◌, ◌≢◌, ℕ, zero, suc, ◌+◌, ◌-◌, ◌^◌, ◌<◌, ◌≤◌, pos, Bool, true, false, not, ◌&&◌, ◌==◌, if◌then◌else◌, nat_lt, nat_le, max, List, [], ◌∷◌, ◌++◌, length, map, get_or, set, Option, Some, None, Ok, refl, sym, ◌∙◌, ap, subst, ◌⊎◌, inl, inr, arith, length-append, append-nil}
use Rattle.std.specs.Prelude.{Err}
use Rattle.std.specs.List.{count_by, position_or_len}
use Rattle.std.proofs.lemmas.Grind.{common_steps}
use Rattle.std.proofs.lemmas.List.{map-append}
use Rattle.std.proofs.lemmas.List.Sums.{prefix_len-le-length}
use Rattle.std.proofs.Math.Seq.{get_or-append_seam, set-append_seam}
use Rattle.seize_machine.specs.Machine.State as machine
use Rattle.seize_machine.specs.Machine.State.{State, Slot, Inactive, Active, Mark}
use Rattle.seize_machine.specs.declared.machine.event.Answer.{Answer}
use Rattle.seize_machine.proofs.Facts.{if_some, and_true, eq_true}
use Rattle.seize_machine.specs.Machine.Event.{Event, Take, Enter as EnterHead}
use Rattle.seize_machine.specs.Machine.Next as machine_next
use Rattle.seize_machine.specs.Machine.Next.{next, set_head, first_free}
use Rattle.seize_machine.specs.declared.machine.event.Answer.TheVariants.{Done as DoneEvent}
use Rattle.seize_model.specs.declared.kind.Kind.{Kind}
use Rattle.seize_model.specs.declared.kind.Kind.TheVariants.{Registered, Owned}
use Rattle.seize_table.specs.declared.refusal.Refusal.TheVariants.{NoNumbers}
use Rattle.seize_model.specs.Waiting.State as waiting
use Rattle.seize_model.specs.Waiting.State.{model_slot, set_slot, unmade_slot, waits_for}
use Rattle.seize_model.specs.Waiting.Attempt.{StateAndGone, with_gone, is_full, attempt_if_full}
use Rattle.seize_model.specs.Waiting.Further.{with_further, Lighter}
use Rattle.seize_model.specs.Waiting.Calls.{least_unused, with_number_in_use, is_free, set_guards, taking}
use Rattle.seize_model.specs.Waiting.Lists.{Register, EnterOwned, Reply, Number, Refused, reply, step}
use Rattle.seize_model.specs.Agreement.Shows.{head_of}
use Rattle.seize_model.specs.Agreement.Events.{IsTaken, ArePutBy}
use Rattle.seize_model.specs.Agreement.Play.{play, number_taken}
use Rattle.seize_machine.specs.Machine.History.{handed}
use Rattle.seize_model.specs.Agreement.Statement.{IsOutcome, EachList}
use Rattle.seize_model.proofs.Simulation.Views.{with_reclaimers}
use Rattle.seize_model.proofs.Simulation.Paths.{Carried}
use Rattle.seize_model.proofs.Simulation.Plays.{play_first, First, first_of, Split, split_of, put_parts}
use Rattle.seize_model.proofs.Simulation.Runs.{Leads, run_carried}
use Rattle.seize_model.proofs.Simulation.Lists.{left_carried}
use Rattle.seize_model.proofs.Simulation.Names.{Names, Holds, Always, holds_always, holds_full, holds_taken}
use Rattle.seize_model.proofs.Simulation.Work.{Does, denote_length}
use Rattle.seize_model.proofs.Simulation.Walks.{full_does}
use Rattle.seize_model.proofs.Simulation.Queues.{Ends, settled_ends}
use Rattle.seize_model.proofs.Simulation.Beginnings.{outcome_of, job_outcome, no_events, no_list, OneEvent, one_of, Run, Reaches, JobEnds, PieceRun, whole_run, whole_list, then_run, then_list, run_of, names_none}
use Rattle.seize_model.proofs.Simulation.Jobs.{settled_nothing}
use Rattle.seize_model.proofs.Simulation.Gathers.{still_idle}
use Rattle.seize_model.proofs.Simulation.Events.{busy, at_rest, same}
use Rattle.seize_model.proofs.Simulation.Coupling.{NearAt, near_set, near_rest, CoupledSlot, Naming, no_slot_coupled}
use Rattle.seize_model.proofs.Simulation.Guards.{near_entered, enter_step}
use Rattle.seize_model.proofs.Cases.{or_same, if_yes, if_no}
use Rattle.seize_model.proofs.Counts.{beside}
use Rattle.seize_model.proofs.WaitingSets.Taken.{with_room, free_room, taken_slot, taken_is, slot_taken, none_more}

same_position : {X Y : Type 0} (p : X → Bool) (q : Y → Bool) (xs : List X) (ys : List Y) (d : X) (e : Y) → length xs ≡ length ys → ((i : ℕ) → p (get_or xs i d) ≡ q (get_or ys i e)) → position_or_len p xs ≡ position_or_len q ys
same_position p q [] [] d e l h = refl
same_position p q [] (y ∷ ys) d e l h = absurd (omega arith)
same_position p q (x ∷ xs) [] d e l h = absurd (omega arith)
same_position p q (x ∷ xs) (y ∷ ys) d e l h =
    let rest : position_or_len p xs ≡ position_or_len q ys = same_position p q xs ys d e (omega arith) (λ i. h (suc i)) in
    let own : p x ≡ q y = h zero in
    grind (arith, common_steps)

count_push_no : {X : Type 0} (p : X → Bool) (xs : List X) (y : X) → p y ≡ false → count_by p (xs ++ y ∷ []) ≡ count_by p xs
count_push_no p [] y e = grind (arith, common_steps)
count_push_no p (x ∷ xs) y e = grind (arith, common_steps, count_push_no p xs y e)

same_first : {T R X : Type 0} (of : Naming T R X) (st : waiting.ModelState T R) (ms : State) → NearAt of [] st ms → first_free ms.slots ≡ least_unused st.slots
same_first of st ms n = same_position (λ slot. not slot.used) (λ slot. is_free slot.kind) ms.slots st.slots machine.no_slot waiting.unmade_slot n.as_many (λ i. ap (λ (t : Bool). not t) (n.slot i).used ∙ not_not (is_free (model_slot st i).kind))
  where
    not_not : (t : Bool) → not (not t) ≡ t
    not_not true = refl
    not_not false = refl

-- the machine with room for a number that is to be taken, where t says whether it is a new one
abbrev shown_room : Bool → State → State
shown_room t ms = if t then record ms { slots = ms.slots ++ machine.no_slot ∷ []; heads = ms.heads ++ Inactive ∷ [] } else ms

near_room : {T R X : Type 0} (of : Naming T R X) (st : waiting.ModelState T R) (ms : State) (n : ℕ) (t : Bool) → NearAt of [] st ms → (n == 2 ^ 64 - 32) ≡ false → (n == length st.slots) ≡ t → NearAt of [] (with_room t st) (shown_room t ms)
near_room of st ms n false near few t_is = near
near_room {T} {R} of st ms n true near few t_is = record {
  numbers = omega (arith, length-append st.slots (unmade_slot ∷ []), room (length st.slots) (2 ^ 64 - 32) n near.numbers t_is few);
  as_many = length-append ms.slots (machine.no_slot ∷ []) ∙ ap (λ (k : ℕ). k + 1) near.as_many ∙ sym (length-append st.slots (unmade_slot ∷ []));
  slot = λ s. at s (or_same s (length st.slots));
  heads_are = ap (λ l. l ++ Inactive ∷ []) near.heads_are ∙ sym (map-append head_of st.slots (unmade_slot ∷ []));
  retired = near.retired;
  values = near.values;
  counts = λ b. near.counts b ∙ ap (λ (k : ℕ). pos (k + 0)) (sym (count_push_no (waits_for b) st.slots unmade_slot refl));
  links_are = near.links_are;
  rest_is = near.rest_is;
}
  where
    room : (a k n : ℕ) → a ≤ k → (n == a) ≡ true → (n == k) ≡ false → a + 1 ≤ k
    room a k n h e f = grind arith

    at : (s : ℕ) → (s ≡ length st.slots) ⊎ (s ≢ length st.slots) → CoupledSlot of (get_or (st.slots ++ unmade_slot ∷ []) s unmade_slot) (get_or (ms.slots ++ machine.no_slot ∷ []) s machine.no_slot)
    at s (inl e) =
        let x : get_or (st.slots ++ unmade_slot ∷ []) s unmade_slot ≡ unmade_slot = rw e (get_or-append_seam st.slots _ [] unmade_slot) in
        let y : get_or (ms.slots ++ machine.no_slot ∷ []) s machine.no_slot ≡ machine.no_slot = rw (e, ← near.as_many) (get_or-append_seam ms.slots _ [] machine.no_slot) in
        subst (λ k. CoupledSlot of (get_or (st.slots ++ unmade_slot ∷ []) s unmade_slot) k) (sym y) (subst (λ k. CoupledSlot of k machine.no_slot) (sym x) (no_slot_coupled of))
    at s (inr other) =
        let x : get_or (st.slots ++ unmade_slot ∷ []) s unmade_slot ≡ get_or st.slots s unmade_slot = beside st.slots _ unmade_slot s other in
        let y : get_or (ms.slots ++ machine.no_slot ∷ []) s machine.no_slot ≡ get_or ms.slots s machine.no_slot = beside ms.slots _ machine.no_slot s (rw near.as_many other) in
        subst (λ k. CoupledSlot of (get_or (st.slots ++ unmade_slot ∷ []) s unmade_slot) k) (sym y) (subst (λ k. CoupledSlot of k (get_or ms.slots s machine.no_slot)) (sym x) (near.slot s))

-- the machine's slots beside that one, and no rest
abbrev taken_base : {T R : Type 0} → waiting.ModelState T R → State → State
taken_base st ms = record (shown_room (least_unused st.slots == length st.slots) ms) { rest = [] }

near_taken : {T R X : Type 0} (of : Naming T R X) (st : waiting.ModelState T R) (ms : State) (kind : Kind) → NearAt of [] st ms → is_free kind ≡ false → (least_unused st.slots == 2 ^ 64 - 32) ≡ false
    → NearAt of [] (with_number_in_use st (least_unused st.slots) kind) (at_rest (taken_base st ms) (least_unused st.slots) ms.rest)
near_taken {T} {R} of st ms kind near used few = go (least_unused st.slots == length st.slots) refl
  where
    n : ℕ
    n = least_unused st.slots

    go : (t : Bool) → (least_unused st.slots == length st.slots) ≡ t → NearAt of [] (with_number_in_use st (least_unused st.slots) kind) (at_rest (record (shown_room t ms) { rest = [] }) (least_unused st.slots) ms.rest)
    go t t_is =
        let room : NearAt of [] (with_room t st) (shown_room t ms) = near_room of st ms n t near few t_is in
        let free : (n < length (with_room t st).slots) × (is_free (model_slot (with_room t st) n).kind ≡ true) = free_room st t t_is in
        let off : waiting.has_guard (model_slot (with_room t st) n) ≡ false = ap (λ (k : ℕ). not (k == 0)) ((room.slot n).free free.1) in
        subst (λ (x : waiting.ModelState T R). NearAt of [] x (at_rest (record (shown_room t ms) { rest = [] }) n ms.rest)) (taken_is st kind t t_is)
        (near_rest of [] (set_slot (with_room t st) n (taken_slot st kind)) (at_rest (shown_room t ms) n ms.rest).slots (shown_room t ms).heads (shown_room t ms).batches (shown_room t ms).links (shown_room t ms).rest [] []
        (near_set of [] (with_room t st) (shown_room t ms).slots (shown_room t ms).heads (shown_room t ms).batches (shown_room t ms).links (shown_room t ms).rest n (taken_slot st kind) (record { used = true; batch = ms.rest; call = None }) room free.0
        (record {
          used = sym (ap (λ (b : Bool). not b) used);
          idle = refl;
          batch = near.rest_is;
          free = λ e. refl;
          owned = λ e. omega arith;
          inactive = λ e. refl;
          once = refl;
        })
        (sym (ap (λ (b : Bool). if b then Active (model_slot (with_room t st) n).order else Inactive) off))
        (sym ((room.slot n).inactive off))) refl)

-- The event.

take_step : {T R X : Type 0} (of : Naming T R X) (size : ℕ) (st : waiting.ModelState T R) (ms : State) → NearAt of [] st ms → (least_unused st.slots == 2 ^ 64 - 32) ≡ false
    → next size ms (Take (least_unused st.slots)) ≡ Some (machine_next.slot_set (taken_base st ms) (least_unused st.slots) (machine_next.taken_slot size (length (taken_base st ms).slots) ms.rest), DoneEvent)
take_step of size st ms n few =
    let below : least_unused st.slots ≤ length st.slots = prefix_len-le-length _ st.slots in
    let yes_first : (least_unused st.slots == first_free ms.slots) ≡ true = rw (same_first of st ms n) (same (least_unused st.slots)) in
    if_yes _ _ _ (ap (λ (t : Bool). t && nat_lt (least_unused st.slots) (2 ^ 64 - 32)) yes_first ∙ smaller (least_unused st.slots) (length st.slots) (2 ^ 64 - 32) below n.numbers few)
    ∙ ap (λ (k : State). Some (k, DoneEvent)) (made (least_unused st.slots == length st.slots) refl)
  where
    smaller : (a b k : ℕ) → a ≤ b → b ≤ k → (a == k) ≡ false → nat_lt a k ≡ true
    smaller a b k h m f = grind arith

    made : (t : Bool) → (least_unused st.slots == length st.slots) ≡ t
        → machine_next.after_take machine_next.scheme size ms (least_unused st.slots) ≡ machine_next.slot_set (record (shown_room t ms) { rest = [] }) (least_unused st.slots) (machine_next.taken_slot size (length (shown_room t ms).slots) ms.rest)
    made true t_is =
        let e : least_unused st.slots ≡ length ms.slots = eq_true _ _ t_is ∙ sym n.as_many in
        let new : Slot = machine_next.taken_slot size (length ms.slots + 1) ms.rest in
        let more : length (ms.slots ++ machine.no_slot ∷ []) ≡ length ms.slots + 1 = length-append ms.slots (machine.no_slot ∷ []) in
        if_yes _ _ _ (ap (λ (k : ℕ). k == length ms.slots) e ∙ same (length ms.slots))
        ∙ ap (λ (l : List Slot). record ms { slots = l; heads = ms.heads ++ Inactive ∷ []; rest = [] })
        (sym (ap (λ (k : ℕ). set (ms.slots ++ machine.no_slot ∷ []) k (machine_next.taken_slot size (length (ms.slots ++ machine.no_slot ∷ [])) ms.rest)) e
        ∙ ap (λ (k : ℕ). set (ms.slots ++ machine.no_slot ∷ []) (length ms.slots) (machine_next.taken_slot size k ms.rest)) more ∙ set-append_seam ms.slots machine.no_slot [] new))
    made false t_is = if_no _ _ _ (ap (λ (k : ℕ). least_unused st.slots == k) n.as_many ∙ t_is)

-- a number that is taken is the least one not in use
taken_is_first : {T R X : Type 0} (of : Naming T R X) (size : ℕ) (st : waiting.ModelState T R) (ms : State) (n : ℕ) (d : State × Answer) → NearAt of [] st ms → next size ms (Take n) ≡ Some d → n ≡ least_unused st.slots
taken_is_first of size st ms n d near h = eq_true n (first_free ms.slots) (and_true (n == first_free ms.slots) (nat_lt n (2 ^ 64 - 32)) (if_some ((n == first_free ms.slots) && nat_lt n (2 ^ 64 - 32)) _ _ h).0).0 ∙ same_first of st ms near

-- and there are numbers enough
pub taken_few : (size : ℕ) (ms : State) (n : ℕ) (d : State × Answer) → next size ms (Take n) ≡ Some d → (n == 2 ^ 64 - 32) ≡ false
taken_few size ms n d h = below n (2 ^ 64 - 32) (and_true (n == first_free ms.slots) (nat_lt n (2 ^ 64 - 32)) (if_some ((n == first_free ms.slots) && nat_lt n (2 ^ 64 - 32)) _ _ h).0).1
  where
    below : (a b : ℕ) → nat_lt a b ≡ true → (a == b) ≡ false
    below a b h = grind arith

-- The number is taken, and what was left is attempted where it is enough.

full_as : {T R : Type 0} (st : waiting.ModelState T R) (kind : Kind) → is_full st.size (model_slot (with_number_in_use st (least_unused st.slots) kind) (least_unused st.slots)).batch ≡ is_full st.size st.rest
full_as {T} {R} st kind = ap (λ (x : waiting.ModelSlot T R). is_full st.size x.batch) (slot_taken st kind)

long_as : {T R X : Type 0} (of : Naming T R X) (st : waiting.ModelState T R) (ms : State) → NearAt of [] st ms → is_full st.size ms.rest ≡ is_full st.size st.rest
long_as of st ms n = ap (λ (k : ℕ). nat_le (max 1 st.size) k) (denote_length of ms.rest st.rest n.rest_is)

-- where it is enough, the call goes on
take_full : {T R X : Type 0} (of : Naming T R X) (st : waiting.ModelState T R) (ms : State) → NearAt of [] st ms → (least_unused st.slots == 2 ^ 64 - 32) ≡ false → is_full st.size st.rest ≡ true
    → next st.size ms (Take (least_unused st.slots)) ≡ Some (busy (taken_base st ms) (least_unused st.slots) ms.rest (Mark 0 (length (taken_base st ms).slots) []) [], DoneEvent)
take_full of st ms n few full = take_step of st.size st ms n few
    ∙ ap (λ (call : Option machine.Progress). Some (machine_next.slot_set (taken_base st ms) (least_unused st.slots) (record { used = true; batch = ms.rest; call = call }), DoneEvent)) (if_yes _ _ _ (long_as of st ms n ∙ full))

take_rest : {T R X : Type 0} (of : Naming T R X) (st : waiting.ModelState T R) (ms : State) → NearAt of [] st ms → (least_unused st.slots == 2 ^ 64 - 32) ≡ false → is_full st.size st.rest ≡ false
    → next st.size ms (Take (least_unused st.slots)) ≡ Some (at_rest (taken_base st ms) (least_unused st.slots) ms.rest, DoneEvent)
take_rest of st ms n few full = take_step of st.size st ms n few
    ∙ ap (λ (call : Option machine.Progress). Some (machine_next.slot_set (taken_base st ms) (least_unused st.slots) (record { used = true; batch = ms.rest; call = call }), DoneEvent)) (if_no _ _ _ (long_as of st ms n ∙ full))

taken_within : {T R X : Type 0} (of : Naming T R X) (st : waiting.ModelState T R) (ms : State) → NearAt of [] st ms → (least_unused st.slots == 2 ^ 64 - 32) ≡ false → least_unused st.slots < length (taken_base st ms).slots
taken_within of st ms n few =
    let t : Bool = least_unused st.slots == length st.slots in
    rw (near_room of st ms (least_unused st.slots) t n few refl).as_many (free_room st t refl).0

take_ends : {T R X : Type 0} (puts : R → T → List T) (weight : T → ℕ) → Lighter puts weight → (of : Naming T R X) (P : T × R → Type 0) (K : State → List ℕ → Type 0) (st : waiting.ModelState T R) (ms : State) (kind : Kind) → Carried puts of P (least_unused st.slots) st.size K
    → Holds T R P st → NearAt of [] st ms → is_free kind ≡ false → (least_unused st.slots == 2 ^ 64 - 32) ≡ false → is_full st.size st.rest ≡ true
    → K (busy (taken_base st ms) (least_unused st.slots) ms.rest (Mark 0 (length (taken_base st ms).slots) []) []) [] → Ends of K st.size (least_unused st.slots) 0 [] (taking puts weight st (least_unused st.slots) kind)
take_ends {T} {R} puts weight lighter of P K st ms kind carried holds n used few full now =
    let held : Holds T R P (with_number_in_use st (least_unused st.slots) kind) = holds_taken P st (least_unused st.slots) kind holds in
    settled_ends puts weight lighter of P K st.size (least_unused st.slots) 0 [] (attempt_if_full (with_number_in_use st (least_unused st.slots) kind) (least_unused st.slots)) carried (holds_full P _ (least_unused st.slots) held)
    (subst (λ (g : ℕ). Does puts of K st.size (least_unused st.slots) g [] [] (attempt_if_full (with_number_in_use st (least_unused st.slots) kind) (least_unused st.slots))) (ap (λ (x : waiting.ModelSlot T R). x.guards) (slot_taken st kind))
    (full_does puts of P K (with_number_in_use st (least_unused st.slots) kind) (taken_base st ms) (least_unused st.slots) ms.rest [] [] carried held (near_taken of st ms kind n used few) (taken_within of st ms n few)
    (subst (λ (p : machine.Place). K (busy (taken_base st ms) (least_unused st.slots) ms.rest p []) []) (sym (if_yes _ _ _ (long_as of st ms n ∙ full))) now)))

-- where it is not, nothing more is done
pub taking_rest : {T R : Type 0} (puts : R → T → List T) (weight : T → ℕ) (st : waiting.ModelState T R) (kind : Kind) → is_full st.size st.rest ≡ false → taking puts weight st (least_unused st.slots) kind ≡ (with_number_in_use st (least_unused st.slots) kind, [])
taking_rest puts weight st kind full = ap (with_further puts weight (least_unused st.slots)) (if_no _ _ _ (full_as st kind ∙ full)) ∙ settled_nothing puts weight (with_number_in_use st (least_unused st.slots) kind) (least_unused st.slots)

rest_ends : {T R X : Type 0} (puts : R → T → List T) (weight : T → ℕ) (of : Naming T R X) (st : waiting.ModelState T R) (ms later : State) (kind : Kind) (answers : List Answer) → NearAt of [] st ms → is_free kind ≡ false → (least_unused st.slots == 2 ^ 64 - 32) ≡ false → is_full st.size st.rest ≡ false
    → OneEvent (at_rest (taken_base st ms) (least_unused st.slots) ms.rest) DoneEvent later answers → JobEnds of st.size (least_unused st.slots) 0 (taking puts weight st (least_unused st.slots) kind) later answers
rest_ends {T} {R} puts weight of st ms later kind answers n used few full ends =
    subst (λ (o : StateAndGone T R). JobEnds of st.size (least_unused st.slots) 0 o later answers) (sym (taking_rest puts weight st kind full)) (record {
      near = subst (λ (k : State). NearAt of [] (with_number_in_use st (least_unused st.slots) kind) k) (sym ends.0) (near_taken of st ms kind n used few);
      gone = ap (λ (l : List Answer). map of.name (handed l)) ends.1;
      used = ap (λ (x : waiting.ModelSlot T R). is_free x.kind) (slot_taken st kind) ∙ used;
      same_size = refl;
      same_guards = ap (λ (x : waiting.ModelSlot T R). x.guards) (slot_taken st kind);
    })

take_run : {T R X : Type 0} (puts : R → T → List T) (weight : T → ℕ) → Lighter puts weight → (of : Naming T R X) (P : T × R → Type 0) → Names puts of P → (st : waiting.ModelState T R) (before : State) (kind : Kind) → Holds T R P st → NearAt of [] st before → is_free kind ≡ false
    → (least_unused st.slots == 2 ^ 64 - 32) ≡ false → PieceRun puts of st.size (IsTaken (least_unused st.slots) (is_full st.size st.rest)) before (JobEnds of st.size (least_unused st.slots) 0 (taking puts weight st (least_unused st.slots) kind))
take_run {T} {R} puts weight lighter of P names st before kind holds n used few = go (is_full st.size st.rest) refl
  where
    go : (t : Bool) → is_full st.size st.rest ≡ t → PieceRun puts of st.size (IsTaken (least_unused st.slots) t) before (JobEnds of st.size (least_unused st.slots) 0 (taking puts weight st (least_unused st.slots) kind))
    go true full =
        whole_run puts of st.size (least_unused st.slots) 0 (Take (least_unused st.slots)) before _ (taking puts weight st (least_unused st.slots) kind) (take_full of st before n few full)
        (take_ends puts weight lighter of P _ st before kind (run_carried puts of P names st.size (least_unused st.slots) _) holds n used few full (Leads.stays _))
    go false full = record {
      events = Take (least_unused st.slots) ∷ [];
      answers = DoneEvent ∷ [];
      later = at_rest (taken_base st before) (least_unused st.slots) before.rest;
      makes = ([], refl, refl);
      legal = play_first st.size before (Take (least_unused st.slots)) [] _ DoneEvent (take_rest of st before n few full);
      ends = rest_ends puts weight of st before _ kind _ n used few full (refl, refl);
      put = (tt, tt);
    }

-- each list of such events
pub take_list : {T R : Type 0} (puts : R → T → List T) (weight : T → ℕ) → Lighter puts weight → (of : ℕ → T) (by : ℕ → R) (st : waiting.ModelState T R) (before : State) (n : ℕ) (kind : Kind) (events : List Event) (answers : List Answer) (later : State) → NearAt (with_reclaimers of by) [] st before → is_free kind ≡ false
    → IsTaken n (is_full st.size st.rest) events → play st.size before events ≡ Some (later, answers) → ArePutBy puts of by events answers
    → (n ≡ least_unused st.slots) × ((least_unused st.slots == 2 ^ 64 - 32) ≡ false → JobEnds (with_reclaimers of by) st.size (least_unused st.slots) 0 (taking puts weight st (least_unused st.slots) kind) later answers)
take_list {T} {R} puts weight lighter of by st before n kind events answers later near used makes legal put =
    let first : First st.size before (Take n) makes.0 later answers = first_of st.size before (Take n) makes.0 later answers (ap (λ (l : List Event). play st.size before l) (sym makes.1) ∙ legal) in
    let least : n ≡ least_unused st.slots = taken_is_first (with_reclaimers of by) st.size st before n (first.later, first.answer) near first.step in
    (least, λ few. go (is_full st.size st.rest) refl few (subst (λ (k : ℕ). IsTaken k (is_full st.size st.rest) events) least makes))
  where
    go : (t : Bool) → is_full st.size st.rest ≡ t → (least_unused st.slots == 2 ^ 64 - 32) ≡ false → IsTaken (least_unused st.slots) t events → JobEnds (with_reclaimers of by) st.size (least_unused st.slots) 0 (taking puts weight st (least_unused st.slots) kind) later answers
    go true full few made =
        whole_list puts of by st.size (least_unused st.slots) 0 (Take (least_unused st.slots)) before _ later (taking puts weight st (least_unused st.slots) kind) events answers (take_full (with_reclaimers of by) st before near few full) made legal put (λ now.
        take_ends puts weight lighter (with_reclaimers of by) Always _ st before kind (left_carried puts of by st.size (least_unused st.slots) later (handed answers)) (holds_always st) near used few full now)
    go false full few made =
        rest_ends puts weight (with_reclaimers of by) st before later kind answers near used few full
        (one_of st.size before _ (Take (least_unused st.slots)) DoneEvent later answers (take_rest (with_reclaimers of by) st before near few full)
        (ap (λ (l : List Event). play st.size before l) (sym (made.1 ∙ ap (λ (l : List Event). Take (least_unused st.slots) ∷ l) made.2)) ∙ legal))

-- Register.

registered_as : {T R : Type 0} (o : StateAndGone T R) (s : ℕ) → (model_slot o.0 s).guards ≡ 0 → (set_guards o.0 s 0, o.1) ≡ o
registered_as {T} {R} o s none = ap (λ (k : waiting.ModelState T R). (k, o.1)) (none_more o.0 s none)

told_taken : {T : Type 0} (n k : ℕ) (full : Bool) (events : List Event) → IsTaken n full events → n ≡ k → ◌≡◌ {A = Reply T} (Number k) (number_taken events)
told_taken {T} n k full events made e = ap {B = Reply T} (λ (i : ℕ). Number i) (sym e) ∙ ap {B = Reply T} (λ (l : List Event). number_taken l) (sym made.1)

pub register_run : {T R X : Type 0} (puts : R → T → List T) (weight : T → ℕ) → Lighter puts weight → (of : Naming T R X) (P : T × R → Type 0) → Names puts of P → (st : waiting.ModelState T R) (before : State) → Holds T R P st → NearAt of [] st before
    → Run puts of Register st before (step puts weight st Register)
register_run {T} {R} puts weight lighter of P names st before holds near = go (least_unused st.slots == 2 ^ 64 - 32) refl
  where
    go : (t : Bool) → (least_unused st.slots == 2 ^ 64 - 32) ≡ t
        → Run puts of Register st before (reply Number None (if t then (Err NoNumbers, (st, [])) else (Ok (least_unused st.slots), (set_guards (taking puts weight st (least_unused st.slots) Registered).0 (least_unused st.slots) 0, (taking puts weight st (least_unused st.slots) Registered).1))))
    go true e = no_events puts of Register st before (Refused NoNumbers None) st near refl refl
    go false e =
        let run : PieceRun puts of st.size (IsTaken (least_unused st.slots) (is_full st.size st.rest)) before (JobEnds of st.size (least_unused st.slots) 0 (taking puts weight st (least_unused st.slots) Registered)) = take_run puts weight lighter of P names st before Registered holds near refl e in
        subst (λ (o : StateAndGone T R). Run puts of Register st before (Number (least_unused st.slots), o)) (sym (registered_as (taking puts weight st (least_unused st.slots) Registered) (least_unused st.slots) run.ends.same_guards))
        (run_of puts of Register st before _ _ (Number (least_unused st.slots)) (taking puts weight st (least_unused st.slots) Registered) run (run.ends.near, run.ends.gone) (least_unused st.slots, run.makes) (names_none {R = R} of.link Register run.events (λ e. tt)) tt
        (told_taken (least_unused st.slots) (least_unused st.slots) (is_full st.size st.rest) run.events run.makes refl))

pub register_list : {T R : Type 0} (puts : R → T → List T) (weight : T → ℕ) → Lighter puts weight → (of : ℕ → T) (by : ℕ → R) (st : waiting.ModelState T R) (before : State) → NearAt (with_reclaimers of by) [] st before
    → EachList puts of by Register st before (step puts weight st Register)
register_list {T} {R} puts weight lighter of by st before n = go (least_unused st.slots == 2 ^ 64 - 32) refl
  where
    go : (t : Bool) → (least_unused st.slots == 2 ^ 64 - 32) ≡ t
        → EachList puts of by Register st before (reply Number None (if t then (Err NoNumbers, (st, [])) else (Ok (least_unused st.slots), (set_guards (taking puts weight st (least_unused st.slots) Registered).0 (least_unused st.slots) 0, (taking puts weight st (least_unused st.slots) Registered).1))))
    go true e = λ events answers later makes legal names with put. no_list of by Register st.size before (Refused NoNumbers None) st events answers later n makes legal refl
    go false e = λ events answers later makes legal names with put.
        let took = take_list puts weight lighter of by st before makes.0 Registered events answers later n refl makes.1 legal put in
        let d : JobEnds (with_reclaimers of by) st.size (least_unused st.slots) 0 (taking puts weight st (least_unused st.slots) Registered) later answers = took.1 e in
        subst (λ (o : StateAndGone T R). IsOutcome T R of by Register (Number (least_unused st.slots), o) events answers later) (sym (registered_as (taking puts weight st (least_unused st.slots) Registered) (least_unused st.slots) d.same_guards))
        (job_outcome of by Register st.size (least_unused st.slots) 0 (Number (least_unused st.slots)) (taking puts weight st (least_unused st.slots) Registered) events answers later d (told_taken makes.0 (least_unused st.slots) (is_full st.size st.rest) events makes.1 took.0))

-- The entry of an owned guard: the slot becomes active then.

abbrev IsEntered : ℕ → Bool → List Event → Type 0
IsEntered n full events = (es : List Event) × (events ≡ es ++ EnterHead n ∷ []) × IsTaken n full es

told_entered : {T : Type 0} (n k : ℕ) (full : Bool) (events : List Event) → IsEntered n full events → n ≡ k → ◌≡◌ {A = Reply T} (Number k) (number_taken events)
told_entered {T} n k full events made e =
    ap {B = Reply T} (λ (i : ℕ). Number i) (sym e)
    ∙ ap {B = Reply T} (λ (l : List Event). number_taken (l ++ EnterHead n ∷ [])) (sym made.2.1)
    ∙ ap {B = Reply T} (λ (l : List Event). number_taken l) (sym made.1)

owned_near : {T R X : Type 0} (of : Naming T R X) (size s : ℕ) (o : StateAndGone T R) (later : State) (answers : List Answer) → JobEnds of size s 0 o later answers → NearAt of [] (set_guards o.0 s 1) (set_head later s (Active []))
owned_near of size s o later answers d = near_entered of o.0 later s 1 d.near d.used (still_idle of size s o later answers d).1 (omega arith) (λ e. omega arith)

owned_step : {T R X : Type 0} (of : Naming T R X) (size s : ℕ) (o : StateAndGone T R) (later : State) (answers : List Answer) → JobEnds of size s 0 o later answers → next size later (EnterHead s) ≡ Some (set_head later s (Active []), DoneEvent)
owned_step of size s o later answers d = enter_step of size o.0 later s d.near d.used (still_idle of size s o later answers d).1

pub owned_run : {T R X : Type 0} (puts : R → T → List T) (weight : T → ℕ) → Lighter puts weight → (of : Naming T R X) (P : T × R → Type 0) → Names puts of P → (st : waiting.ModelState T R) (before : State) → Holds T R P st → NearAt of [] st before
    → Run puts of EnterOwned st before (step puts weight st EnterOwned)
owned_run {T} {R} puts weight lighter of P names st before holds near = go (least_unused st.slots == 2 ^ 64 - 32) refl
  where
    go : (t : Bool) → (least_unused st.slots == 2 ^ 64 - 32) ≡ t
        → Run puts of EnterOwned st before (reply Number None (if t then (Err NoNumbers, (st, [])) else (Ok (least_unused st.slots), (set_guards (taking puts weight st (least_unused st.slots) Owned).0 (least_unused st.slots) 1, (taking puts weight st (least_unused st.slots) Owned).1))))
    go true e = no_events puts of EnterOwned st before (Refused NoNumbers None) st near refl refl
    go false e =
        let n : ℕ = least_unused st.slots in
        let o : StateAndGone T R = taking puts weight st (least_unused st.slots) Owned in
        let run : PieceRun puts of st.size (IsTaken (least_unused st.slots) (is_full st.size st.rest)) before (JobEnds of st.size (least_unused st.slots) 0 (taking puts weight st (least_unused st.slots) Owned)) = take_run puts weight lighter of P names st before Owned holds near refl e in
        let same : o.1 ++ [] ≡ o.1 = append-nil o.1 in
        let all : PieceRun puts of st.size (IsEntered n (is_full st.size st.rest)) before (Reaches of (with_gone o.1 (set_guards o.0 n 1, [])))
        = then_run puts of st.size (IsTaken n (is_full st.size st.rest)) (λ fs. fs ≡ EnterHead n ∷ []) (IsEntered n (is_full st.size st.rest)) before o.1 (set_guards o.0 n 1, []) (JobEnds of st.size n 0 o) (λ es fs made is. (es, ap (λ (l : List Event). es ++ l) is, made)) run run.ends.gone (record {
          events = EnterHead n ∷ [];
          answers = DoneEvent ∷ [];
          later = set_head run.later n (Active []);
          makes = refl;
          legal = play_first st.size run.later (EnterHead n) [] _ DoneEvent (owned_step of st.size n o run.later run.answers run.ends);
          ends = (owned_near of st.size n o run.later run.answers run.ends, refl);
          put = (tt, tt);
        }) in
        subst (λ (l : List (T × R)). Run puts of EnterOwned st before (Number n, (set_guards o.0 n 1, l))) same
        (run_of puts of EnterOwned st before _ _ (Number n) (with_gone o.1 (set_guards o.0 n 1, [])) all all.ends (n, all.makes.0, all.makes.1, all.makes.2) (names_none {R = R} of.link EnterOwned all.events (λ e. tt)) tt
        (told_entered n n (is_full st.size st.rest) all.events all.makes refl))

pub owned_list : {T R : Type 0} (puts : R → T → List T) (weight : T → ℕ) → Lighter puts weight → (of : ℕ → T) (by : ℕ → R) (st : waiting.ModelState T R) (before : State) → NearAt (with_reclaimers of by) [] st before
    → EachList puts of by EnterOwned st before (step puts weight st EnterOwned)
owned_list {T} {R} puts weight lighter of by st before near = go (least_unused st.slots == 2 ^ 64 - 32) refl
  where
    go : (t : Bool) → (least_unused st.slots == 2 ^ 64 - 32) ≡ t
        → EachList puts of by EnterOwned st before (reply Number None (if t then (Err NoNumbers, (st, [])) else (Ok (least_unused st.slots), (set_guards (taking puts weight st (least_unused st.slots) Owned).0 (least_unused st.slots) 1, (taking puts weight st (least_unused st.slots) Owned).1))))
    go true e = λ events answers later makes legal names with put. no_list of by EnterOwned st.size before (Refused NoNumbers None) st events answers later near makes legal refl
    go false e = λ events answers later makes legal names with put.
        let n : ℕ = least_unused st.slots in
        let o : StateAndGone T R = taking puts weight st (least_unused st.slots) Owned in
        let whole : play st.size before (makes.1 ++ EnterHead makes.0 ∷ []) ≡ Some (later, answers) = ap (λ (l : List Event). play st.size before l) (sym makes.2) ∙ legal in
        let first : Split st.size before makes.1 (EnterHead makes.0 ∷ []) later answers = split_of st.size before makes.1 (EnterHead makes.0 ∷ []) later answers whole in
        let ends : Reaches (with_reclaimers of by) (with_gone o.1 (set_guards o.0 n 1, [])) later answers
        = then_list puts of by st.size before later makes.1 (EnterHead makes.0 ∷ []) answers o.1 (set_guards o.0 n 1, []) whole (subst (λ (l : List Event). ArePutBy puts of by l answers) makes.2 put) (λ middle told last begins put_first goes_on put_last.
        let took = take_list puts weight lighter of by st before makes.0 Owned makes.1 told middle near refl makes.3 begins put_first in
        let d : JobEnds (with_reclaimers of by) st.size n 0 o middle told = took.1 e in
        let entered : OneEvent (set_head middle n (Active [])) DoneEvent later last = one_of st.size middle _ (EnterHead n) DoneEvent later last (owned_step (with_reclaimers of by) st.size n o middle told d) (ap (λ (k : ℕ). play st.size middle (EnterHead k ∷ [])) (sym took.0) ∙ goes_on) in (
          d.gone,
          (
            subst (λ (k : State). NearAt (with_reclaimers of by) [] (set_guards o.0 n 1) k) (sym entered.0) (owned_near (with_reclaimers of by) st.size n o middle told d),
            ap (λ (l : List Answer). map {B = T × R} (λ n. (of n, by n)) (handed l)) entered.1,
          ),
        )) in
        let least : makes.0 ≡ n = (take_list puts weight lighter of by st before makes.0 Owned makes.1 first.first first.middle near refl makes.3 first.begins (put_parts puts of by st.size before first.middle makes.1 (EnterHead makes.0 ∷ []) first.first first.last first.begins
        (subst (λ (l : List Answer). ArePutBy puts of by (makes.1 ++ EnterHead makes.0 ∷ []) l) first.all (subst (λ (l : List Event). ArePutBy puts of by l answers) makes.2 put))).0).0 in
        outcome_of of by EnterOwned (Number n) (set_guards o.0 n 1, o.1) events answers later ends.0 (ends.1 ∙ ap (map (λ (v : T × R). v)) (append-nil o.1))
        (told_entered makes.0 n (is_full st.size st.rest) events (makes.1, makes.2, makes.3) least)
