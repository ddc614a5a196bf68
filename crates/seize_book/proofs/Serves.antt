-- Each batch is inserted, waits and is walked only at the slots of its plan. Its plan serves each of them with a value of its own; so two
-- blocks in use that hold different batches, or serve different slots, have different homes.
use Rattle.std.proofs.Common.{◌≡◌, ◌≢◌, ℕ, zero, suc, ◌+◌, ◌<◌, ◌≤◌, Bool, true, false, not, ◌==◌, if◌then◌else◌, nat_lt, List, [], ◌∷◌, ◌++◌, length, get_or, set, replicate, Option, Some, None, refl, sym, ◌∙◌, ap, subst, ◌⊎◌, inl, inr, arith, append_assoc, append-nil}
use Rattle.std.specs.Prelude.{slice_index_or, unwrap_or}
use Rattle.std.specs.List.{Contains}
use Rattle.std.proofs.lemmas.List.{get_or_past, get_or_append_left, get_or_push, get_or-set_same, get_or-set_other, set_past, length_push, length-append}
use Rattle.std.proofs.lemmas.List.Folds.{list_any_at}
use Rattle.std.proofs.lemmas.Bool.{cases_lt, true≢false}
use native.Mathlib.Decide.{ℕ_discrete}
use Rattle.seize_machine.specs.Machine.State.{State, Slot, Progress, Head, Inactive, Active, Place, Mark, Look, Try, Out, Rest, no_slot, slot_at, head_at, batch_at, is_active, waiting_at, has, linked_values, are_distinct, opening}
use Rattle.seize_machine.specs.Machine.Event.{Event}
use Rattle.seize_machine.specs.Machine.Next.{next, of_call, look, looked, marked_place, taken_slot, taken_call}
use Rattle.seize_machine.specs.Machine.History.{IsReached, done_by}
use Rattle.seize_machine.specs.Machine.Laws.{IsHeld, Lists, Walks, walk_of, detached_by}
use Rattle.seize_machine.specs.declared.machine.event.Answer.{Answer}
use Rattle.seize_machine.proofs.Facts.{Step, Stands, some_is, step_of, reached_next, opening_reached, batches_length, marks_tidy, one_owner, tried_unheld, batched_named, batched_once, batch_distinct, and_true, not_true}
use Rattle.seize_book.specs.Blocks.{Plan, no_plan, marked_at, plan_of, planned_by, plans, plan_value}
use Rattle.seize_book.specs.Chains.{insertion_value}
use Rattle.seize_book.specs.Homes.{home_of, HasOne}
use Rattle.seize_book.specs.Book.{after, IsLegalList}
use Rattle.seize_book.specs.Entry.{Entry, Made, Used, timed_deed}
use Rattle.seize_book.specs.Tokens.{Name, start}
use Rattle.seize_book.proofs.Lists.{equal, taken_either, unequal}
use Rattle.seize_book.proofs.Lives.{legal_first}
use Rattle.seize_book.proofs.Plans.{planned_many}

-- Lists, and what they contain.

nothing_in : (x : ℕ) → Contains [] x → ⊥
nothing_in x c = let within : c.0 < 0 = c.1 in omega arith

first_in : (x : ℕ) (xs : List ℕ) → Contains (x ∷ xs) x
first_in x xs = (zero, omega arith, refl)

later_in : (x y : ℕ) (xs : List ℕ) → Contains xs y → Contains (x ∷ xs) y
later_in x y xs c = let within : c.0 < length xs = c.1 in (suc c.0, omega arith, c.2)

first_or_later : (x y : ℕ) (xs : List ℕ) → Contains (x ∷ xs) y → (x ≡ y) ⊎ Contains xs y
first_or_later x y xs c = go c.0 c.1 c.2
  where
    go : (k : ℕ) → k < length (x ∷ xs) → get_or (x ∷ xs) k y ≡ y → (x ≡ y) ⊎ Contains xs y
    go zero within e = inl e
    go (suc k) within e = inr (k, omega arith, e)

contained_has : (v : ℕ) (xs : List ℕ) → Contains xs v → has v xs ≡ true
contained_has v xs c = list_any_at (λ x. x == v) xs c.0 v c.1 (equal (get_or xs c.0 v) v c.2)

-- what holds of each element holds of each after a write, or with one more
pub at_set : {X : Type 0} (P : ℕ → X → Type 0) (xs : List X) (i : ℕ) (y d : X) → P i y → ((j : ℕ) → P j (get_or xs j d)) → (j : ℕ) → P j (get_or (set xs i y) j d)
at_set P xs i y d new old j = go (ℕ_discrete j i)
  where
    here : (i < length xs) ⊎ (length xs ≤ i) → P i (get_or (set xs i y) i d)
    here (inl within) = subst (P i) (sym (get_or-set_same xs i y d within)) new
    here (inr past) = subst (λ zs. P i (get_or zs i d)) (sym (set_past xs i y past)) (old i)

    go : Dec (j ≡ i) → P j (get_or (set xs i y) j d)
    go (yes is) = subst (λ k. P k (get_or (set xs i y) k d)) (sym is) (here (cases_lt i (length xs)))
    go (no other) = subst (P j) (sym (get_or-set_other xs i j y d other)) (old j)

pub at_push : {X : Type 0} (P : ℕ → X → Type 0) (xs : List X) (y d : X) → P (length xs) y → ((j : ℕ) → P j (get_or xs j d)) → (j : ℕ) → P j (get_or (xs ++ y ∷ []) j d)
at_push P xs y d new old j = go (cases_lt j (length xs)) (ℕ_discrete (length xs) j)
  where
    go : (j < length xs) ⊎ (length xs ≤ j) → Dec (length xs ≡ j) → P j (get_or (xs ++ y ∷ []) j d)
    go (inl within) there = subst (P j) (sym (get_or_append_left xs (y ∷ []) d j within)) (old j)
    go (inr past) (yes is) = subst (P j) (sym (get_or_push xs y d j is)) (subst (λ k. P k y) is new)
    go (inr past) (no other) =
        let none : get_or (xs ++ y ∷ []) j d ≡ d = get_or_past (xs ++ y ∷ []) j d (omega (arith, other, past, length_push xs y)) in
        subst (P j) (get_or_past xs j d past ∙ sym none) (old j)

-- Where batches stand: at the slots of their plans.

abbrev pub slots_in : List Plan → ℕ → List ℕ
slots_in ps b = (slice_index_or ps b no_plan).slots

-- the plans of these batches have slot m
abbrev pub AllAt : List Plan → ℕ → List ℕ → Type 0
AllAt ps m bs = (b : ℕ) → Contains bs b → Contains (slots_in ps b) m

-- the plan of batch b has these slots
abbrev pub AtAll : List Plan → ℕ → List ℕ → Type 0
AtAll ps b ms = (m : ℕ) → Contains ms m → Contains (slots_in ps b) m

abbrev pub PlaceMarked : List Plan → ℕ → Place → Type 0
PlaceMarked ps s (Look b won m later) = AtAll ps b (m ∷ later)
PlaceMarked ps s (Try b won m later saw) = AtAll ps b (m ∷ later)
PlaceMarked ps s (Rest gives walk) = AllAt ps s walk
PlaceMarked ps s _ = Unit {0}

abbrev pub CallMarked : List Plan → ℕ → Option Progress → Type 0
CallMarked ps s None = Unit {0}
CallMarked ps s (Some call) = PlaceMarked ps s call.place

-- a plan has its slots once, and a value for each
abbrev pub IsFitting : Plan → Type 0
IsFitting plan = (are_distinct plan.slots ≡ true) × (length plan.slots ≤ length plan.values)

pub record Marked (st : State) (ps : List Plan) : Type 0 where
  pub many : length ps ≡ length st.batches
  pub fits : (b : ℕ) → IsFitting (slice_index_or ps b no_plan)
  pub waits : (m : ℕ) → AllAt ps m (waiting_at (head_at st m))
  pub calls : (s : ℕ) → CallMarked ps s (slot_at st s).call

-- what it says of who lists or walks a batch, and of a call that has still to insert one

pub lists_marked : (st : State) (ps : List Plan) (m b : ℕ) → Marked st ps → Lists st m b → Contains (slots_in ps b) m
lists_marked st ps m b marked h = marked.waits m b h

pub walks_marked : (st : State) (ps : List Plan) (m b : ℕ) → Marked st ps → Walks st m b → Contains (slots_in ps b) m
walks_marked st ps m b marked h = go (slot_at st m).call (marked.calls m) h
  where
    at : (place : Place) (queue : List ℕ) → PlaceMarked ps m place → Contains (walk_of (Some (record { place = place; queue = queue }))) b → Contains (slots_in ps b) m
    at (Rest gives walk) queue all h = all b h
    at _ queue all h = absurd (nothing_in b h)

    go : (o : Option Progress) → CallMarked ps m o → Contains (walk_of o) b → Contains (slots_in ps b) m
    go None all h = absurd (nothing_in b h)
    go (Some call) all h = at call.place call.queue all h

pub tries_marked : (st : State) (ps : List Plan) (s b won m : ℕ) (later saw queue : List ℕ) → Marked st ps → Stands st s (Try b won m later saw) queue → AtAll ps b (m ∷ later)
tries_marked st ps s b won m later saw queue marked e = subst (CallMarked ps s) e (marked.calls s)

-- With more plans it stays so.

more_in : (ps qs : List Plan) (b m : ℕ) → Contains (slots_in ps b) m → Contains (slots_in (ps ++ qs) b) m
more_in ps qs b m c = go (cases_lt b (length ps))
  where
    go : (b < length ps) ⊎ (length ps ≤ b) → Contains (slots_in (ps ++ qs) b) m
    go (inl there) = subst (λ (p : Plan). Contains p.slots m) (sym (get_or_append_left ps qs no_plan b there)) c
    go (inr past) = absurd (nothing_in m (subst (λ (p : Plan). Contains p.slots m) (get_or_past ps b no_plan past) c))

more_calls : (ps qs : List Plan) (s : ℕ) (o : Option Progress) → CallMarked ps s o → CallMarked (ps ++ qs) s o
more_calls ps qs s None all = tt
more_calls ps qs s (Some call) all = go call.place all
  where
    go : (place : Place) → PlaceMarked ps s place → PlaceMarked (ps ++ qs) s place
    go (Look b won m later) all = λ j c. more_in ps qs b j (all j c)
    go (Try b won m later saw) all = λ j c. more_in ps qs b j (all j c)
    go (Rest gives walk) all = λ b c. more_in ps qs b s (all b c)
    go _ all = tt

-- An event leaves what waits and what is called at slots of its plan, where the plans have what the event plans.

module _ (ps : List Plan) where
  rest_marked : (s : ℕ) (gives : List ℕ) → PlaceMarked ps s (Rest gives [])
  rest_marked s gives b c = absurd (nothing_in b c)

  later_marked : (b m : ℕ) (later : List ℕ) → AtAll ps b (m ∷ later) → AtAll ps b later
  later_marked b m later all j c = all j (later_in m j later c)

  look_marked : (s b won : ℕ) (marks : List ℕ) → AtAll ps b marks → PlaceMarked ps s (look b won marks)
  look_marked s b won [] all = tt
  look_marked s b won (m ∷ marks) all = all

  looked_marked : (s b won m : ℕ) (head : Head) (later : List ℕ) → AtAll ps b (m ∷ later) → PlaceMarked ps s (looked head b won m later)
  looked_marked s b won m Inactive later all = look_marked s b won later (later_marked b m later all)
  looked_marked s b won m (Active waiting) later all = all

  read_marked : (s : ℕ) (active : Bool) (n note : ℕ) (marks batch : List ℕ) → PlaceMarked ps s (marked_place active n note marks batch)
  read_marked s false n note marks batch = tt
  read_marked s true n note marks batch = go (nat_lt (length marks) (length batch))
    where
      go : (few : Bool) → PlaceMarked ps s (if few then Mark (n + 1) note (marks ++ n ∷ []) else Rest [] [])
      go true = tt
      go false = rest_marked s []

  taken_marked : (s size n : ℕ) (batch : List ℕ) → CallMarked ps s (taken_call size n batch)
  taken_marked s size n batch = taken_either (CallMarked ps s) size n batch tt tt

  begun_marked : (s n : ℕ) (place : Place) → (place ≡ Rest [] []) ⊎ (place ≡ Mark 0 n []) ⊎ (place ≡ Out true) ⊎ (place ≡ Out false) → PlaceMarked ps s place
  begun_marked s n place (inl e) = subst (PlaceMarked ps s) (sym e) (rest_marked s [])
  begun_marked s n place (inr (inl e)) = subst (PlaceMarked ps s) (sym e) tt
  begun_marked s n place (inr (inr (inl e))) = subst (PlaceMarked ps s) (sym e) tt
  begun_marked s n place (inr (inr (inr e))) = subst (PlaceMarked ps s) (sym e) tt

  put_marked : (s n : ℕ) (place : Place) (P : Type 0) → ((place ≡ Rest [] []) × P) ⊎ (place ≡ Mark 0 n []) → PlaceMarked ps s place
  put_marked s n place P (inl e) = subst (PlaceMarked ps s) (sym e.0) (rest_marked s [])
  put_marked s n place P (inr e) = subst (PlaceMarked ps s) (sym e) tt

  abbrev HeadMarked : ℕ → Head → Type 0
  HeadMarked m head = AllAt ps m (waiting_at head)

  abbrev SlotMarked : ℕ → Slot → Type 0
  SlotMarked s slot = CallMarked ps s slot.call

  abbrev HeadsMarked : State → Type 0
  HeadsMarked st = (m : ℕ) → HeadMarked m (head_at st m)

  abbrev SlotsMarked : State → Type 0
  SlotsMarked st = (s : ℕ) → SlotMarked s (slot_at st s)

  -- a batch that is detached has the slots that its call marked
  abbrev HasPlanned : State → Event → Type 0
  HasPlanned st event = (s : ℕ) → planned_by st event ≡ plan_of (slot_at st s) ∷ [] → AtAll ps (length st.batches) (plan_of (slot_at st s)).slots

  -- a call that goes on at another place
  goes_on : (st : State) (s : ℕ) (new : Slot) → SlotMarked s new → SlotsMarked st → (j : ℕ) → SlotMarked j (get_or (set st.slots s new) j no_slot)
  goes_on st s new marked all = at_set SlotMarked st.slots s new no_slot marked all

  heads_step : (size : ℕ) (st : State) (event : Event) (d : State × Answer) → Step size st event d → SlotsMarked st → HeadsMarked st → HeadsMarked d.0
  heads_step size st event _ (Step.took_new s e least) calls waits = at_push HeadMarked st.heads Inactive Inactive (λ b c. absurd (nothing_in b c)) waits
  heads_step size st event _ (Step.entered s e off) calls waits = at_set HeadMarked st.heads s (Active []) Inactive (λ b c. absurd (nothing_in b c)) waits
  heads_step size st event _ (Step.inserted s m a won later saw queue waiting e head_is) calls waits =
      at_set HeadMarked st.heads m (Active (a ∷ waiting)) Inactive (λ b c. here b (first_or_later a b waiting c)) waits
    where
      all : AtAll ps a (m ∷ later)
      all = subst (CallMarked ps s) e (calls s)

      here : (b : ℕ) → (a ≡ b) ⊎ Contains waiting b → Contains (slots_in ps b) m
      here b (inl is) = subst (λ k. Contains (slots_in ps k) m) is (all m (first_in m later))
      here b (inr c) = waits m b (subst (λ (head : Head). Contains (waiting_at head) b) (sym head_is) c)
  heads_step size st event _ (Step.added s a won queue d e h) calls waits = subst (λ (d : State × Answer). HeadsMarked d.0) (some_is _ _ h) waits
  heads_step size st event _ (Step.subtracted s a walk queue d e h) calls waits = subst (λ (d : State × Answer). HeadsMarked d.0) (some_is _ _ h) waits
  heads_step size st event _ (Step.swapped_out s stays queue e) calls waits = at_set HeadMarked st.heads s (if stays then Active [] else Inactive) Inactive (emptied stays) waits
    where
      emptied : (stays : Bool) → HeadMarked s (if stays then Active [] else Inactive)
      emptied true = λ b c. absurd (nothing_in b c)
      emptied false = λ b c. absurd (nothing_in b c)
  heads_step size st event _ _ calls waits = waits

  slots_step : (size : ℕ) (st : State) (event : Event) (d : State × Answer) → Step size st event d → HasPlanned st event → HeadsMarked st → SlotsMarked st → SlotsMarked d.0
  slots_step size st event _ (Step.took_new s e least) news waits calls =
      at_push SlotMarked st.slots (taken_slot size (length st.slots + 1) st.rest) no_slot (taken_marked (length st.slots) size (length st.slots + 1) st.rest) calls
  slots_step size st event _ (Step.took_old s within e least) news waits calls = goes_on st s (taken_slot size (length st.slots) st.rest) (taken_marked s size (length st.slots) st.rest) calls
  slots_step size st event _ (Step.gave s e off ends) news waits calls = goes_on st s no_slot tt calls
  slots_step size st event _ (Step.gathered s e off alone some) news waits calls = goes_on st s _ tt calls
  slots_step size st event _ (Step.begun_retire s v e new) news waits calls = goes_on st s _ tt calls
  slots_step size st event _ (Step.begun_other s job place e which exact) news waits calls = goes_on st s _ (begun_marked s (length st.slots) place which) calls
  slots_step size st event _ (Step.put s v from before later place e which to after_is) news waits calls = goes_on st s _ (put_marked s (length st.slots) place _ to) calls
  slots_step size st event _ (Step.marked s n following note marks queue e within turn) news waits calls = goes_on st s _ (read_marked s (is_active (head_at st n)) n note marks (slot_at st s).batch) calls
  slots_step size st event _ (Step.looked_at s b won m later queue e) news waits calls =
      goes_on st s _ (looked_marked s b won m (head_at st m) later (subst (CallMarked ps s) e (calls s))) calls
  slots_step size st event _ (Step.detached s following note marks queue e le) news waits calls =
      let slots_are : (plan_of (slot_at st s)).slots ≡ marks = ap (λ (o : Option Progress). unwrap_or (of_call marked_at o) []) e in
      goes_on st s _ (look_marked s (length st.batches) 0 marks (subst (AtAll ps (length st.batches)) slots_are (news s refl))) calls
  slots_step size st event _ (Step.inserted s m b won later saw queue waiting e head_is) news waits calls =
      let all : AtAll ps b (m ∷ later) = subst (CallMarked ps s) e (calls s) in
      goes_on st s _ (look_marked s b (won + 1) later (later_marked b m later all)) calls
  slots_step size st event _ (Step.lost s m b won later saw queue e differs) news waits calls =
      let all : AtAll ps b (m ∷ later) = subst (CallMarked ps s) e (calls s) in goes_on st s _ all calls
  slots_step size st event _ (Step.added s b won queue d e h) news waits calls =
      subst (λ (d : State × Answer). SlotsMarked d.0) (some_is _ _ h) (goes_on st s _ (rest_marked s []) calls)
  slots_step size st event _ (Step.subtracted s b walk queue d e h) news waits calls =
      let all : AllAt ps s (b ∷ walk) = subst (CallMarked ps s) e (calls s) in
      subst (λ (d : State × Answer). SlotsMarked d.0) (some_is _ _ h) (goes_on st s _ (λ c in_walk. all c (later_in b c walk in_walk)) calls)
  slots_step size st event _ (Step.swapped_out s stays queue e) news waits calls = goes_on st s _ (waits s) calls
  slots_step size st event _ (Step.handed s v puts gives walk queue e new) news waits calls =
      let all : AllAt ps s walk = subst (CallMarked ps s) e (calls s) in goes_on st s _ all calls
  slots_step size st event _ (Step.returned s e) news waits calls = goes_on st s (record (slot_at st s) { call = None }) tt calls
  slots_step size st event _ _ news waits calls = calls

-- the plan of a batch that is detached has the slots that its call marked, which are distinct and no more than its values
fits_step : (size : ℕ) (st : State) (event : Event) (d : State × Answer) (ps : List Plan) → IsReached st → Step size st event d → ((b : ℕ) → IsFitting (get_or ps b no_plan))
    → (b : ℕ) → IsFitting (get_or (ps ++ planned_by st event) b no_plan)
fits_step size st event _ ps r (Step.detached s following note marks queue e le) old = at_push (λ b plan. IsFitting plan) ps (plan_of (slot_at st s)) no_plan new old
  where
    tidy : (are_distinct marks ≡ true) × ((v : ℕ) → Contains marks v → v < following) × (length marks ≤ length (slot_at st s).batch)
    tidy = marks_tidy st s following note marks queue r e

    new : IsFitting (plan_of (slot_at st s))
    new = subst (λ slots. (are_distinct slots ≡ true) × (length slots ≤ length (slot_at st s).batch)) (sym (ap (λ (o : Option Progress). unwrap_or (of_call marked_at o) []) e)) (tidy.0, tidy.2)
fits_step size st event d ps r step old = subst (λ (qs : List Plan). (b : ℕ) → IsFitting (get_or qs b no_plan)) (sym (append-nil ps)) old

pub marked_step : (size : ℕ) (st : State) (event : Event) (d : State × Answer) (ps : List Plan) → IsReached st → Step size st event d → Marked st ps → Marked d.0 (ps ++ planned_by st event)
marked_step size st event d ps r step old =
    record {
      many = omega (arith, old.many, length-append ps (planned_by st event), planned_many st event, batches_length size st event d step);
      fits = fits_step size st event d ps r step old.fits;
      waits = heads_step now size st event d step calls waits;
      calls = slots_step now size st event d step news waits calls;
    }
  where
    now : List Plan
    now = ps ++ planned_by st event

    waits : (m : ℕ) → AllAt (ps ++ planned_by st event) m (waiting_at (head_at st m))
    waits m b c = more_in ps (planned_by st event) b m (old.waits m b c)

    calls : (s : ℕ) → CallMarked (ps ++ planned_by st event) s (slot_at st s).call
    calls s = more_calls ps (planned_by st event) s (slot_at st s).call (old.calls s)

    news : (s : ℕ) → planned_by st event ≡ plan_of (slot_at st s) ∷ [] → AtAll (ps ++ planned_by st event) (length st.batches) (plan_of (slot_at st s)).slots
    news s is m c =
        let q : Plan = plan_of (slot_at st s) in
        subst (λ (qs : List Plan). Contains (slots_in (ps ++ qs) (length st.batches)) m) (sym is)
        (subst (λ (p : Plan). Contains p.slots m) (sym (get_or_push ps q no_plan (length st.batches) old.many)) c)

-- nothing was planned where a list begins
opening_marked : (slots : ℕ) (links : List (Option ℕ)) → Marked (opening slots links) []
opening_marked slots links =
    record {
      many = refl;
      fits = λ b. (refl, omega arith);
      waits = λ m. subst (λ (head : Head). AllAt [] m (waiting_at head)) (sym (all_same Inactive slots m)) (λ b c. absurd (nothing_in b c));
      calls = λ s. subst (λ (slot : Slot). CallMarked [] s slot.call) (sym (all_same no_slot slots s)) tt;
    }
  where
    all_same : {X : Type 0} (d : X) (n i : ℕ) → get_or (replicate n d) i d ≡ d
    all_same d zero i = refl
    all_same d (suc n) zero = refl
    all_same d (suc n) (suc i) = all_same d n i

marked_on : (st : State) (log : List Entry) (ps : List Plan) → IsReached st → IsLegalList st log → Marked st ps → Marked (after st log) (ps ++ plans st log)
marked_on st [] ps r l old = subst (Marked st) (sym (append-nil ps)) old
marked_on st (Used u ∷ log) ps r l old = marked_on st log ps r l old
marked_on st (Made e ∷ log) ps r l old =
    let w = legal_first st e log l in
    let now = (done_by next st (timed_deed e)).0 in
    let reached : IsReached now = subst (λ (d : State × Answer). IsReached d.0) (sym w.2) (reached_next st (timed_deed e) w.0 r w.1) in
    let stepped : Marked now (ps ++ planned_by st e.event) = subst (λ (d : State × Answer). Marked d.0 (ps ++ planned_by st e.event)) (sym w.2) (marked_step e.size st e.event w.0 ps r (step_of e.size st e.event w.0 w.1) old) in
    subst (Marked (after now log)) (append_assoc ps (planned_by st e.event) (plans now log)) (marked_on now log (ps ++ planned_by st e.event) reached (subst (λ (d : State × Answer). IsLegalList d.0 log) (sym w.2) w.3) stepped)

pub marked_after : (n : Name) (log : List Entry) → are_distinct (linked_values n.links) ≡ true → IsLegalList (start n) log → Marked (after (start n) log) (plans (start n) log)
marked_after n log distinct l = marked_on (start n) log [] (opening_reached n.slots n.links distinct) l (opening_marked n.slots n.links)

-- A plan serves each of its slots with a value of its own.

pub serving_in : (m : ℕ) (slots values : List ℕ) → Contains slots m → length slots ≤ length values → Contains values (plan_value m slots values)
serving_in m [] values c le = absurd (nothing_in m c)
serving_in m (k ∷ slots) [] c le = absurd (omega (arith, le))
serving_in m (k ∷ slots) (v ∷ values) c le = go (k == m) refl (serving_in m slots values)
  where
    go : (t : Bool) → (k == m) ≡ t → (Contains slots m → length slots ≤ length values → Contains values (plan_value m slots values)) → Contains (v ∷ values) (if t then v else plan_value m slots values)
    go true is rest = first_in v values
    go false other rest = later_in v (plan_value m slots values) values (rest (there (first_or_later k m slots c)) (omega (arith, le)))
      where
        there : (k ≡ m) ⊎ Contains slots m → Contains slots m
        there (inl same) = absurd (true≢false (sym (equal k m same) ∙ other))
        there (inr c) = c

pub serving_once : (m m' : ℕ) (slots values : List ℕ) → are_distinct values ≡ true → Contains slots m → Contains slots m' → length slots ≤ length values → plan_value m slots values ≡ plan_value m' slots values → m ≡ m'
serving_once m m' [] values distinct c c' le e = absurd (nothing_in m c)
serving_once m m' (k ∷ slots) [] distinct c c' le e = absurd (omega (arith, le))
serving_once m m' (k ∷ slots) (v ∷ values) distinct c c' le e = go (ℕ_discrete k m) (ℕ_discrete k m') (serving_once m m' slots values)
  where
    fewer : length slots ≤ length values
    fewer = omega (arith, le)

    both : (not (has v values) ≡ true) × (are_distinct values ≡ true)
    both = and_true _ _ distinct

    -- a slot further on has its value further on
    there : (j : ℕ) → Contains (k ∷ slots) j → k ≢ j → Contains slots j × (plan_value j (k ∷ slots) (v ∷ values) ≡ plan_value j slots values)
    there j c other = (past (first_or_later k j slots c), ap (λ (t : Bool). if t then v else plan_value j slots values) (unequal k j other))
      where
        past : (k ≡ j) ⊎ Contains slots j → Contains slots j
        past (inl same) = absurd (other same)
        past (inr c) = c

    here : (j : ℕ) → k ≡ j → plan_value j (k ∷ slots) (v ∷ values) ≡ v
    here j same = ap (λ (t : Bool). if t then v else plan_value j slots values) (equal k j same)

    -- which is another than the first
    apart : (j : ℕ) → Contains (k ∷ slots) j → k ≢ j → plan_value j (k ∷ slots) (v ∷ values) ≡ v → ⊥
    apart j c other same =
        let at = there j c other in
        let again : Contains values v = subst (Contains values) (sym at.1 ∙ same) (serving_in j slots values at.0 fewer) in
        true≢false (sym (contained_has v values again) ∙ not_true _ both.0)

    go : Dec (k ≡ m) → Dec (k ≡ m') → (are_distinct values ≡ true → Contains slots m → Contains slots m' → length slots ≤ length values → plan_value m slots values ≡ plan_value m' slots values → m ≡ m') → m ≡ m'
    go (yes is) (yes is') rest = sym is ∙ is'
    go (yes is) (no other') rest = absurd (apart m' c' other' (sym e ∙ here m is))
    go (no other) (yes is') rest = absurd (apart m c other (e ∙ here m' is'))
    go (no other) (no other') rest =
        let at = there m c other in
        let at' = there m' c' other' in
        rest both.1 at.0 at'.0 fewer (sym at.1 ∙ e ∙ at'.1)

-- Blocks in use are apart, and from those of a block that is about to be inserted.

-- batch b is listed or walked at slot m
abbrev pub InUse : State → ℕ → ℕ → Type 0
InUse st b m = Lists st m b ⊎ Walks st m b

-- slot s is about to insert batch b at slot m
abbrev pub IsTried : State → ℕ → ℕ → ℕ → Type 0
IsTried st s b m = (won : ℕ) × (later saw queue : List ℕ) × Stands st s (Try b won m later saw) queue

module _ (st : State) (ps : List Plan) (r : IsReached st) (one : HasOne st) (marked : Marked st ps) (same : (b : ℕ) → IsHeld st b → (batch_at st b).values ≡ (slice_index_or ps b no_plan).values) where
  -- a held batch at a slot of its plan
  abbrev IsAt : ℕ → ℕ → Type 0
  IsAt b m = IsHeld st b × Contains (slots_in ps b) m

  used_at : (b m : ℕ) → InUse st b m → IsAt b m
  used_at b m (inl lists) = (inl (m, lists), lists_marked st ps m b marked lists)
  used_at b m (inr walks) = (inr (inl (m, walks)), walks_marked st ps m b marked walks)

  detaches : (s b m : ℕ) → IsTried st s b m → detached_by (slot_at st s).call ≡ Some b
  detaches s b m t = ap detached_by t.4

  tried_at : (s b m : ℕ) → IsTried st s b m → IsAt b m
  tried_at s b m t = (inr (inr (s, detaches s b m t)), tries_marked st ps s b t.0 m t.1 t.2 t.3 marked t.4 m (first_in m t.1))

  served_there : (b m : ℕ) → IsAt b m → Contains (batch_at st b).values (insertion_value ps b m)
  served_there b m at = subst (λ (values : List ℕ). Contains values (insertion_value ps b m)) (sym (same b at.0)) (serving_in m (slots_in ps b) (slice_index_or ps b no_plan).values at.1 (marked.fits b).1)

  -- one value serves one batch at one slot
  served_once : (b m b' m' : ℕ) → IsAt b m → IsAt b' m' → insertion_value ps b m ≡ insertion_value ps b' m' → (b ≡ b') × (m ≡ m')
  served_once b m b' m' at at' is = (b_is, serving_once m m' (slots_in ps b) (slice_index_or ps b no_plan).values distinct at.1 at_b (marked.fits b).1 (is ∙ ap (λ k. insertion_value ps k m') (sym b_is)))
    where
      b_is : b ≡ b'
      b_is = batched_once st r b b' (insertion_value ps b m) (served_there b m at) (subst (Contains (batch_at st b').values) (sym is) (served_there b' m' at'))

      at_b : Contains (slots_in ps b) m'
      at_b = subst (λ k. Contains (slots_in ps k) m') (sym b_is) at'.1

      distinct : are_distinct (slice_index_or ps b no_plan).values ≡ true
      distinct = subst (λ (values : List ℕ). are_distinct values ≡ true) (same b at.0) (batch_distinct st r b)

  -- and so does one home
  homed_once : (b m b' m' : ℕ) → IsAt b m → IsAt b' m' → home_of (insertion_value ps b m) ≡ home_of (insertion_value ps b' m') → (b ≡ b') × (m ≡ m')
  homed_once b m b' m' at at' home =
      let here = batched_named st r b (insertion_value ps b m) (served_there b m at) in
      let there = batched_named st r b' (insertion_value ps b' m') (served_there b' m' at') in
      served_once b m b' m' at at' (one (insertion_value ps b m) (insertion_value ps b' m') home here.0 there.0 here.1 there.1)

  -- a block that is about to be inserted is none of those in use
  pub tried_apart : (s b m b' m' : ℕ) → IsTried st s b m → InUse st b' m' → home_of (insertion_value ps b m) ≢ home_of (insertion_value ps b' m')
  tried_apart s b m b' m' t used home = unheld (subst (InUse st b) (sym is.1) (subst (λ k. InUse st k m') (sym is.0) used))
    where
      is : (b ≡ b') × (m ≡ m')
      is = homed_once b m b' m' (tried_at s b m t) (used_at b' m' used) home

      none : (Lists st m b → ⊥) × (Walks st m b → ⊥)
      none = tried_unheld st s b t.0 m t.1 t.2 t.3 r t.4

      unheld : InUse st b m → ⊥
      unheld (inl lists) = none.0 lists
      unheld (inr walks) = none.1 walks

  -- nor one that another slot is about to insert
  pub tries_apart : (s b m s' b' m' : ℕ) → IsTried st s b m → IsTried st s' b' m' → s ≢ s' → home_of (insertion_value ps b m) ≢ home_of (insertion_value ps b' m')
  tries_apart s b m s' b' m' t t' other home =
      let is = homed_once b m b' m' (tried_at s b m t) (tried_at s' b' m' t') home in
      other (one_owner b s s' st r (detaches s b m t) (detaches s' b' m' t' ∙ ap (λ k. Option.Some k) (sym is.0)))
