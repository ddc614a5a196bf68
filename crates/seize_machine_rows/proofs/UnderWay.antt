-- The machine's steps, used by a crate that builds on it: what a call under way does next, and how a value stands in a list.
use Rattle.std.proofs.Common.{◌≡◌, ◌≢◌, ℕ, ◌<◌, ◌≤◌, pos, ◌+ℤ◌, true, false, if◌then◌else◌, nat_lt, List, [], ◌∷◌, ◌++◌, length, Some, None, ◌⊎◌, inl, inr, refl, sym, ◌∙◌, arith}
use Rattle.seize_machine.specs.Machine.State.{State, Active, Add, Append, Try, Out, slot_at, head_at, batch_at, link_at, is_active, is_idle, has, are_distinct}
use Rattle.seize_machine.specs.Machine.Event.{Event, Begin, Put, Insert, AddCount, ExchangeLink, event_slot}
use Rattle.seize_machine.specs.Machine.Next.{next, slot_set, can_link, is_none_or_fresh, new_link, is_stored}
use Rattle.seize_machine.specs.Machine.History.{is_link_event}
use Rattle.seize_machine.specs.declared.machine.event.Answer.{Answer}
use Rattle.seize_machine.specs.declared.machine.event.Answer.TheVariants.{Done, Count, Link}
use Rattle.seize_machine.specs.declared.machine.event.Exchange.{Exchange}
use Rattle.seize_machine.specs.declared.machine.event.Job.TheVariants.{Leave}
use Rattle.seize_machine.specs.declared.machine.event.Try.TheVariants.{Lost}
use Rattle.seize_machine.proofs.Facts.{Step, Stands, Forced, beginning, go_on, counted, swapped, step_of, next_of, step_put, forced, is_true, some_is, if_some, lt_true, after_put, occ, has_some, has_none, distinct_once}
use Rattle.seize_machine_rows.specs.Interface.{IsLegal, StandsAt, UnderWay}

-- a step is a legal event
legal : (size : ℕ) (st later : State) (event : Event) (answer : Answer) → Step size st event (later, answer) → IsLegal size st event answer
legal size st later event answer step = (later, next_of size st event (later, answer) step)

adds : (size : ℕ) (st : State) (s b won : ℕ) (queue : List ℕ) (event : Event) (d : State × Answer) → (slot_at st s).used ≡ true
    → StandsAt st s (Add b won) queue → next size st event ≡ Some d → event_slot event ≡ s → is_link_event s event ≡ false → event ≡ AddCount s
adds size st s b won queue event d used stands h own apart =
    let now : Forced st s (Add b won) queue event = forced size st s (Add b won) queue event d (step_of size st event d h) own apart used stands in
    now

leaves : (size : ℕ) (st : State) (s : ℕ) → is_idle (slot_at st s) ≡ true → is_active (head_at st s) ≡ true → IsLegal size st (Begin s Leave) Done
leaves size st s idle active =
    let to : beginning st s Leave ≡ Some (Out false) = refl in
    legal size st _ (Begin s Leave) Done (Step.begun_other s Leave (Out false) idle (inr (inr (inr refl))) (active, to))

-- the state after a put has the place that `after_put` tells
puts : (size : ℕ) (st : State) (s v : ℕ) (queue : List ℕ) → Stands st s (Append v) queue → IsLegal size st (Put s) Done
puts size st s v queue stands =
    let batch : List ℕ = (slot_at st s).batch ++ v ∷ [] in
    let later : State = slot_set st s (record { used = (slot_at st s).used; batch = batch; call = Some (record { place = after_put size (length st.slots) batch; queue = queue }) }) in
    legal size st later (Put s) Done (step_put size st s v (Append v) queue queue stands (inl (refl, refl)))

loses : (size : ℕ) (st : State) (s m b won : ℕ) (later saw queue : List ℕ) → StandsAt st s (Try b won m later saw) queue → head_at st m ≢ Active saw
    → IsLegal size st (Insert s m Lost) Done
loses size st s m b won later saw queue stands other = legal size st (go_on st s _) (Insert s m Lost) Done (Step.lost s m b won later saw queue stands other)

counts : (size : ℕ) (st : State) (s b won : ℕ) (queue : List ℕ) → StandsAt st s (Add b won) queue
    → IsLegal size st (AddCount s) (Count ((batch_at st b).count +ℤ pos won))
counts size st s b won queue stands =
    let is : counted st s b ((batch_at st b).count +ℤ pos won) [] queue ≡ Some (_, Count ((batch_at st b).count +ℤ pos won)) = refl in
    legal size st _ (AddCount s) (Count ((batch_at st b).count +ℤ pos won)) (Step.added s b won queue _ stands is)

exchanges : (size : ℕ) (st : State) (s l : ℕ) (exchange : Exchange) → can_link st s l ≡ true → is_none_or_fresh st (new_link exchange) ≡ true
    → is_stored (link_at st l) exchange ≡ true → IsLegal size st (ExchangeLink s l exchange) (Link (link_at st l))
exchanges size st s l exchange may fresh stored =
    legal size st (swapped st l (new_link exchange)) (ExchangeLink s l exchange) (Link (link_at st l)) (Step.exchanged s l exchange (new_link exchange) may fresh (refl, stored))

pub under_way : (size : ℕ) (st : State) → UnderWay size st
under_way size st =
    record {
      forced = adds size st;
      begins = leaves size st;
      put = puts size st;
      lost = loses size st;
      added = counts size st;
      exchanged = exchanges size st;
      one_outcome = λ event d other a b. some_is d other (sym a ∙ b);
    }

-- in a list of distinct values each stands once or not at all
pub once : (v : ℕ) (vs : List ℕ) → are_distinct vs ≡ true → ((has v vs ≡ true) × (occ v vs ≡ 1)) ⊎ ((has v vs ≡ false) × (occ v vs ≡ 0))
once v vs distinct = of (is_true (has v vs))
  where
    of : (has v vs ≡ true) ⊎ (has v vs ≡ false) → ((has v vs ≡ true) × (occ v vs ≡ 1)) ⊎ ((has v vs ≡ false) × (occ v vs ≡ 0))
    of (inl there) = let low : 1 ≤ occ v vs = has_some v vs there in let high : occ v vs ≤ 1 = distinct_once v vs distinct in inl (there, omega arith)
    of (inr absent) = inr (absent, has_none v vs absent)

-- a row of a table that asks for one number below another
pub guarded : {A : Type 0} (a b : ℕ) (x d : A) → (if nat_lt a b then Some x else None) ≡ Some d → (a < b) × (x ≡ d)
guarded a b x d h = let w : (nat_lt a b ≡ true) × (x ≡ d) = if_some (nat_lt a b) x d h in (lt_true a b w.0, w.1)
