-- The machine's facts, used by a crate that builds on it: only `proofs/Facts` of that crate is cited.
use Rattle.std.proofs.Common.{◌≡◌, ◌≢◌, ℕ, pos, Bool, true, false, not, ◌||◌, ◌==◌, List, [], ◌∷◌, ◌++◌, option_to_list, Option, Some, None, refl, sym, ◌∙◌, ap, subst, arith, length, take, drop, ◌⊎◌, inl, inr}
use Rattle.std.specs.List.{list_all, slice_get}
use Rattle.std.proofs.lemmas.List.Concat.{flat_map-cons}
use Rattle.seize_machine.specs.Machine.State.{State, link_at, has, linked_values, are_distinct, opening, slot_at}
use Rattle.seize_machine.specs.Machine.Event.{Event, SwapOut}
use Rattle.seize_machine.specs.Machine.Next.{next, can_link}
use Rattle.seize_machine.specs.Machine.History.{Timed, Legal, IsReached, handed_value, handed, is_swap_out, is_legal, history}
use Rattle.seize_machine.specs.Machine.Laws.{detached_by, Lists, Walks}
use Rattle.seize_machine.specs.Machine.Frames.{changes_batch}
use Rattle.seize_machine.specs.Machine.Kept.{KeptIn}
use Rattle.seize_machine.specs.declared.machine.event.Answer.{Answer}
use Rattle.seize_machine.specs.declared.machine.event.Answer.TheVariants.{Count, Handed}
use Rattle.seize_machine.proofs.Facts.{Step, and_true, not_true, eq_true, is_true, step_of, next_of, no_event, one_event, one_more, joined, taken_apart, first_event, legal_unique, moment_of_event, legal_answer, opening_reached, reached_next, law_at_most_once, law_after, law_quiet, law_protection, law_whereabouts, law_gone, law_holders, law_no_later_holders, law_under_guard, law_tries, slot_frame, active_frame, head_frame, batch_frame, link_frame, used_frame, value_frame, slots_length, heads_length, batches_length, links_length, named_grows, loose_stays, out_active, marks_tidy, looks_tidy, tries_tidy, adds_above_zero, adds_tidy, counts_near, one_owner, zero_unheld, arrives_unheld, values_kept, gone_grows, named_placed, marking_full, note_within, held_full, empty_zero, batched_named, batched_once, linked_named, linked_not_loose, loose_named, gone_named, kept_from_link, kept_step, kept_not_handed, reached_by, reached_holds, free_empty, no_rest, law_unused, rest_frame}
use Rattle.seize_machine_rows.specs.Interface.{Unmoved, CallsTidy, ValuesStand, Obeys, Handing}

stays_in : (s : ℕ) (event : Event) → not (is_swap_out s event) ≡ true → event ≢ SwapOut s
stays_in s event h e = (let k : (s == s) ≡ false = not_true (s == s) (ap (λ (event : Event). not (is_swap_out s event)) (sym e) ∙ h) in grind arith)

not_the_value : (v : ℕ) (o : Option ℕ) (rest : List ℕ) → o ≢ Some v → has v rest ≡ false → has v (option_to_list o ++ rest) ≡ false
not_the_value v None rest other h = h
not_the_value v (Some w) rest other h = (let n : (w == v) ≡ false = differ w v (λ e. other (ap (λ (w : ℕ). Some w) e)) in ap (λ (b : Bool). b || has v rest) n ∙ h)
  where
    differ : (a b : ℕ) → a ≢ b → (a == b) ≡ false
    differ a b h = of (is_true (a == b))
      where
        of : ((a == b) ≡ true) ⊎ ((a == b) ≡ false) → (a == b) ≡ false
        of (inl same) = absurd (let e : a ≡ b = eq_true a b same in h e)
        of (inr other) = other

-- a value that is kept back is not handed by a legal list without the slot's swap
unhanded : (s v : ℕ) (events : List Timed) (st end : State) (answers : List Answer) → IsReached st → KeptIn s v st → Legal next st events answers end
    → list_all (λ t. not (is_swap_out s t.event)) events ≡ true → has v (handed answers) ≡ false
unhanded s v [] st end answers r k legal stays = subst (λ (answers : List Answer). has v (handed answers) ≡ false) legal.answers_are refl
unhanded s v (t ∷ events) st end answers r k legal stays =
    let first : (now : State) × (answer : Answer) × (rest : List Answer) × (answers ≡ answer ∷ rest) × (next t.size st t.event ≡ Some (now, answer)) × Legal next now events rest end =
    first_event st end t events answers legal in
    let both_stay : (not (is_swap_out s t.event) ≡ true) × (list_all (λ t. not (is_swap_out s t.event)) events ≡ true) = and_true _ _ stays in
    let now : State = first.0 in
    let answer : Answer = first.1 in
    let rest : List Answer = first.2 in
    let step : Step t.size st t.event (now, answer) = step_of t.size st t.event (now, answer) first.4 in
    let later : KeptIn s v now = kept_step s v t.size st t.event (now, answer) r step (stays_in s t.event both_stay.0) k in
    let more : has v (handed rest) ≡ false = unhanded s v events now end rest (reached_next st t (now, answer) r first.4) later first.5 both_stay.1 in
    ap (λ (answers : List Answer). has v (handed answers)) first.3
    ∙ ap (has v) (flat_map-cons (λ answer. option_to_list (handed_value answer)) answer rest)
    ∙ not_the_value v (handed_value answer) (handed rest) (kept_not_handed s v t.size st t.event (now, answer) step k) more

pub kept : (st end : State) (s v l : ℕ) (events : List Timed) (answers : List Answer) → IsReached st → can_link st s l ≡ true
    → link_at st l ≡ Some v → Legal next st events answers end → list_all (λ t. not (is_swap_out s t.event)) events ≡ true → has v (handed answers) ≡ false
kept st end s v l events answers r may found legal stays = unhanded s v events st end answers r (kept_from_link s v l st r may found) legal stays

pub unmoved : (size : ℕ) (st : State) (event : Event) (d : State × Answer) → next size st event ≡ Some d → Unmoved st event d.0
unmoved size st event d legal =
    let step : Step size st event d = step_of size st event d legal in
    record {
      slot = λ k n. (slot_frame k size st event d step n, active_frame k size st event d step n);
      head = λ m n. head_frame m size st event d step n;
      batch = λ b r n. batch_frame b size st event d step r n;
      values = λ b r. values_kept b size st event d step r;
      link = λ l n. link_frame l size st event d step n;
      numbers = λ n. used_frame size st event d step n;
      rest = λ n. rest_frame size st event d step n;
      value = λ v n. value_frame v size st event d step n;
      named = λ v h. named_grows v size st event d step h;
      gone = λ v h. gone_grows v size st event d step h;
      loose = λ v n h. loose_stays v size st event d step n h;
      slots = slots_length size st event d step;
      batches = batches_length size st event d step;
      links = links_length size st event d step;
    }

pub reached : (slots : ℕ) (links : List (Option ℕ)) (events : List Timed) (answers : List Answer) (end : State)
    → are_distinct (linked_values links) ≡ true → Legal next (opening slots links) events answers end → IsReached end
reached slots links events answers end distinct legal = reached_by events (opening slots links) end answers (opening_reached slots links distinct) legal

pub tidy : (st : State) → IsReached st → CallsTidy st
tidy st r =
    record {
      heads = heads_length st r;
      free = free_empty st r;
      rest = no_rest st r;
      out = λ s stays queue e. out_active st s stays queue r e;
      marks = λ s next note marks queue e. marks_tidy st s next note marks queue r e;
      full = λ s next note marks queue e. marking_full st s next note marks queue r e;
      note = note_within st r;
      looks = λ s b won m later queue e. looks_tidy st s b won m later queue r e;
      tries = λ s b won m later saw queue e. tries_tidy st s b won m later saw queue r e;
      adds = λ s b won queue e. adds_tidy st s b won queue r e;
      above_zero = λ s b won queue e on. adds_above_zero st s b won queue r e on;
      counts = counts_near st r;
      owners = λ b i s e k. one_owner b i s st r e k;
      unheld = λ b none owners s. zero_unheld st r b none owners s;
    }

pub values : (st : State) → IsReached st → ValuesStand st
values st r =
    record {
      distinct = (named_placed st r).0;
      named = (named_placed st r).1;
      held = held_full st r;
      empty = empty_zero st r;
      batched = batched_named st r;
      in_one = batched_once st r;
      linked = λ l v e. (let known : (has v st.named ≡ true) × (has v st.gone ≡ false) = linked_named st r l v e in (known.0, known.1, linked_not_loose st r l v e));
      loose = loose_named st r;
      gone = gone_named st r;
    }

pub unheld : (size : ℕ) (st : State) (event : Event) (d : State × Answer) (b : ℕ) → IsReached st → next size st event ≡ Some d
    → d.1 ≡ Count (pos 0) → changes_batch st b event ≡ true → (s : ℕ) → ¬ (Lists d.0 s b) × ¬ (Walks d.0 s b) × (detached_by (slot_at d.0 s).call ≢ Some b)
unheld size st event d b r legal none at s = arrives_unheld size st event d b r (step_of size st event d legal) none at s

pub obeys : (slots : ℕ) (links : List (Option ℕ)) (events : List Timed) (answers : List Answer) (now later : State) (t : Timed) (answer : Answer)
    → are_distinct (linked_values links) ≡ true → Legal next (opening slots links) events answers now → next t.size now t.event ≡ Some (later, answer)
    → Obeys (opening slots links) (events ++ t ∷ [])
obeys slots links events answers now later t answer distinct legal e =
    let start : State = opening slots links in
    let all : Legal next start (events ++ t ∷ []) (answers ++ answer ∷ []) later = one_more start now later events answers t answer legal e in
    let one : Legal next now (t ∷ []) (answer ∷ []) later = one_event now later t answer e in
    let whole : Legal next start (events ++ t ∷ []) (answers ++ answer ∷ []) later = joined start now later events (t ∷ []) answers (answer ∷ []) legal (joined now now later [] (t ∷ []) [] (answer ∷ []) (no_event now) one) in
    record {
      at_most_once = law_at_most_once slots links (events ++ t ∷ []) _ later distinct all;
      after = law_after slots links (events ++ t ∷ []) _ later distinct all;
      quiet = law_quiet slots links (events ++ t ∷ []) _ later distinct all;
      protection = law_protection slots links (events ++ t ∷ []) _ later distinct all;
      whereabouts = law_whereabouts slots links (events ++ t ∷ []) _ later distinct all;
      gone = law_gone slots links (events ++ t ∷ []) _ later distinct all;
      holders = law_holders slots links (events ++ t ∷ []) _ later distinct all;
      no_later_holders = law_no_later_holders slots links (events ++ t ∷ []) _ later distinct whole;
      under_guard = law_under_guard slots links (events ++ t ∷ []) _ later distinct whole;
      tries = law_tries slots links (events ++ t ∷ []) _ later distinct whole;
      unused = law_unused slots links (events ++ t ∷ []) _ later distinct whole;
    }

pub answered : (size : ℕ) (st : State) (event : Event) (d : State × Answer) → next size st event ≡ Some d → is_legal d.1 ≡ true
answered size st event d legal = legal_answer size st event d (step_of size st event d legal)

-- two events of one legal list that hand one value are one
pub handed_once : (slots : ℕ) (links : List (Option ℕ)) (v : ℕ) (end : State) (answers : List Answer) (events more : List Timed) (t : Timed) (before : Handing slots links v events t)
    (events2 more2 : List Timed) (t2 : Timed) (before2 : Handing slots links v events2 t2) → are_distinct (linked_values links) ≡ true
    → Legal next (opening slots links) (events ++ t ∷ more) answers end → events ++ t ∷ more ≡ events2 ++ t2 ∷ more2 → length events ≡ length events2
handed_once slots links v end answers events more t a events2 more2 t2 b distinct legal same =
    law_at_most_once slots links (events ++ t ∷ more) answers end distinct legal v (length events) (length events2)
    (_, moment_of_event start a.now a.later events more a.answers t (Handed v) a.begins a.hands, refl)
    (_, ap (λ (l : List Timed). slice_get (history next start l) (length events2)) same ∙ moment_of_event start b.now b.later events2 more2 b.answers t2 (Handed v) b.begins b.hands, refl)
  where
    start : State
    start = opening slots links

-- a beginning of a legal list has the answers and the end of any other reading of it
pub beginning_is : (st later now : State) (events more : List Timed) (answers told : List Answer) → Legal next st (events ++ more) answers later → Legal next st events told now
    → (take (length events) answers ≡ told) × Legal next now more (drop (length events) answers) later
beginning_is st later now events more answers told whole first =
    let apart = taken_apart st later events more answers whole in
    let one : (take (length events) answers ≡ told) × (apart.0 ≡ now) = legal_unique st apart.0 now events (take (length events) answers) told apart.1 first in
    (one.0, subst (λ (now : State). Legal next now more (drop (length events) answers) later) one.1 apart.2)

-- reached states are those that openings and legal events give
pub again : (st : State) → IsReached st → IsReached st
again = reached_holds IsReached (λ slots links distinct. opening_reached slots links distinct) (λ st t d r step p. reached_next st t d p (next_of t.size st t.event d step))
