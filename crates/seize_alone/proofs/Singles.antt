-- Single events that are made alone lead the hands from the state that they hold to the state that the model says.
use Rattle.std.proofs.Common.{◌≡◌, ◌⊎◌, ℕ, suc, ◌==◌, ◌&&◌, ◌||◌, Bool, true, false, List, [], ◌∷◌, ◌++◌, length, map, set, Option, Some, None, option_map, inl, inr, refl, sym, ap, subst, ◌∙◌, append-nil, arith}
use Rattle.std.proofs.lemmas.List.{length-map}
use mathlib.Core.List.{IsPrefix}
use base.Stored.{Coded}
use Rattle.seize_table.specs.Place.{all_numbers}
use Rattle.seize_machine.specs.Machine.State as machine
use Rattle.seize_machine.specs.Machine.Event.{Event, Take}
use Rattle.seize_machine.specs.Machine.Next.{can_link, is_none_or_fresh, next}
use Rattle.seize_machine.specs.declared.machine.event.Answer.{Answer}
use Rattle.seize_machine.specs.declared.machine.event.Answer.TheVariants.{Done, Link}
use Rattle.seize_machine.proofs.Facts.{if_some, swapped}
use Rattle.seize_model.specs.Waiting.State as waiting
use Rattle.seize_model.specs.Waiting.Attempt.{StateAndGone, is_full}
use Rattle.seize_model.specs.Waiting.Calls.{is_free, is_owned, model_link, others_in_use, rest_and_batch, set_guards, with_number_free, with_number_in_use}
use Rattle.seize_model.specs.Agreement.Events.{IsTaken}
use Rattle.seize_model.specs.Agreement.Play.{play}
use Rattle.seize_model.specs.Agreement.Shows.{ShowsReclaimers, ShowsState, held_value}
use Rattle.seize_model.proofs.Simulation.Coupling.{NearAt}
use Rattle.seize_model.proofs.Simulation.Guards.{enter_step, near_entered, near_guards}
use Rattle.seize_model.proofs.Simulation.Gathers.{end_near, end_step, may_end}
use Rattle.seize_model.proofs.Simulation.Links.{same_link, swapped_near}
use Rattle.seize_model.proofs.Simulation.Numbers.{take_list, taken_few, taking_rest}
use Rattle.seize_model.proofs.Simulation.Plays.{both_same, play_first}
use Rattle.seize_model.proofs.Simulation.Views.{near_with, shows_with, with_reclaimers}
use Rattle.seize_model.proofs.WaitingSets.Refusals.{IsIdle}
use Rattle.seize_book.specs.Book.{after}
use Rattle.seize_book.specs.Entry.{Entry, Made}
use Rattle.seize_book.specs.Tokens.{Name, start}
use Rattle.seize_book.specs.declared.book.pass.Pass.{Pass}
use Rattle.seize_alone.specs.Events.{EntersHeld, GivesHeld, GuardsHeld, IsHeldAs, MakesAlone, SwapsHeld, TakesHeld}
use Rattle.seize_alone.specs.Holding.{AreLent, AreOfKinds, Holds, found, some_state, some_value, with_gone_below}
use Rattle.seize_alone.proofs.Below.{active_below, free_below, guards_below, least_below, left_below, off_below, others_below, slot_below, use_below, used_below}
use Rattle.seize_alone.proofs.Found.{all_later, found_lent, has_first, has_right, lent_append, lent_found, one_lent, reclaimers_on, same_some, shows_on}
use Rattle.seize_alone.proofs.Held.{some_active, some_inactive, some_used}
use Rattle.seize_alone.proofs.Mapped.{free_same, guards_same, least_same, left_same, link_same, long_same, others_same, slot_same, swap_same, use_same}
use Rattle.seize_alone.proofs.Ready.{nothing, nothing_lighter}

-- What the event did.

module _ {pass pass' : Pass} {event : Event} {answer : Answer} (m : MakesAlone pass pass' event answer) where
  abbrev pub state_before : machine.State
  state_before = after (start pass.name) pass.seen

  abbrev pub state_then : machine.State
  state_then = after (start pass'.name) pass'.seen

  pub made_next : next m.deed.size state_before event ≡ Some (state_then, answer)
  made_next =
      (λ i. next m.deed.size (after (start pass.name) (sym (m.noted.alone m.sole) i)) (sym m.is i)) ∙ m.noted.does
      ∙ (λ i. Some ((sym m.noted.leads ∙ ap (λ (n : Name). after (start n) pass'.seen) (sym m.same.0)) i, m.answers i))

  pub made_grows : IsPrefix pass.seen pass'.seen
  made_grows = (Made m.deed ∷ [], ap (λ (log : List Entry). log ++ Made m.deed ∷ []) (sym (m.noted.alone m.sole)) ∙ sym m.noted.appended)

-- where a number goes back
which_end : {X : Type 0} (others : Bool) (left : List X) → (others || (length left == 0)) ≡ true → (others ≡ true) ⊎ (left ≡ [])
which_end true left e = inl refl
which_end false [] e = inr refl
which_end false (x ∷ left) e = absurd (let no : (suc (length left) == 0) ≡ false = grind arith in cc)

module _ {T : Type 0} (c : Coded T) where
  abbrev NearHands : List (ℕ × T) → List (ℕ × ℕ) → waiting.ModelState T ℕ → machine.State → Type 0
  NearHands names kinds st ms = NearAt (with_reclaimers (found names) (found kinds)) [] (some_state st) ms

  -- what the list shows: the state, with the retired batches that the hands have forgotten
  pub near_of : (st : waiting.ModelState T ℕ) (names : List (ℕ × T)) (kinds : List (ℕ × ℕ)) (n : Name) (seen : List Entry) (holds : Holds c.code st names kinds n seen) → NearHands names kinds (with_gone_below holds.gone st) (after (start n) seen)
  near_of st names kinds n seen holds = near_with (found names) (found kinds) (some_state (with_gone_below holds.gone st)) (after (start n) seen) holds.all.shows holds.all.reclaimers

  pub held_of : (gone : ℕ) (st : waiting.ModelState T ℕ) (names : List (ℕ × T)) (kinds : List (ℕ × ℕ)) (n : Name) (seen : List Entry) → AreLent c.code names → AreOfKinds seen kinds → NearHands names kinds (with_gone_below gone st) (after (start n) seen)
      → Holds c.code st names kinds n seen
  held_of gone st names kinds n seen lent told near =
      let whole : waiting.ModelState T ℕ = with_gone_below gone st in
      let both : ShowsState (Option T) (Option ℕ) (found names) (some_state whole) (after (start n) seen) × ShowsReclaimers (Option T) (Option ℕ) (found names) (found kinds) (some_state whole) (after (start n) seen) =
      shows_with (found names) (found kinds) (some_state whole) (after (start n) seen) near in
      record { gone = gone; all = record { shows = both.0; reclaimers = both.1; lent = lent; told = told } }

  -- the hands hold another state by the same names and kinds
  held_made : {pass pass' : Pass} {event : Event} {answer : Answer} (m : MakesAlone pass pass' event answer) (st now : waiting.ModelState T ℕ) (now' : waiting.ModelState (Option T) (Option ℕ)) (names : List (ℕ × T)) (kinds : List (ℕ × ℕ)) (holds : Holds c.code st names kinds pass.name pass.seen)
      → now' ≡ some_state (with_gone_below holds.gone now) → NearAt (with_reclaimers (found names) (found kinds)) [] now' (state_then m) → Holds c.code now names kinds pass'.name pass'.seen
  held_made {pass} {pass'} m st now now' names kinds holds is near =
      held_of holds.gone now names kinds pass'.name pass'.seen holds.all.lent (all_later pass.seen pass'.seen (made_grows m) kinds holds.all.told)
      (subst (λ (x : waiting.ModelState (Option T) (Option ℕ)). NearAt (with_reclaimers (found names) (found kinds)) [] x (state_then m)) is near)

  -- Enter, give, take.

  pub enters_held : EntersHeld c.code
  enters_held st names kinds s answer pass pass' m holds used off =
      let n = holds.gone in let whole : waiting.ModelState T ℕ = with_gone_below holds.gone st in
      let near = near_of st names kinds pass.name pass.seen holds in
      let used_so = some_used whole s (used_below n st s used) in let off_so = some_inactive whole s (off_below n st s off) in
      let ends = both_same (state_then m, answer) (_, Done) (sym (made_next m) ∙ enter_step (with_reclaimers (found names) (found kinds)) m.deed.size (some_state whole) (state_before m) s near used_so off_so) in
      held_made m st (set_guards st s 1) _ names kinds holds (guards_same whole s 1 ∙ ap some_state (guards_below n st s 1))
      (subst (λ (k : machine.State). NearAt (with_reclaimers (found names) (found kinds)) [] (set_guards (some_state whole) s 1) k) (sym ends.0)
      (near_entered (with_reclaimers (found names) (found kinds)) (some_state whole) (state_before m) s 1 near used_so off_so (omega arith) (λ owned. omega arith)))

  pub gives_held : GivesHeld c.code
  gives_held st names kinds s answer pass pass' m holds used off =
      let n = holds.gone in let whole : waiting.ModelState T ℕ = with_gone_below holds.gone st in
      let near = near_of st names kinds pass.name pass.seen holds in
      let idle : IsIdle (some_state whole) s = (some_used whole s (used_below n st s used), some_inactive whole s (off_below n st s off)) in
      let may = may_end (with_reclaimers (found names) (found kinds)) m.deed.size (some_state whole) (state_before m) s (state_then m, answer) near idle (made_next m) in
      let ends = both_same (state_then m, answer) (_, Done) (sym (made_next m) ∙ end_step (with_reclaimers (found names) (found kinds)) m.deed.size (some_state whole) (state_before m) s near idle may) in
      let others : others_in_use (some_state whole) s ≡ others_in_use st s = others_same whole s ∙ others_below n st s in
      let many : length (rest_and_batch (some_state whole) s) ≡ length (rest_and_batch st s) = ap length (left_same whole s ∙ ap (map some_value) (left_below n st s)) ∙ length-map (rest_and_batch st s) some_value in (
        held_made m st (with_number_free st s) _ names kinds holds (free_same whole s ∙ ap some_state (free_below n st s))
            (subst (λ (k : machine.State). NearAt (with_reclaimers (found names) (found kinds)) [] (with_number_free (some_state whole) s) k) (sym ends.0)
            (end_near (with_reclaimers (found names) (found kinds)) (some_state whole) (state_before m) s near idle)),
        which_end (others_in_use st s) (rest_and_batch st s) ((λ i. sym others i || (sym many i == 0)) ∙ may),
      )

  pub takes_held : TakesHeld c.code
  takes_held st names kinds n kind answer pass pass' m holds used size short =
      let whole : waiting.ModelState T ℕ = with_gone_below holds.gone st in
      let near = near_of st names kinds pass.name pass.seen holds in
      let played : play st.size (state_before m) (Take n ∷ []) ≡ Some (state_then m, answer ∷ []) =
      play_first st.size (state_before m) (Take n) [] (state_then m) answer (subst (λ (k : ℕ). next k (state_before m) (Take n) ≡ Some (state_then m, answer)) (m.sized ∙ sym size) (made_next m)) in
      let short_so : is_full st.size (map some_value st.rest) ≡ false = long_same st.size st.rest ∙ short in
      let events : IsTaken n (is_full st.size (map some_value st.rest)) (Take n ∷ []) = subst (λ (b : Bool). IsTaken n b (Take n ∷ [])) (sym short_so) ([], refl, refl) in
      let took = take_list nothing (λ v. 1) nothing_lighter (found names) (found kinds) (some_state whole) (state_before m) n kind (Take n ∷ []) (answer ∷ []) (state_then m) near used events played (tt, tt) in
      let few : (n == all_numbers) ≡ false = taken_few m.deed.size (state_before m) n (state_then m, answer) (made_next m) in
      let ends = took.1 (ap (λ (k : ℕ). k == all_numbers) (sym took.0) ∙ few) in (
        took.0 ∙ least_same whole.slots ∙ least_below holds.gone st.slots,
        few,
        held_made m st (with_number_in_use st n kind) _ names kinds holds
            (ap (λ (o : StateAndGone (Option T) (Option ℕ)). o.0) (taking_rest nothing (λ v. 1) (some_state whole) kind short_so)
            ∙ ap (λ (k : ℕ). with_number_in_use (some_state whole) k kind) (sym took.0) ∙ use_same whole n kind ∙ ap some_state (use_below holds.gone st n kind)) ends.near,
      )

  -- Guards beside others.

  pub guards_held : GuardsHeld c.code
  guards_held st names kinds s guards pass holds kind active some =
      let n = holds.gone in let whole : waiting.ModelState T ℕ = with_gone_below holds.gone st in
      let owned : is_owned (waiting.model_slot (some_state whole) s).kind ≡ false =
      ap (λ (slot : waiting.ModelSlot (Option T) (Option ℕ)). is_owned slot.kind) (slot_same whole s) ∙ ap (λ (slot : waiting.ModelSlot T ℕ). is_owned slot.kind) (slot_below n st s) ∙ ap is_owned kind in
      held_of n (set_guards st s guards) names kinds pass.name pass.seen holds.all.lent holds.all.told
      (subst (λ (x : waiting.ModelState (Option T) (Option ℕ)). NearAt (with_reclaimers (found names) (found kinds)) [] x (after (start pass.name) pass.seen)) (guards_same whole s guards ∙ ap some_state (guards_below n st s guards))
      (near_guards (with_reclaimers (found names) (found kinds)) (some_state whole) (after (start pass.name) pass.seen) s guards (near_of st names kinds pass.name pass.seen holds)
      (some_used whole s (used_below n st s (ap is_free kind))) (some_active whole s (active_below n st s active)) some (λ is. absurd (let e : true ≡ false = sym is ∙ owned in cc))))

  -- Links.

  -- what a link holds on both sides
  pub link_held : (st : waiting.ModelState T ℕ) (names : List (ℕ × T)) (kinds : List (ℕ × ℕ)) (n : Name) (seen : List Entry) (l : ℕ) → Holds c.code st names kinds n seen → IsHeldAs c.code (machine.link_at (after (start n) seen) l) (model_link st l)
  link_held st names kinds n seen l holds =
      let whole : waiting.ModelState T ℕ = with_gone_below holds.gone st in
      held_by (machine.link_at (after (start n) seen) l) (model_link st l) (sym (link_same whole l) ∙ same_link (with_reclaimers (found names) (found kinds)) (some_state whole) (after (start n) seen) l (near_of st names kinds n seen holds))
    where
      held_by : (o : Option ℕ) (value : Option T) → option_map Some value ≡ held_value (found names) o → IsHeldAs c.code o value
      held_by None None is = tt
      held_by None (Some x) is = absurd (cc)
      held_by (Some v) None is = absurd (cc)
      held_by (Some v) (Some x) is = lent_found c names holds.all.lent v x (sym (same_some (Some x) (found names v) is))

  same_answer : (o o' : Option ℕ) → Link o ≡ Link o' → o ≡ o'
  same_answer o o' e = ap in_link e
    where
      in_link : Answer → Option ℕ
      in_link (Link x) = x
      in_link _ = None

  -- what the link holds then has its name
  abbrev new_names : Option ℕ → Option T → List (ℕ × T)
  new_names (Some v) (Some x) = (v, x) ∷ []
  new_names _ _ = []

  pub swaps_held : SwapsHeld c.code
  swaps_held st names kinds s l number o new pass pass' m holds held = (
    (names ++ more, record { gone = holds.gone; all = record { shows = both.0; reclaimers = both.1; lent = lent_then; told = all_later pass.seen pass'.seen (made_grows m) kinds holds.all.told } }),
    subst (λ (x : Option ℕ). IsHeldAs c.code x (model_link st l)) (same_answer (machine.link_at (state_before m) l) o ends.1) (link_held st names kinds pass.name pass.seen l holds),
  )
    where
      more : List (ℕ × T)
      more = new_names number new

      lent_more : (n : Option ℕ) (x : Option T) → IsHeldAs c.code n x → AreLent c.code (new_names n x)
      lent_more None None is = tt
      lent_more None (Some x) is = absurd is
      lent_more (Some v) None is = absurd is
      lent_more (Some v) (Some x) is = (is, tt)

      lent_then : AreLent c.code (names ++ more)
      lent_then = lent_append c names more holds.all.lent (lent_more number new held)

      named : (n : Option ℕ) (x : Option T) → IsHeldAs c.code n x → AreLent c.code (names ++ new_names n x) → held_value (found (names ++ new_names n x)) n ≡ option_map Some x
      named None None is lent = refl
      named None (Some x) is lent = absurd is
      named (Some v) None is lent = absurd is
      named (Some v) (Some x) is lent = ap Some (found_lent c (names ++ (v, x) ∷ []) lent v x is (has_right names ((v, x) ∷ []) v (has_first (v, x) [])))

      whole : waiting.ModelState T ℕ
      whole = with_gone_below holds.gone st

      near : NearHands (names ++ more) kinds whole (state_before m)
      near = near_with (found (names ++ more)) (found kinds) (some_state whole) (state_before m) (shows_on names more kinds [] whole (state_before m) holds.all.shows)
          (subst (λ (ks : List (ℕ × ℕ)). ShowsReclaimers (Option T) (Option ℕ) (found (names ++ more)) (found ks) (some_state whole) (state_before m)) (append-nil kinds) (reclaimers_on names more kinds [] whole (state_before m) holds.all.reclaimers))

      ends : (swapped (state_before m) l number ≡ state_then m) × (Link (machine.link_at (state_before m) l) ≡ Link o)
      ends = both_same (swapped (state_before m) l number, Link (machine.link_at (state_before m) l)) (state_then m, Link o)
          (ap Some (if_some (can_link (state_before m) s l && is_none_or_fresh (state_before m) number) (swapped (state_before m) l number, Link (machine.link_at (state_before m) l)) (state_then m, Link o) (made_next m)).1)

      then_whole : waiting.ModelState T ℕ
      then_whole = with_gone_below holds.gone (record st { links = set st.links l new })

      near_then : NearHands (names ++ more) kinds then_whole (state_then m)
      near_then = subst (λ (k : machine.State). NearHands (names ++ more) kinds then_whole k) ends.0
          (subst (λ (x : waiting.ModelState (Option T) (Option ℕ)). NearAt (with_reclaimers (found (names ++ more)) (found kinds)) [] x (swapped (state_before m) l number)) (swap_same whole l new)
          (swapped_near (with_reclaimers (found (names ++ more)) (found kinds)) (some_state whole) (state_before m) l number (option_map Some new) near (named number new held lent_then)))

      both : ShowsState (Option T) (Option ℕ) (found (names ++ more)) (some_state then_whole) (state_then m) × ShowsReclaimers (Option T) (Option ℕ) (found (names ++ more)) (found kinds) (some_state then_whole) (state_then m)
      both = shows_with (found (names ++ more)) (found kinds) (some_state then_whole) (state_then m) near_then

  -- A number holds one value.

  pub held_once : (o : Option ℕ) (x y : Option T) → IsHeldAs c.code o x → IsHeldAs c.code o y → x ≡ y
  held_once None None None a b = refl
  held_once None None (Some y) a b = absurd b
  held_once None (Some x) y a b = absurd a
  held_once (Some v) None y a b = absurd a
  held_once (Some v) (Some x) None a b = absurd b
  held_once (Some v) (Some x) (Some y) a b = ap Some (one_lent c v x y a b)
