-- The activations in which a value was found are over when it goes to its reclaimer. Assumes `Logic`.
use Rattle.std.proofs.Common.{◌≡◌, ℕ, zero, suc, ◌<◌, ◌≤◌, Bool, true, false, cond, ◌==◌, if◌then◌else◌, List, [], ◌∷◌, ◌++◌, length, take, slice_get, get_or, set, Option, Some, refl, sym, ◌∙◌, ap, subst, ◌⊎◌, inl, inr, ⊎_elim, arith, append_assoc, append-nil}
use Rattle.std.proofs.lemmas.List.{get_or-set_other, get_or-set_same, get_or_past}
use Rattle.std.proofs.lemmas.Bool.{cases_lt}
use mathlib.Core.List.{IsPrefix}
use native.Mathlib.Decide.{ℕ_discrete}
use seplogic.Ra.Ura.{Ura}
use base.Logic.{SProp, ent, sep, guard, guard_i, never, never_e, upd, upd_i}
use base.Fml.{Share, Fml, ftrue, fsep, flft, fdead}
use types.Logic.{Logic, sem}
use types.Kit.{‵, raw, ◌⊛◌, given, ◌$◌, ◌∵◌, !, qed, by, move, keep, split, fjoin, learn, check, suffices, done, use1, use2, rewrite}
use denote.Steps.{nothing}
use Rattle.seize_machine.specs.Machine.State.{State, Head, Inactive, Active, head_at, is_active}
use Rattle.seize_machine.specs.Machine.Event.{Event, SwapOut}
use Rattle.seize_machine.specs.Machine.Next.{next, can_link}
use Rattle.seize_machine.specs.Machine.History.{Moment, are_legal, done_by, or_illegal, is_legal, linked_value, is_link_event, is_swap_out, Found}
use Rattle.seize_machine.specs.Machine.Frames.{changes_head_of, changes_slot}
use Rattle.seize_machine.specs.declared.machine.event.Answer.{Answer}
use Rattle.seize_machine.proofs.Facts.{Step, step_of, head_frame, is_true, eq_true, and_true, some_is}
use Rattle.seize_book.specs.Entry.{Entry, Made, Used, Deed, deeds, timed_deed}
use Rattle.seize_book.specs.Book.{HolderKnows, TheSlot, acts, by_slot, moments, outcome, IsLegalList}
use Rattle.seize_book.specs.Laws.{AllParted, starts, life_from, life, lives_after, ended_by, ended_from, ended_in, ended_lives, none_alive, IsAmong, AllOver}
use Rattle.seize_book.specs.Tokens.{over}
use Rattle.seize_book.proofs.Handed.{entry_of, moments_of, state_of}
use Rattle.seize_book.proofs.Lists.{deeds_append, deeds_prefix, deeds_used}

-- events that are legal in this order
abbrev IsLegalRun : State → List Deed → Type 0
IsLegalRun st ds = are_legal (moments_of st ds) ≡ true

-- the first of them
legal_one : (st : State) (e : Deed) (ds : List Deed) → IsLegalRun st (e ∷ ds)
    → (d : State × Answer) × (next e.size st e.event ≡ Some d) × (done_by next st (timed_deed e) ≡ d) × IsLegalRun d.0 ds
legal_one st e ds l = go (next e.size st e.event) refl
  where
    go : (o : Option (State × Answer)) → next e.size st e.event ≡ o → (d : State × Answer) × (next e.size st e.event ≡ Some d) × (done_by next st (timed_deed e) ≡ d) × IsLegalRun d.0 ds
    go Option.None n = let none : is_legal (done_by next st (timed_deed e)).1 ≡ false = ap (λ o. is_legal (or_illegal st o).1) n in absurd (let x : true ≡ false = sym (and_true _ _ l).0 ∙ none in cc)
    go (Some d) n = let is : done_by next st (timed_deed e) ≡ d = ap (or_illegal st) n in (d, n, is, subst (λ (x : State × Answer). IsLegalRun x.0 ds) is (and_true _ _ l).1)

-- the first event of a legal list
pub legal_first : (st : State) (e : Deed) (log : List Entry) → IsLegalList st (Made e ∷ log)
    → (d : State × Answer) × (next e.size st e.event ≡ Some d) × (done_by next st (timed_deed e) ≡ d) × IsLegalList d.0 log
legal_first st e log l = legal_one st e (deeds log) l

-- a head that was active, where something else is put that is active
still_active : (heads : List Head) (m t : ℕ) (waiting : List ℕ) → is_active (get_or heads t Inactive) ≡ true → is_active (get_or (set heads m (Active waiting)) t Inactive) ≡ true
still_active heads m t waiting a = go (ℕ_discrete t m)
  where
    within : (t < length heads) ⊎ (length heads ≤ t) → t < length heads
    within (inl l) = l
    within (inr le) = absurd (let x : true ≡ false = sym a ∙ ap is_active (get_or_past heads t Inactive le) in cc)

    go : Dec (t ≡ m) → is_active (get_or (set heads m (Active waiting)) t Inactive) ≡ true
    go (yes e) =
        subst (λ (z : ℕ). is_active (get_or (set heads z (Active waiting)) t Inactive) ≡ true) e
        (ap is_active (get_or-set_same heads t (Active waiting) Inactive (within (cases_lt t (length heads)))))
    go (no n) = ap is_active (get_or-set_other heads m t (Active waiting) Inactive n) ∙ a

-- an active slot stays active, and begins no activation, until it leaves or refreshes
pub active_on : (t size : ℕ) (st : State) (event : Event) (d : State × Answer) → Step size st event d → is_active (head_at st t) ≡ true → is_swap_out t event ≡ false
    → (is_active (head_at d.0 t) ≡ true) × (starts t event ≡ false)
active_on t size st event d step a out = go (is_true (changes_head_of t event))
  where
    starts_none : (event : Event) → changes_head_of t event ≡ false → starts t event ≡ false
    starts_none (Event.Enter s) n = n
    starts_none (Event.SwapOut s) n = n
    starts_none _ n = refl

    changed : (event : Event) (d : State × Answer) → Step size st event d → is_swap_out t event ≡ false → changes_head_of t event ≡ true → (is_active (head_at d.0 t) ≡ true) × (starts t event ≡ false)
    changed event _ (Step.entered s e off) out c = absurd (let x : true ≡ false = sym a ∙ (sym (ap (λ (z : ℕ). is_active (head_at st z)) (eq_true s t c)) ∙ off) in cc)
    changed event _ (Step.inserted s m b won later saw queue waiting e head_is) out c = (still_active st.heads m t (b ∷ waiting) a, refl)
    changed event _ (Step.swapped_out s stays queue e) out c = absurd (let x : true ≡ false = sym c ∙ out in cc)
    changed event _ _ out c = absurd (cc)

    go : (changes_head_of t event ≡ true) ⊎ (changes_head_of t event ≡ false) → (is_active (head_at d.0 t) ≡ true) × (starts t event ≡ false)
    go (inl c) = changed event d step out c
    go (inr n) = (ap is_active (head_frame t size st event d step n) ∙ a, starts_none event n)

-- the first SwapOut of an active slot ends its activation
record Ends (a t i : ℕ) (log : List Deed) (life : ℕ) : Type 0 where
  pub at : ℕ
  pub from : i ≤ at
  pub entry : Deed
  pub there : slice_get log at ≡ Some entry
  pub out : is_swap_out t entry.event ≡ true
  pub alive : life_from a t (take at log) ≡ life

one_on : (a t i : ℕ) (x : Deed) (log : List Deed) (life : ℕ) → Ends (if starts t x.event then x.life else a) t i log life → Ends a t (suc i) (x ∷ log) life
one_on a t i x log life w = let le : i ≤ w.at = w.from in record { at = suc w.at; from = omega arith; entry = w.entry; there = w.there; out = w.out; alive = w.alive }

ends_first : (st : State) (log : List Deed) (a t p : ℕ) (f : Deed) → IsLegalRun st log → is_active (head_at st t) ≡ true → slice_get log p ≡ Some f → is_swap_out t f.event ≡ true → Ends a t zero log a
ends_first st [] a t p f l on h out = absurd (cc)
ends_first st (x ∷ log) a t p f l on h out = go (is_true (is_swap_out t x.event)) p h (λ st'. ends_first st' log a t)
  where
    later : Ends a t zero log a → starts t x.event ≡ false → Ends a t zero (x ∷ log) a
    later w n = record { at = suc w.at; from = omega arith; entry = w.entry; there = w.there; out = w.out; alive = ap (λ (b : Bool). life_from (if b then x.life else a) t (take w.at log)) n ∙ w.alive }

    go : (is_swap_out t x.event ≡ true) ⊎ (is_swap_out t x.event ≡ false) → (p : ℕ) → slice_get (x ∷ log) p ≡ Some f
        → ((st' : State) (p : ℕ) (f : Deed) → IsLegalRun st' log → is_active (head_at st' t) ≡ true → slice_get log p ≡ Some f → is_swap_out t f.event ≡ true → Ends a t zero log a)
        → Ends a t zero (x ∷ log) a
    go (inl y) p h ih = record { at = zero; from = omega arith; entry = x; there = refl; out = y; alive = refl }
    go (inr n) zero h ih = absurd (let same : is_swap_out t x.event ≡ true = ap (λ (e : Deed). is_swap_out t e.event) (some_is _ _ h) ∙ out in let y : true ≡ false = sym same ∙ n in cc)
    go (inr n) (suc p) h ih =
        let w = legal_one st x log l in let next_on = active_on t x.size st x.event w.0 (step_of _ _ _ _ w.1) on n in
        later (ih w.0.0 p f w.3 next_on.0 h out) next_on.1

ends_after : (st : State) (log : List Deed) (a t i p : ℕ) (f : Deed) → IsLegalRun st log → is_active (head_at (state_of st (take i log)) t) ≡ true → i ≤ p → slice_get log p ≡ Some f → is_swap_out t f.event ≡ true
    → Ends a t i log (life_from a t (take i log))
ends_after st log a t zero p f l on le h out = ends_first st log a t p f l on h out
ends_after st [] a t (suc i) p f l on le h out = absurd (cc)
ends_after st (x ∷ log) a t (suc i) zero f l on le h out = absurd (omega arith)
ends_after st (x ∷ log) a t (suc i) (suc p) f l on le h out =
    one_on a t i x log _ (ends_after (done_by next st (timed_deed x)).0 log (if starts t x.event then x.life else a) t i p f (and_true _ _ l).1 on (omega arith) h out)

-- what a SwapOut ends is among what has ended
pub in_right : (xs ys : List ℕ) (b : ℕ) → IsAmong ys b → IsAmong (xs ++ ys) b
in_right [] ys b h = h
in_right (x ∷ xs) ys b h = inr (in_right xs ys b h)

pub is_ended : (lives : ℕ → ℕ) (log : List Deed) (t q : ℕ) (g : Deed) → slice_get log q ≡ Some g → is_swap_out t g.event ≡ true → IsAmong (ended_from lives log) (life_from (lives t) t (take q log))
is_ended lives [] t q g h out = absurd (cc)
is_ended lives (x ∷ log) t zero g h out = go x.event (ap (λ (e : Deed). is_swap_out t e.event) (some_is _ _ h) ∙ out)
  where
    go : (event : Event) → is_swap_out t event ≡ true → IsAmong (ended_by lives event ++ ended_from (lives_after lives x) log) (lives t)
    go (Event.SwapOut s) o = inl (ap lives (eq_true s t o))
    go _ o = absurd (cc)
is_ended lives (x ∷ log) t (suc q) g h out = in_right (ended_by lives x.event) (ended_from (lives_after lives x) log) _ (is_ended (lives_after lives x) log t q g h out)

-- a slot that found something in a link was active
was_active : (st : State) (t : ℕ) (e : Deed) (v : ℕ) → is_link_event t e.event ≡ true → linked_value (done_by next st (timed_deed e)).1 ≡ Some v → is_active (head_at st t) ≡ true
was_active st t e v own h = go (next e.size st e.event) refl h
  where
    link : (s l : ℕ) → can_link st s l ≡ true → (s == t) ≡ true → is_active (head_at st t) ≡ true
    link s l c o = ap (λ (z : ℕ). is_active (head_at st z)) (sym (eq_true s t o)) ∙ (and_true _ _ c).0

    by_step : (event : Event) (d : State × Answer) → Step e.size st event d → is_link_event t event ≡ true → is_active (head_at st t) ≡ true
    by_step event _ (Step.read s l c) o = link s l c o
    by_step event _ (Step.exchanged s l exchange new c fresh exact) o = link s l c o
    by_step event _ (Step.compared s l exchange c exact) o = link s l c o
    by_step event _ _ o = absurd (cc)

    go : (o : Option (State × Answer)) → next e.size st e.event ≡ o → linked_value (or_illegal st o).1 ≡ Some v → is_active (head_at st t) ≡ true
    go Option.None n h = absurd (cc)
    go (Some d) n h = by_step e.event d (step_of e.size st e.event d n) own

-- the activation of whoever found v has ended
pub all_over : (st : State) (log : List Entry) (v : ℕ) → IsLegalList st log → AllParted st log v → AllOver st log v
all_over st log v l parted a r =
    let i : ℕ = r.0 in let t : ℕ = r.1 in let f : Found (moments st log) t v i = r.2 in
    let w = parted t i f in let p : ℕ = w.0 in let before : i < p = w.1 in
    let found = entry_of st (deeds log) i f.0 f.1 in let out = entry_of st (deeds log) p (w.3).0 (w.3).1 in
    let active : is_active (head_at (state_of st (take i (deeds log))) t) ≡ true =
    was_active (state_of st (take i (deeds log))) t found.0 v (ap (λ (m : Moment). is_link_event t m.timed.event) (sym found.2) ∙ f.2) (ap (λ (m : Moment). linked_value m.answer) (sym found.2) ∙ f.3) in
    let x = ends_after st (deeds log) 0 t i p out.0 l active (omega arith) out.1 (ap (λ (m : Moment). is_swap_out t m.timed.event) (sym out.2) ∙ (w.3).2) in
    subst (IsAmong (ended_lives log)) (x.alive ∙ sym r.3) (is_ended none_alive (deeds log) t x.at x.entry x.there x.out)

-- what an event adds to what has ended
lives_by : (ℕ → ℕ) → List Deed → ℕ → ℕ
lives_by lives [] = lives
lives_by lives (e ∷ ds) = lives_by (lives_after lives e) ds

ended_by_last : (lives : ℕ → ℕ) (ds : List Deed) (e : Deed) → ended_from lives (ds ++ e ∷ []) ≡ ended_from lives ds ++ ended_by (lives_by lives ds) e.event
unfolding lives_by
ended_by_last lives [] e = append-nil (ended_by lives e.event)
ended_by_last lives (x ∷ ds) e =
    ap (λ (l : List ℕ). ended_by lives x.event ++ l) (ended_by_last (lives_after lives x) ds e)
    ∙ sym (append_assoc (ended_by lives x.event) (ended_from (lives_after lives x) ds) (ended_by (lives_by (lives_after lives x) ds) e.event))

lives_are : (lives : ℕ → ℕ) (ds : List Deed) (t : ℕ) → lives_by lives ds t ≡ life_from (lives t) t ds
unfolding lives_by
lives_are lives [] t = refl
lives_are lives (e ∷ ds) t = lives_are (lives_after lives e) ds t

-- what has ended stays so
in_grows : (xs ys zs : List ℕ) (b : ℕ) → (IsAmong ys b → IsAmong zs b) → IsAmong (xs ++ ys) b → IsAmong (xs ++ zs) b
in_grows [] ys zs b f h = f h
in_grows (x ∷ xs) ys zs b f (inl e) = inl e
in_grows (x ∷ xs) ys zs b f (inr h) = inr (in_grows xs ys zs b f h)

ended_more : (lives : ℕ → ℕ) (ds more : List Deed) (b : ℕ) → IsAmong (ended_from lives ds) b → IsAmong (ended_from lives (ds ++ more)) b
ended_more lives [] more b h = absurd h
ended_more lives (e ∷ ds) more b h = in_grows (ended_by lives e.event) _ _ b (ended_more (lives_after lives e) ds more b) h

pub ended_grows : (log log' : List Entry) (b : ℕ) → IsPrefix log log' → IsAmong (ended_lives log) b → IsAmong (ended_lives log') b
ended_grows log log' b grows h =
    let p = deeds_prefix log log' grows in subst (λ (ds : List Deed). IsAmong (ended_from none_alive ds) b) p.1 (ended_more none_alive (deeds log) p.0 b h)

-- and with one entry more
ended_push : (log : List Entry) (e : Entry) → ended_lives (log ++ e ∷ []) ≡ ended_lives log ++ ended_in (lives_by none_alive (deeds log)) e
ended_push log (Made x) = ap (ended_from none_alive) (deeds_append log (Made x ∷ [])) ∙ ended_by_last none_alive (deeds log) x
ended_push log (Used u) = ap (ended_from none_alive) (deeds_used log u) ∙ sym (append-nil (ended_lives log))

-- an entry that ends no activation
abbrev pub EndsNothing : Entry → Type 0
EndsNothing e = (lives : ℕ → ℕ) → ended_in lives e ≡ []

same_ended : (log : List Entry) (e : Entry) → EndsNothing e → ended_lives (log ++ e ∷ []) ≡ ended_lives log
same_ended log e none = ended_push log e ∙ ap (λ (l : List ℕ). ended_lives log ++ l) (none (lives_by none_alive (deeds log))) ∙ append-nil (ended_lives log)

out_ended : (log : List Entry) (e : Deed) (s : ℕ) → e.event ≡ SwapOut s → ended_lives (log ++ Made e ∷ []) ≡ ended_lives log ++ life s log ∷ []
out_ended log e s is =
    ended_push log (Made e) ∙ ap (λ (x : Event). ended_lives log ++ ended_by (lives_by none_alive (deeds log)) x) is ∙ ap (λ (x : ℕ). ended_lives log ++ x ∷ []) (lives_are none_alive (deeds log) s)

is_in : (xs : List ℕ) (x : ℕ) → IsAmong xs x ⊎ ¬ (IsAmong xs x)
is_in [] x = inr (λ t. t)
is_in (y ∷ xs) x = go (ℕ_discrete y x) (is_in xs x)
  where
    go : Dec (y ≡ x) → IsAmong xs x ⊎ ¬ (IsAmong xs x) → IsAmong (y ∷ xs) x ⊎ ¬ (IsAmong (y ∷ xs) x)
    go (yes e) rest = inl (inl e)
    go (no n) rest = ⊎_elim (λ t. inl (inr t)) (λ m. inr (⊎_elim n m)) rest

-- The lifetime of a slot's last activation follows from the slot's own entries.

life_then : ℕ → ℕ → Entry → ℕ
life_then a s (Made d) = if starts s d.event then d.life else a
life_then a s (Used u) = a

lives_in : ℕ → ℕ → List (Entry × Answer) → ℕ
lives_in a s [] = a
lives_in a s (x ∷ xs) = lives_in (life_then a s x.0) s xs

life_in : ℕ → List (Entry × Answer) → ℕ
life_in s xs = lives_in 0 s xs

-- who begins an activation of the slot makes an event of it
starts_own : (s : ℕ) (event : Event) → changes_slot s event ≡ false → starts s event ≡ false
starts_own s (Event.Enter t) h = h
starts_own s (Event.SwapOut t) h = h
starts_own s _ h = refl

still : (a s : ℕ) (e : Entry) → acts s e ≡ false → life_then a s e ≡ a
unfolding life_then
still a s (Made d) h = ap (λ (b : Bool). if b then d.life else a) (starts_own s d.event h)
still a s (Used u) h = refl

life_by_slot : (st : State) (s : ℕ) (log : List Entry) → life s log ≡ life_in s (by_slot st s log)
unfolding life_in lives_in life_then
life_by_slot st s log = from st 0 log
  where
    -- one entry before a list
    one : (st : State) (a : ℕ) (e : Entry) (log : List Entry) → ((b : ℕ) → life_from b s (deeds log) ≡ lives_in b s (by_slot (or_illegal st (outcome st e)).0 s log))
        → life_from (life_then a s e) s (deeds log) ≡ lives_in a s (by_slot st s (e ∷ log))
    one st a e log ih = go (acts s e) refl
      where
        later : List (Entry × Answer)
        later = by_slot (or_illegal st (outcome st e)).0 s log

        x : Entry × Answer
        x = (e, (or_illegal st (outcome st e)).1)

        go : (c : Bool) → acts s e ≡ c → life_from (life_then a s e) s (deeds log) ≡ lives_in a s (cond (acts s e) (x ∷ by_slot (or_illegal st (outcome st e)).0 s log) (by_slot (or_illegal st (outcome st e)).0 s log))
        go true h = ih (life_then a s e) ∙ ap (λ (c : Bool). lives_in a s (cond c (x ∷ later) later)) (sym h)
        go false h = ap (λ (b : ℕ). life_from b s (deeds log)) (still a s e h) ∙ ih a ∙ ap (λ (c : Bool). lives_in a s (cond c (x ∷ later) later)) (sym h)

    from : (st : State) (a : ℕ) (log : List Entry) → life_from a s (deeds log) ≡ lives_in a s (by_slot st s log)
    from st a [] = refl
    from st a (Made e ∷ log) = one st a (Made e) log (λ b. from (done_by next st (timed_deed e)).0 b log)
    from st a (Used u ∷ log) = one st a (Used u) log (λ b. from st b log)

pub life_kept : (st : State) (s : ℕ) (a b : List Entry) → HolderKnows st TheSlot s a b → life s a ≡ life s b
life_kept st s a b kept = life_by_slot st s a ∙ ap (life_in s) kept.1.0 ∙ sym (life_by_slot st s b)

-- As resources.
module _ {M : Type 1} {𝓤 : Ura M} (𝓛 : Logic 𝓤) where
  abbrev Pr : Type 2
  Pr = SProp 𝓤

  abbrev ◌⊢◌ : Pr → Pr → Type 1
  P ⊢ Q = ent 𝓤 P Q

  abbrev ◌∗◌ : Pr → Pr → Pr
  P ∗ Q = sep 𝓤 P Q

  abbrev ⟦◌⟧ : Fml → Pr
  ⟦ P ⟧ = sem 𝓛 P

  infix 26 ◌⊢◌
  infixr 35 ◌∗◌
  pub over_one : (xs : List ℕ) (b : ℕ) → IsAmong xs b → ⟦ over xs ⟧ ⊢ ⟦ over xs ⟧ ∗ ⟦ fdead (b ∷ []) ⟧
  over_one [] b h = absurd h
  over_one (x ∷ xs) b (inl e) = qed 𝓛 (‵ (fdead (x ∷ [])) ∷ ‵ (over xs) ∷ []) ∵ use1 𝓛 (‵ (fdead (x ∷ [])) ⊛ ‵ (fdead (x ∷ []))) (𝓛.lfts.dead_dup (x ∷ [])) $ split ! $
      rewrite ! 1 (λ (z : ℕ). ‵ (fdead (z ∷ []))) e refl $ move ! (0 ∷ 2 ∷ []) $ fjoin ! $ done !
  over_one (x ∷ xs) b (inr h) = qed 𝓛 (‵ (fdead (x ∷ [])) ∷ ‵ (over xs) ∷ []) ∵ move ! (1 ∷ []) $ use1 𝓛 (‵ (over xs) ⊛ ‵ (fdead (b ∷ []))) (over_one xs b h) $ split ! $ move ! (2 ∷ 0 ∷ []) $ fjoin ! $ done !

  pub stays : (log : List Entry) (e : Entry) (X : Pr) → EndsNothing e → ⟦ over (ended_lives log) ⟧ ∗ X ⊢ upd 𝓤 (⟦ over (ended_lives (log ++ e ∷ [])) ⟧ ∗ X)
  stays log e X none = let Z : Pr = ⟦ over (ended_lives (log ++ e ∷ [])) ⟧ ∗ X in qed 𝓛 (‵ (over (ended_lives log)) ∷ raw X ∷ []) ∵ rewrite ! 0 (λ (l : List ℕ). ‵ (over l)) (sym (same_ended log e none)) refl $ suffices ! _ (upd_i 𝓤 Z) $ done !

  over_more : (xs : List ℕ) (b : ℕ) → ⟦ over xs ⟧ ∗ ⟦ fdead (b ∷ []) ⟧ ⊢ ⟦ over (xs ++ b ∷ []) ⟧
  over_more [] b = qed 𝓛 (‵ ftrue ∷ ‵ (fdead (b ∷ [])) ∷ []) ∵ move ! (1 ∷ 0 ∷ []) $ fjoin ! $ done !
  over_more (x ∷ xs) b = qed 𝓛 ((‵ (fdead (x ∷ [])) ⊛ ‵ (over xs)) ∷ ‵ (fdead (b ∷ [])) ∷ []) ∵ split ! $ move ! (1 ∷ 2 ∷ []) $ use2 𝓛 (‵ (over (xs ++ b ∷ []))) (over_more xs b) $ move ! (1 ∷ 0 ∷ []) $ fjoin ! $ done !

  -- who leaves or refreshes has ended its activation before, and says so in the step
  pub leaves : (log : List Entry) (e : Deed) (s : ℕ) → e.event ≡ SwapOut s → ⟦ over (ended_lives log) ⟧ ∗ ⟦ fdead (life s log ∷ []) ⟧ ⊢ ⟦ over (ended_lives (log ++ Made e ∷ [])) ⟧
  leaves log e s is = qed 𝓛 (‵ (over (ended_lives log)) ∷ ‵ (fdead (life s log ∷ [])) ∷ []) ∵ use2 𝓛 (‵ (over (ended_lives log ++ life s log ∷ []))) (over_more (ended_lives log) (life s log)) $
      rewrite ! 0 (λ (l : List ℕ). ‵ (over l)) (sym (out_ended log e s is)) refl $ done !

  -- an entry that ends no activation but one of these lifetimes, which are over
  pub ends_those : (log : List Entry) (e : Entry) (lives : List ℕ) → ((a : ℕ) → IsAmong (ended_in (λ s. life s log) e) a → IsAmong lives a)
      → ⟦ over (ended_lives log) ⟧ ∗ ⟦ over lives ⟧ ⊢ ⟦ over (ended_lives (log ++ e ∷ [])) ⟧
  ends_those log e lives among = by_entry e among
    where
      none : (e : Entry) → EndsNothing e → ⟦ over (ended_lives log) ⟧ ∗ ⟦ over lives ⟧ ⊢ ⟦ over (ended_lives (log ++ e ∷ [])) ⟧
      none e ends = qed 𝓛 (‵ (over (ended_lives log)) ∷ ‵ (over lives) ∷ []) ∵ rewrite ! 0 (λ (l : List ℕ). ‵ (over l)) (sym (same_ended log e ends)) refl $ keep ! (0 ∷ []) $ done !

      go : (d : Deed) (x : Event) → d.event ≡ x → ((a : ℕ) → IsAmong (ended_by (λ s. life s log) x) a → IsAmong lives a) → ⟦ over (ended_lives log) ⟧ ∗ ⟦ over lives ⟧ ⊢ ⟦ over (ended_lives (log ++ Made d ∷ [])) ⟧
      go d (Event.SwapOut s) is among = qed 𝓛 (‵ (over (ended_lives log)) ∷ ‵ (over lives) ∷ []) ∵ move ! (1 ∷ []) $ use1 𝓛 (‵ (over lives) ⊛ ‵ (fdead (life s log ∷ []))) (over_one lives (life s log) (among (life s log) (inl refl))) $ split ! $
          move ! (2 ∷ 1 ∷ []) $ use2 𝓛 (‵ (over (ended_lives (log ++ Made d ∷ [])))) (leaves log d s is) $ keep ! (0 ∷ []) $ done !
      go d _ is among = none (Made d) (λ alive. ap (ended_by alive) is)

      by_entry : (e : Entry) → ((a : ℕ) → IsAmong (ended_in (λ s. life s log) e) a → IsAmong lives a) → ⟦ over (ended_lives log) ⟧ ∗ ⟦ over lives ⟧ ⊢ ⟦ over (ended_lives (log ++ e ∷ [])) ⟧
      by_entry (Made d) among = go d d.event refl among
      by_entry (Used u) among = none (Used u) (λ alive. refl)

  -- what is over may be had twice
  pub over_twice : (xs : List ℕ) → ⟦ over xs ⟧ ⊢ ⟦ over xs ⟧ ∗ ⟦ over xs ⟧
  over_twice [] = qed 𝓛 (‵ ftrue ∷ []) ∵ nothing ! $ done !
  over_twice (x ∷ xs) = qed 𝓛 ((‵ (fdead (x ∷ [])) ⊛ ‵ (over xs)) ∷ []) ∵ split ! $ use1 𝓛 (‵ (fdead (x ∷ [])) ⊛ ‵ (fdead (x ∷ []))) (𝓛.lfts.dead_dup (x ∷ [])) $ split ! $
      move ! (2 ∷ []) $ use1 𝓛 (‵ (over xs) ⊛ ‵ (over xs)) (over_twice xs) $ split ! $ move ! (2 ∷ 0 ∷ []) $ fjoin ! $ move ! (2 ∷ 1 ∷ []) $ fjoin ! $ move ! (1 ∷ 0 ∷ []) $ done !

  -- shares of the tokens of these lifetimes
  abbrev pub living : List ℕ → Share → Fml
  living [] q = ftrue
  living (a ∷ alive) q = fsep (flft (a ∷ []) q) (living alive q)

  -- whoever has them knows that none of these is over
  pub none_over : (alive xs : List ℕ) (q : Share) → ⟦ over xs ⟧ ∗ ⟦ living alive q ⟧ ⊢ guard 𝓤 ((a : ℕ) → IsAmong alive a → ¬ (IsAmong xs a)) (⟦ over xs ⟧ ∗ ⟦ living alive q ⟧)
  none_over [] xs q = guard_i 𝓤 ((a : ℕ) → IsAmong [] a → ¬ (IsAmong xs a)) (⟦ over xs ⟧ ∗ ⟦ ftrue ⟧) (λ a t. absurd t)
  none_over (x ∷ alive) xs q = go (is_in xs x) (none_over alive xs q)
    where
      Told : Type 0
      Told = (a : ℕ) → IsAmong (x ∷ alive) a → ¬ (IsAmong xs a)

      also : ¬ (IsAmong xs x) → ((a : ℕ) → IsAmong alive a → ¬ (IsAmong xs a)) → (a : ℕ) → IsAmong (x ∷ alive) a → ¬ (IsAmong xs a)
      also n none a (inl e) = λ t. n (subst (IsAmong xs) (sym e) t)
      also n none a (inr t) = none a t

      go : IsAmong xs x ⊎ ¬ (IsAmong xs x) → (⟦ over xs ⟧ ∗ ⟦ living alive q ⟧ ⊢ guard 𝓤 ((a : ℕ) → IsAmong alive a → ¬ (IsAmong xs a)) (⟦ over xs ⟧ ∗ ⟦ living alive q ⟧))
          → ⟦ over xs ⟧ ∗ ⟦ living (x ∷ alive) q ⟧ ⊢ guard 𝓤 Told (⟦ over xs ⟧ ∗ ⟦ living (x ∷ alive) q ⟧)
      go (inl t) rest = qed 𝓛 (‵ (over xs) ∷ (‵ (flft (x ∷ []) q) ⊛ ‵ (living alive q)) ∷ []) ∵ use1 𝓛 (‵ (over xs) ⊛ ‵ (fdead (x ∷ []))) (over_one xs x t) $ split ! $ move ! (2 ∷ []) $ split ! $ move ! (0 ∷ 3 ∷ []) $
          use2 𝓛 (raw (never 𝓤)) (𝓛.lfts.lft-dead (x ∷ []) q) $ keep ! (0 ∷ []) $ by ! (never_e 𝓤 _)
      go (inr n) rest = qed 𝓛 (‵ (over xs) ∷ (‵ (flft (x ∷ []) q) ⊛ ‵ (living alive q)) ∷ []) ∵ move ! (1 ∷ []) $ split ! $ move ! (2 ∷ 1 ∷ []) $
          use2 𝓛 (given ((a : ℕ) → IsAmong alive a → ¬ (IsAmong xs a)) (‵ (over xs) ⊛ ‵ (living alive q))) rest $ learn ! (λ none. check ! (also n none) $ split ! $ move ! (2 ∷ 1 ∷ []) $ fjoin ! $ move ! (1 ∷ 0 ∷ []) $ done !)
