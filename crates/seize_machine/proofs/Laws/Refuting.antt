-- What breaks a law, as tests of a list's moments that compute.
use Rattle.std.proofs.Common.{◌≡◌, ℕ, ◌+◌, ◌*◌, ◌<◌, ◌≤◌, Bool, true, false, ◌==◌, ◌&&◌, ◌||◌, nat_lt, List, [], ◌∷◌, ◌++◌, length, get_or, Option, Some, None, refl, sym, ◌∙◌, ap, subst, ◌⊎◌, inl, inr, arith}
use Rattle.std.specs.Prelude.{take, drop, slice_get, zero, suc}
use Rattle.std.specs.List.{Contains, list_any, count_by}
use Rattle.std.proofs.lemmas.List.{get_or_past}
use Rattle.std.proofs.lemmas.List.Folds.{list_any_at}
use Rattle.seize_machine.specs.Machine.State.{State, Slot, no_slot, Inactive, slot_at, head_at, batch_at, is_active, waiting_at, has, linked_values, are_distinct}
use Rattle.seize_machine.specs.Machine.History.{Moment, end_of, answers_of, named_by, WasNamed, retired_value, handed_value, handed, is_swap_out, Reclaimed, Retired, Found, IsActiveAt, HasParted}
use Rattle.seize_machine.specs.Machine.Laws.{AtMostOnce, After, Quiet, is_quiet, Unused, is_unused, bound, FillsWithin, IsBatched, Protection, Whereabouts, places, from_retirement, Gone, Holders, Lists, Walks, added_by, NoLaterHolders, given_up, UnderGuard, walk_of, detached_by, IsHeld, begins, during, changes_head, is_lost, Tries, IsRested, Unused, is_unused}
use Rattle.seize_machine.specs.Machine.Event.{AddCount}
use Rattle.seize_machine.specs.Machine.Next.{same_list}
use Rattle.seize_machine.proofs.Steps.Relation.{is_true, some_is, same_list-refl}
use Rattle.seize_machine.proofs.Lists.Histories.{some_moment, none_in}

-- whether an option has this value
abbrev pub is_value : ℕ → Option ℕ → Bool
is_value v None = false
is_value v (Some w) = w == v

-- an option that is a value passes the test for it
value_found : (v : ℕ) (o : Option ℕ) → o ≡ Some v → is_value v o ≡ true
value_found v None e = cc
value_found v (Some w) e = (let same : w ≡ v = some_is _ _ e in grind arith)

-- whether some event of the list swaps the slot's head out, and whether one hands the value
abbrev pub parts_ever : ℕ → List Moment → Bool
parts_ever s ms = list_any (λ m. is_swap_out s m.timed.event) ms

abbrev pub handed_ever : ℕ → List Moment → Bool
handed_ever v ms = list_any (λ m. is_value v (handed_value m.answer)) ms

-- a test has one outcome
not_both : {A : Type 0} (b : Bool) → b ≡ true → b ≡ false → A
not_both b h k = absurd (let e : true ≡ false = sym h ∙ k in cc)

-- a slot that has parted parts at some event, and a reclaimed value is handed at some event
has_parted : (ms : List Moment) (s q c : ℕ) → HasParted ms s q c → parts_ever s ms ≡ true
has_parted ms s q c h = some_moment (λ m. is_swap_out s m.timed.event) ms h.0 h.3.0 h.3.1 h.3.2

has_handed : (ms : List Moment) (v c : ℕ) → Reclaimed ms v c → handed_ever v ms ≡ true
has_handed ms v c h = some_moment (λ m. is_value v (handed_value m.answer)) ms c h.0 h.1 (value_found v (handed_value h.0.answer) h.2)

-- a value in a list is found there
pub contained : (values : List ℕ) (v : ℕ) → Contains values v → has v values ≡ true
contained values v h = list_any_at (λ x. x == v) values h.0 v h.1 (same (get_or values h.0 v) v h.2)
  where
    same : (x v : ℕ) → x ≡ v → (x == v) ≡ true
    same x v e = grind arith

-- an element, or the value past the last, passes a test that this value does not pass
some_at : {X : Type 0} (test : X → Bool) (xs : List X) (d : X) (i : ℕ) → test d ≡ false → test (get_or xs i d) ≡ true → list_any test xs ≡ true
some_at test xs d i none h = go (is_true (nat_lt i (length xs)))
  where
    go : (nat_lt i (length xs) ≡ true) ⊎ (nat_lt i (length xs) ≡ false) → list_any test xs ≡ true
    go (inl t) = list_any_at test xs i d (let k : i < length xs = grind arith in k) h
    go (inr t) = let past : length xs ≤ i = grind arith in not_both (test d) (subst (λ x. test x ≡ true) (get_or_past xs i d past) h) none

-- a value is handed at two places
pub not_once : (st : State) (ms : List Moment) (v c d : ℕ) → Reclaimed ms v c → Reclaimed ms v d → (c == d) ≡ false → ¬ (AtMostOnce st ms)
not_once st ms v c d h k differ once = (let e : c ≡ d = once v c d h k in grind arith)

-- a value is handed with a slot that was active at its retirement and never parts
pub not_after : (st : State) (ms : List Moment) (v q c s : ℕ) → Retired ms v q → Reclaimed ms v c → IsActiveAt ms s q → parts_ever s ms ≡ false → ¬ (After st ms)
not_after st ms v q c s retired handed active never after =
    let a = after v c handed in
    let same : q ≡ a.0 = a.3 q retired in
    not_both (parts_ever s ms) (has_parted ms s a.0 c (a.4 s (subst (λ q. IsActiveAt ms s q) same active))) never

-- a value found in a link is handed with the slot that found it never parting
pub not_protection : (st : State) (ms : List Moment) (s v e c : ℕ) → Found ms s v e → Reclaimed ms v c → parts_ever s ms ≡ false → ¬ (Protection st ms)
not_protection st ms s v e c found handed never protects =
    not_both (parts_ever s ms) (has_parted ms s e c (protects s v e c found handed).1) never

-- whether a slot's batch has the value and is within the bound
abbrev pub batched : ℕ → ℕ → State → Slot → Bool
batched v size st slot = has v slot.batch && nat_lt (length slot.batch) (bound size st)

-- whether the rest has the value and is within its bound
abbrev pub rested : ℕ → ℕ → State → Bool
rested v size st = has v st.rest && nat_lt (length st.rest) (bound size st * length st.slots)

-- the list ends quiet, and a value was retired, is never handed, and is in no slot's batch within the bound and not in the rest within its own
pub not_quiet : (st : State) (ms : List Moment) (v q : ℕ) → is_quiet (end_of st ms) ≡ true → Retired ms v q → handed_ever v ms ≡ false
    → (size : ℕ) → FillsWithin size ms → list_any (batched v size (end_of st ms)) (end_of st ms).slots ≡ false → rested v size (end_of st ms) ≡ false → ¬ (Quiet st ms)
not_quiet st ms v q ends retired never size sizes none no_rest quiet = go (quiet ends v q retired)
  where
    both : (a b : Bool) → a ≡ true → b ≡ true → (a && b) ≡ true
    both a b h k = rw h k

    short : (a b : ℕ) → a < b → nat_lt a b ≡ true
    short a b h = grind arith

    go : ((c : ℕ) × Reclaimed ms v c) ⊎ IsBatched (end_of st ms) v ms ⊎ IsRested (end_of st ms) v ms → ⊥
    go (inl h) = not_both (handed_ever v ms) (has_handed ms v h.0 h.1) never
    go (inr (inr h)) = not_both (rested v size (end_of st ms)) (both _ _ (contained (end_of st ms).rest v h.0) (short _ _ (h.1 size sizes))) no_rest
    go (inr (inl h)) =
        not_both _
        (some_at (batched v size (end_of st ms)) (end_of st ms).slots no_slot h.0 refl
        (both _ _ (contained (slot_at (end_of st ms) h.0).batch v h.1) (short _ _ (h.2 size sizes))))
        none

-- no slot is in use, and a value was retired and is never handed
pub not_unused : (st : State) (ms : List Moment) (v q : ℕ) → is_unused (end_of st ms) ≡ true → Retired ms v q → handed_ever v ms ≡ false → ¬ (Unused st ms)
not_unused st ms v q ends retired never law = let h = law ends v q retired in not_both (handed_ever v ms) (has_handed ms v h.0 h.1) never

-- a value is in two places
pub not_distinct : (st : State) (ms : List Moment) → are_distinct (places (end_of st ms)) ≡ false → ¬ (Whereabouts st ms)
not_distinct st ms twice law = not_both (are_distinct (places (end_of st ms))) law.0 twice

-- a value was named and is in no place
pub not_lost : (st : State) (ms : List Moment) (v : ℕ) → WasNamed st ms v → has v (places (end_of st ms)) ≡ false → ¬ (Whereabouts st ms)
not_lost st ms v named none law = not_both (has v (places (end_of st ms))) (contained (places (end_of st ms)) v ((law.1 v).1 named)) none

-- whether some event names the value
abbrev pub named_ever : ℕ → List Moment → Bool
named_ever v ms = list_any (λ m. has v (named_by m.timed.event m.answer)) ms

-- a value that was never named is in a place
pub not_unnamed : (st : State) (ms : List Moment) (v : ℕ) → Contains (places (end_of st ms)) v → has v (linked_values st.links) ≡ false → named_ever v ms ≡ false → ¬ (Whereabouts st ms)
not_unnamed st ms v stands at_first never law = go ((law.1 v).0 stands)
  where
    go : WasNamed st ms v → ⊥
    go (inl h) = not_both (has v (linked_values st.links)) (contained (linked_values st.links) v h) at_first
    go (inr h) =
        not_both (named_ever v ms) (some_moment (λ m. has v (named_by m.timed.event m.answer)) ms h.0 h.1 h.2 (contained (named_by h.1.timed.event h.1.answer) v h.3)) never

-- a value was retired and is in no place of retired values
pub not_forgotten : (st : State) (ms : List Moment) (v q : ℕ) → Retired ms v q → has v (from_retirement (end_of st ms)) ≡ false → ¬ (Whereabouts st ms)
not_forgotten st ms v q retired none law = not_both (has v (from_retirement (end_of st ms))) (contained (from_retirement (end_of st ms)) v ((law.2 v).1 (q, retired))) none

-- whether some event retires the value
abbrev pub retired_ever : ℕ → List Moment → Bool
retired_ever v ms = list_any (λ m. is_value v (retired_value m.before m.timed.event)) ms

has_retired : (ms : List Moment) (v q : ℕ) → Retired ms v q → retired_ever v ms ≡ true
has_retired ms v q h = some_moment (λ m. is_value v (retired_value m.before m.timed.event)) ms q h.0 h.1 (value_found v (retired_value h.0.before h.0.timed.event) h.2)

-- a value that was never retired is in a place of retired values
pub not_unretired : (st : State) (ms : List Moment) (v : ℕ) → Contains (from_retirement (end_of st ms)) v → retired_ever v ms ≡ false → ¬ (Whereabouts st ms)
not_unretired st ms v stands never law = let r : (q : ℕ) × Retired ms v q = (law.2 v).0 stands in not_both (retired_ever v ms) (has_retired ms v r.0 r.1) never

-- a value is handed that was never retired
pub not_before : (st : State) (ms : List Moment) (v c : ℕ) → Reclaimed ms v c → retired_ever v ms ≡ false → ¬ (After st ms)
not_before st ms v c handed never after = let a = after v c handed in not_both (retired_ever v ms) (has_retired ms v a.0 a.2) never

-- a value is handed that was retired at two places
pub not_just_once : (st : State) (ms : List Moment) (v c q r : ℕ) → Reclaimed ms v c → Retired ms v q → Retired ms v r → (q == r) ≡ false → ¬ (After st ms)
not_just_once st ms v c q r handed first again differ after =
    let a = after v c handed in
    let one : q ≡ a.0 = a.3 q first in
    let other : r ≡ a.0 = a.3 r again in
    grind arith

-- whether the value is retired in the list after so many events
abbrev pub retired_from : ℕ → ℕ → List Moment → Bool
retired_from v n ms = retired_ever v (drop n ms)

later_retired : (ms : List Moment) (v n q : ℕ) → n ≤ q → Retired ms v q → retired_from v n ms ≡ true
later_retired ms v zero q le h = has_retired ms v q h
later_retired [] v (suc n) q le h = none_in q h.0 h.1
later_retired (m ∷ ms) v (suc n) zero le h = absurd (omega arith)
later_retired (m ∷ ms) v (suc n) (suc q) le h = later_retired ms v n q (omega arith) h

-- a value found in a link is handed, and not retired after it was found
pub not_retired_since : (st : State) (ms : List Moment) (s v e c : ℕ) → Found ms s v e → Reclaimed ms v c → retired_from v (e + 1) ms ≡ false → ¬ (Protection st ms)
not_retired_since st ms s v e c found handed never protects =
    let p : (q : ℕ) × (e < q) × (q < c) × Retired ms v q = (protects s v e c found handed).0 in
    let low : e < p.0 = p.1 in
    not_both (retired_from v (e + 1) ms) (later_retired ms v (e + 1) p.0 (omega arith) p.3) never

-- a slot lists a batch and did not right after the batch's add
pub not_listed : (st : State) (ms : List Moment) (b a s : ℕ) (m : Moment) → slice_get ms a ≡ Some m → added_by m.before m.timed.event ≡ Some b
    → Lists (end_of st ms) s b → has b (waiting_at (head_at m.after s)) ≡ false → ¬ (NoLaterHolders st ms)
not_listed st ms b a s m at adds lists none law =
    not_both (has b (waiting_at (head_at m.after s))) (contained (waiting_at (head_at m.after s)) b ((law b a m at adds s).0 lists).0) none

-- a slot lists a batch and has parted since the batch's add
pub not_unparted : (st : State) (ms : List Moment) (b a s : ℕ) (m : Moment) → slice_get ms a ≡ Some m → added_by m.before m.timed.event ≡ Some b
    → Lists (end_of st ms) s b → HasParted ms s a (length ms) → ¬ (NoLaterHolders st ms)
not_unparted st ms b a s m at adds lists parts law = ((law b a m at adds s).0 lists).1 parts

-- a slot walks a batch that it neither listed nor walked right after the batch's add
pub not_held : (st : State) (ms : List Moment) (b a s : ℕ) (m : Moment) → slice_get ms a ≡ Some m → added_by m.before m.timed.event ≡ Some b
    → Walks (end_of st ms) s b → has b (waiting_at (head_at m.after s)) ≡ false → has b (walk_of (slot_at m.after s).call) ≡ false → ¬ (NoLaterHolders st ms)
not_held st ms b a s m at adds walks no_list no_walk law = go ((law b a m at adds s).1 walks a m (omega arith) at)
  where
    go : Lists m.after s b ⊎ Walks m.after s b → ⊥
    go (inl h) = not_both (has b (waiting_at (head_at m.after s))) (contained (waiting_at (head_at m.after s)) b h) no_list
    go (inr h) = not_both (has b (walk_of (slot_at m.after s).call)) (contained (walk_of (slot_at m.after s).call) b h) no_walk

-- the values reclaimed are not those handed
pub not_gone : (st : State) (ms : List Moment) → same_list (end_of st ms).gone (st.gone ++ handed (answers_of ms)) ≡ false → ¬ (Gone st ms)
not_gone st ms other law =
    not_both (same_list (end_of st ms).gone (st.gone ++ handed (answers_of ms)))
    (subst (λ (l : List ℕ). same_list (end_of st ms).gone l ≡ true) law (same_list-refl (end_of st ms).gone)) other

-- whether a head, a walk or a call has the batch
abbrev pub is_held : ℕ → State → Bool
is_held b st =
    list_any (λ head. has b (waiting_at head)) st.heads
    || (list_any (λ slot. has b (walk_of slot.call)) st.slots || list_any (λ slot. is_value b (detached_by slot.call)) st.slots)

-- a batch has a value, and nothing has the batch
pub not_holders : (st : State) (ms : List Moment) (b v : ℕ) → Contains (batch_at (end_of st ms) b).values v → is_held b (end_of st ms) ≡ false → ¬ (Holders st ms)
not_holders st ms b v stays none law = not_both (is_held b (end_of st ms)) (go (law b v stays)) none
  where
    end : State
    end = end_of st ms

    first : (a c : Bool) → a ≡ true → (a || c) ≡ true
    first a c h = rw h refl

    second : (a c : Bool) → c ≡ true → (a || c) ≡ true
    second true c h = refl
    second false c h = h

    go : IsHeld (end_of st ms) b → is_held b (end_of st ms) ≡ true
    go (inl h) = first _ _ (some_at (λ head. has b (waiting_at head)) end.heads Inactive h.0 refl (contained _ b h.1))
    go (inr (inl h)) = second _ _ (first _ _ (some_at (λ slot. has b (walk_of slot.call)) end.slots no_slot h.0 refl (contained _ b h.1)))
    go (inr (inr h)) = second _ _ (second _ _ (some_at (λ slot. is_value b (detached_by slot.call)) end.slots no_slot h.0 refl (value_found b _ h.1)))

-- an active slot adds, and something is given up to it
pub not_kept : (st : State) (ms : List Moment) (a s : ℕ) (add : Moment) → slice_get ms a ≡ Some add → add.timed.event ≡ AddCount s → is_active (head_at add.before s) ≡ true
    → same_list (given_up (slot_at add.after s).call) [] ≡ false → ¬ (UnderGuard st ms)
not_kept st ms a s add at is on some law = not_both (same_list (given_up (slot_at add.after s).call) []) (ap (λ (l : List ℕ). same_list l []) (law a add at s is on)) some

-- after the beginning of a call of s at place k, s loses more insertions at n than others change its head
pub not_tries : (st : State) (ms : List Moment) (s n k : ℕ) (begin : Moment) → ms ≡ take k ms ++ begin ∷ drop (k + 1) ms → begins s begin.timed.event ≡ true
    → nat_lt (count_by (changes_head s n) (during s (drop (k + 1) ms))) (count_by (λ m. is_lost s n m.timed.event) (during s (drop (k + 1) ms))) ≡ true → ¬ (Tries st ms)
not_tries st ms s n k begin at starts more law =
    let le : _ ≤ _ = law s n (take k ms) (drop (k + 1) ms) begin at starts in
    grind arith
