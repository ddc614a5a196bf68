-- What an event leaves as it was.
use Rattle.std.proofs.Common.{◌≡◌, ℕ, zero, suc, ◌+◌, ◌<◌, Bool, true, false, not, cond, ◌==◌, ◌||◌, if◌then◌else◌, List, [], ◌∷◌, ◌++◌, map, length, get_or, set, option_to_list, Option, Some, None, filter, refl, sym, ◌∙◌, ap, subst, ◌⊎◌, inl, inr, arith}
use Rattle.std.proofs.lemmas.List.{get_or_past, get_or_append_left, get_or-set_other, length-set, length_push}
use Rattle.seize_machine.specs.Machine.State.{no_slot, no_batch, State, Slot, Progress, Head, Inactive, slot_at, head_at, link_at, batch_at, is_active, has}
use Rattle.seize_machine.specs.Machine.Event.{Event}
use Rattle.seize_machine.specs.Machine.Next.{of_call, walking_at}
use Rattle.seize_machine.specs.Machine.Laws.{added_batch}
use Rattle.seize_machine.specs.Machine.Frames.{changes_slot, used, changes_used, changes_numbers, changes_head_of, changes_link, is_number, changes_batch, changes_value, slots_added, batches_added, begins_retiring}
use Rattle.seize_machine.specs.declared.machine.event.Answer.{Answer}
use Rattle.seize_machine.proofs.Steps.Relation.{Step, some_is, is_true, and_true}
use Rattle.seize_machine.proofs.Invariants.Kept.{at_set, pushed}

differ : (a k : ℕ) → (a == k) ≡ false → k ≡ a → ⊥
differ a k h e = grind arith

other_slot : (k : ℕ) (st : State) (s : ℕ) (new : Slot) → (s == k) ≡ false → get_or (set st.slots s new) k no_slot ≡ slot_at st k
other_slot k st s new n = get_or-set_other st.slots s k new no_slot (differ s k n)

other_head : (m : ℕ) (st : State) (s : ℕ) (new : Head) → (s == m) ≡ false → get_or (set st.heads s new) m Inactive ≡ head_at st m
other_head m st s new n = get_or-set_other st.heads s m new Inactive (differ s m n)

-- an inactive head more
new_head : (st : State) (m : ℕ) → get_or (st.heads ++ Inactive ∷ []) m Inactive ≡ head_at st m
new_head st m = pushed (λ head. head ≡ head_at st m) st.heads m Inactive Inactive (λ i. sym (get_or_past st.heads m Inactive (omega (arith, i)))) refl

pub slot_frame : (k size : ℕ) (st : State) (event : Event) (d : State × Answer) → Step size st event d → changes_slot k event ≡ false → slot_at d.0 k ≡ slot_at st k
slot_frame k size st event _ (Step.took_new s e least) n = pushed (λ slot. slot ≡ slot_at st k) st.slots k _ no_slot (λ i. absurd (differ s k n (sym (e ∙ i)))) refl
slot_frame k size st event _ (Step.took_old s l e least) n = other_slot k st s _ n
slot_frame k size st event _ (Step.gave s e off ends) n = other_slot k st s _ n
slot_frame k size st event _ (Step.gathered s e off alone some) n = other_slot k st s _ n
slot_frame k size st event _ (Step.entered s e off) n = refl
slot_frame k size st event _ (Step.begun_retire s v e new) n = other_slot k st s _ n
slot_frame k size st event _ (Step.begun_other s job place e which exact) n = other_slot k st s _ n
slot_frame k size st event _ (Step.put s v from before later place e which to after_is) n = other_slot k st s _ n
slot_frame k size st event _ (Step.marked s m next note marks queue e r at) n = other_slot k st s _ n
slot_frame k size st event _ (Step.looked_at s b won m later queue e) n = other_slot k st s _ n
slot_frame k size st event _ (Step.detached s next note marks queue e le) n = other_slot k st s _ n
slot_frame k size st event _ (Step.inserted s m b won later saw queue waiting e head_is) n = other_slot k st s _ n
slot_frame k size st event _ (Step.lost s m b won later saw queue e differs) n = other_slot k st s _ n
slot_frame k size st event _ (Step.added s b won queue d e h) n = subst (λ (x : State × Answer). slot_at x.0 k ≡ slot_at st k) (some_is _ _ h) (other_slot k st s _ n)
slot_frame k size st event _ (Step.subtracted s b walk queue d e h) n = subst (λ (x : State × Answer). slot_at x.0 k ≡ slot_at st k) (some_is _ _ h) (other_slot k st s _ n)
slot_frame k size st event _ (Step.swapped_out s stays queue e) n = other_slot k st s _ n
slot_frame k size st event _ (Step.handed s v puts given walk queue e new) n = other_slot k st s _ n
slot_frame k size st event _ (Step.returned s e) n = other_slot k st s _ n
slot_frame k size st event _ (Step.read s l e) n = refl
slot_frame k size st event _ (Step.exchanged s l exchange new e fresh exact) n = refl
slot_frame k size st event _ (Step.compared s l exchange e exact) n = refl

pub head_frame : (m size : ℕ) (st : State) (event : Event) (d : State × Answer) → Step size st event d → changes_head_of m event ≡ false → head_at d.0 m ≡ head_at st m
head_frame m size st event _ (Step.took_new s e least) n = new_head st m
head_frame m size st event _ (Step.entered s e off) n = other_head m st s _ n
head_frame m size st event _ (Step.inserted s k b won later saw queue waiting e head_is) n = other_head m st k _ n
head_frame m size st event _ (Step.added s b won queue d e h) n = ap (λ (x : State × Answer). head_at x.0 m) (sym (some_is _ _ h))
head_frame m size st event _ (Step.subtracted s b walk queue d e h) n = ap (λ (x : State × Answer). head_at x.0 m) (sym (some_is _ _ h))
head_frame m size st event _ (Step.swapped_out s stays queue e) n = other_head m st s _ n
head_frame m size st event _ _ n = refl

-- whether a slot is active is changed by its own events alone
pub active_frame : (k size : ℕ) (st : State) (event : Event) (d : State × Answer) → Step size st event d → changes_slot k event ≡ false → is_active (head_at d.0 k) ≡ is_active (head_at st k)
active_frame k size st event _ (Step.took_new s e least) n = ap is_active (new_head st k)
active_frame k size st event _ (Step.entered s e off) n = ap is_active (other_head k st s _ n)
active_frame k size st event _ (Step.inserted s m b won later saw queue waiting e head_is) n =
    at_set (λ head. is_active head ≡ is_active (head_at st k)) st.heads m k _ Inactive (λ i r. sym (ap is_active (ap (head_at st) (sym i) ∙ head_is))) refl
active_frame k size st event _ (Step.added s b won queue d e h) n = ap (λ (x : State × Answer). is_active (head_at x.0 k)) (sym (some_is _ _ h))
active_frame k size st event _ (Step.subtracted s b walk queue d e h) n = ap (λ (x : State × Answer). is_active (head_at x.0 k)) (sym (some_is _ _ h))
active_frame k size st event _ (Step.swapped_out s stays queue e) n = ap is_active (other_head k st s _ n)
active_frame k size st event _ _ n = refl

pub link_frame : (l size : ℕ) (st : State) (event : Event) (d : State × Answer) → Step size st event d → changes_link l event ≡ false → link_at d.0 l ≡ link_at st l
link_frame l size st event _ (Step.added s b won queue d e h) n = ap (λ (x : State × Answer). link_at x.0 l) (sym (some_is _ _ h))
link_frame l size st event _ (Step.subtracted s b walk queue d e h) n = ap (λ (x : State × Answer). link_at x.0 l) (sym (some_is _ _ h))
link_frame l size st event _ (Step.exchanged s k exchange new e fresh exact) n = get_or-set_other st.links k l new None (differ k l n)
link_frame l size st event _ _ n = refl

-- a retired batch that is there
pub batch_frame : (b size : ℕ) (st : State) (event : Event) (d : State × Answer) → Step size st event d → b < length st.batches → changes_batch st b event ≡ false → batch_at d.0 b ≡ batch_at st b
batch_frame b size st event _ (Step.detached s next note marks queue e le) r n = get_or_append_left st.batches _ no_batch b r
batch_frame b size st event _ (Step.added s a won queue d e h) r n =
    let other : (a == b) ≡ false = ap (λ (o : Option Progress). is_number b (added_batch o)) (sym e) ∙ n in
    ap (λ (x : State × Answer). batch_at x.0 b) (sym (some_is _ _ h)) ∙ get_or-set_other st.batches a b _ no_batch (differ a b other)
batch_frame b size st event _ (Step.subtracted s a walk queue d e h) r n =
    let other : (a == b) ≡ false = ap (λ (o : Option Progress). is_number b (of_call walking_at o)) (sym e) ∙ n in
    ap (λ (x : State × Answer). batch_at x.0 b) (sym (some_is _ _ h)) ∙ get_or-set_other st.batches a b _ no_batch (differ a b other)
batch_frame b size st event _ _ r n = refl

map_set : {X Y : Type 0} (f : X → Y) (xs : List X) (i : ℕ) (y d : X) → f y ≡ f (get_or xs i d) → map f (set xs i y) ≡ map f xs
map_set f [] i y d e = refl
map_set f (x ∷ xs) zero y d e = ap (λ (z : _). z ∷ map f xs) e
map_set f (x ∷ xs) (suc i) y d e = ap (λ (zs : List _). f x ∷ zs) (map_set f xs i y d e)

same_used : (st : State) (s : ℕ) (new : Slot) → new.used ≡ (slot_at st s).used → map (λ (slot : Slot). slot.used) (set st.slots s new) ≡ used st
same_used st s new e = map_set (λ (slot : Slot). slot.used) st.slots s new no_slot e

-- which numbers are in use
pub used_frame : (size : ℕ) (st : State) (event : Event) (d : State × Answer) → Step size st event d → changes_used event ≡ false → used d.0 ≡ used st
used_frame size st event _ (Step.took_new s e least) n = absurd (cc)
used_frame size st event _ (Step.took_old s l e least) n = absurd (cc)
used_frame size st event _ (Step.gave s e off ends) n = absurd (cc)
used_frame size st event _ (Step.gathered s e off alone some) n = same_used st s _ (sym (and_true _ _ e).0)
used_frame size st event _ (Step.entered s e off) n = refl
used_frame size st event _ (Step.begun_retire s v e new) n = same_used st s _ refl
used_frame size st event _ (Step.begun_other s job place e which exact) n = same_used st s _ refl
used_frame size st event _ (Step.put s v from before later place e which to after_is) n = same_used st s _ refl
used_frame size st event _ (Step.marked s m next note marks queue e r at) n = same_used st s _ refl
used_frame size st event _ (Step.looked_at s b won m later queue e) n = same_used st s _ refl
used_frame size st event _ (Step.detached s next note marks queue e le) n = same_used st s _ refl
used_frame size st event _ (Step.inserted s m b won later saw queue waiting e head_is) n = same_used st s _ refl
used_frame size st event _ (Step.lost s m b won later saw queue e differs) n = same_used st s _ refl
used_frame size st event _ (Step.added s b won queue d e h) n = subst (λ (x : State × Answer). used x.0 ≡ used st) (some_is _ _ h) (same_used st s _ refl)
used_frame size st event _ (Step.subtracted s b walk queue d e h) n = subst (λ (x : State × Answer). used x.0 ≡ used st) (some_is _ _ h) (same_used st s _ refl)
used_frame size st event _ (Step.swapped_out s stays queue e) n = same_used st s _ refl
used_frame size st event _ (Step.handed s v puts given walk queue e new) n = same_used st s _ refl
used_frame size st event _ (Step.returned s e) n = same_used st s _ refl
used_frame size st event _ (Step.read s l e) n = refl
used_frame size st event _ (Step.exchanged s l exchange new e fresh exact) n = refl
used_frame size st event _ (Step.compared s l exchange e exact) n = refl

-- the rest
pub rest_frame : (size : ℕ) (st : State) (event : Event) (d : State × Answer) → Step size st event d → changes_numbers event ≡ false → (d.0).rest ≡ st.rest
rest_frame size st event _ (Step.took_new s e least) n = absurd (cc)
rest_frame size st event _ (Step.took_old s l e least) n = absurd (cc)
rest_frame size st event _ (Step.gave s e off ends) n = absurd (cc)
rest_frame size st event _ (Step.gathered s e off alone some) n = absurd (cc)
rest_frame size st event _ (Step.added s b won queue d e h) n = ap (λ (x : State × Answer). (x.0).rest) (sym (some_is _ _ h))
rest_frame size st event _ (Step.subtracted s b walk queue d e h) n = ap (λ (x : State × Answer). (x.0).rest) (sym (some_is _ _ h))
rest_frame size st event _ _ n = refl

-- how many slots, heads, links and retired batches there are

same_length : (n m : ℕ) → n ≡ m → n ≡ m + 0
same_length n m e = omega (arith, e)

new_slot : (k n s m : ℕ) → s ≡ m → k ≡ n + 1 → k ≡ n + (if s == m then 1 else 0)
new_slot k n s m e more = let t : (s == m) ≡ true = grind arith in more ∙ ap (λ (b : Bool). n + (if b then 1 else 0)) (sym t)

old_slot : (k n s m : ℕ) → k ≡ n → s < m → k ≡ n + (if s == m then 1 else 0)
old_slot k n s m e l = let t : (s == m) ≡ false = grind arith in same_length k n e ∙ ap (λ (b : Bool). n + (if b then 1 else 0)) (sym t)

pub slots_length : (size : ℕ) (st : State) (event : Event) (d : State × Answer) → Step size st event d → length (d.0).slots ≡ length st.slots + slots_added st event
slots_length size st event _ (Step.took_new s e least) = new_slot _ (length st.slots) s (length st.slots) e (length_push st.slots _)
slots_length size st event _ (Step.took_old s l e least) = old_slot _ (length st.slots) s (length st.slots) (length-set st.slots s _) l
slots_length size st event _ (Step.gave s e off ends) = same_length _ _ (length-set st.slots s _)
slots_length size st event _ (Step.gathered s e off alone some) = same_length _ _ (length-set st.slots s _)
slots_length size st event _ (Step.entered s e off) = same_length _ _ refl
slots_length size st event _ (Step.begun_retire s v e new) = same_length _ _ (length-set st.slots s _)
slots_length size st event _ (Step.begun_other s job place e which exact) = same_length _ _ (length-set st.slots s _)
slots_length size st event _ (Step.put s v from before later place e which to after_is) = same_length _ _ (length-set st.slots s _)
slots_length size st event _ (Step.marked s m next note marks queue e r at) = same_length _ _ (length-set st.slots s _)
slots_length size st event _ (Step.looked_at s b won m later queue e) = same_length _ _ (length-set st.slots s _)
slots_length size st event _ (Step.detached s next note marks queue e le) = same_length _ _ (length-set st.slots s _)
slots_length size st event _ (Step.inserted s m b won later saw queue waiting e head_is) = same_length _ _ (length-set st.slots s _)
slots_length size st event _ (Step.lost s m b won later saw queue e differs) = same_length _ _ (length-set st.slots s _)
slots_length size st event _ (Step.added s b won queue d e h) = same_length _ _ (ap (λ (x : State × Answer). length (x.0).slots) (sym (some_is _ _ h)) ∙ length-set st.slots s _)
slots_length size st event _ (Step.subtracted s b walk queue d e h) = same_length _ _ (ap (λ (x : State × Answer). length (x.0).slots) (sym (some_is _ _ h)) ∙ length-set st.slots s _)
slots_length size st event _ (Step.swapped_out s stays queue e) = same_length _ _ (length-set st.slots s _)
slots_length size st event _ (Step.handed s v puts given walk queue e new) = same_length _ _ (length-set st.slots s _)
slots_length size st event _ (Step.returned s e) = same_length _ _ (length-set st.slots s _)
slots_length size st event _ (Step.read s l e) = same_length _ _ refl
slots_length size st event _ (Step.exchanged s l exchange new e fresh exact) = same_length _ _ refl
slots_length size st event _ (Step.compared s l exchange e exact) = same_length _ _ refl

pub links_length : (size : ℕ) (st : State) (event : Event) (d : State × Answer) → Step size st event d → length (d.0).links ≡ length st.links
links_length size st event _ (Step.added s b won queue d e h) = ap (λ (x : State × Answer). length (x.0).links) (sym (some_is _ _ h))
links_length size st event _ (Step.subtracted s b walk queue d e h) = ap (λ (x : State × Answer). length (x.0).links) (sym (some_is _ _ h))
links_length size st event _ (Step.exchanged s l exchange new e fresh exact) = length-set st.links l new
links_length size st event _ _ = refl

pub batches_length : (size : ℕ) (st : State) (event : Event) (d : State × Answer) → Step size st event d → length (d.0).batches ≡ length st.batches + batches_added event
batches_length size st event _ (Step.detached s next note marks queue e le) = length_push st.batches _
batches_length size st event _ (Step.added s b won queue d e h) = same_length _ _ (ap (λ (x : State × Answer). length (x.0).batches) (sym (some_is _ _ h)) ∙ length-set st.batches b _)
batches_length size st event _ (Step.subtracted s b walk queue d e h) = same_length _ _ (ap (λ (x : State × Answer). length (x.0).batches) (sym (some_is _ _ h)) ∙ length-set st.batches b _)
batches_length size st event _ (Step.took_new s e least) = same_length _ _ refl
batches_length size st event _ (Step.took_old s l e least) = same_length _ _ refl
batches_length size st event _ (Step.gave s e off ends) = same_length _ _ refl
batches_length size st event _ (Step.gathered s e off alone some) = same_length _ _ refl
batches_length size st event _ (Step.entered s e off) = same_length _ _ refl
batches_length size st event _ (Step.begun_retire s v e new) = same_length _ _ refl
batches_length size st event _ (Step.begun_other s job place e which exact) = same_length _ _ refl
batches_length size st event _ (Step.put s v from before later place e which to after_is) = same_length _ _ refl
batches_length size st event _ (Step.marked s m next note marks queue e r at) = same_length _ _ refl
batches_length size st event _ (Step.looked_at s b won m later queue e) = same_length _ _ refl
batches_length size st event _ (Step.inserted s m b won later saw queue waiting e head_is) = same_length _ _ refl
batches_length size st event _ (Step.lost s m b won later saw queue e differs) = same_length _ _ refl
batches_length size st event _ (Step.swapped_out s stays queue e) = same_length _ _ refl
batches_length size st event _ (Step.handed s v puts given walk queue e new) = same_length _ _ refl
batches_length size st event _ (Step.returned s e) = same_length _ _ refl
batches_length size st event _ (Step.read s l e) = same_length _ _ refl
batches_length size st event _ (Step.exchanged s l exchange new e fresh exact) = same_length _ _ refl
batches_length size st event _ (Step.compared s l exchange e exact) = same_length _ _ refl

-- values

has_append : (v : ℕ) (xs ys : List ℕ) → has v (xs ++ ys) ≡ (has v xs || has v ys)
has_append v [] ys = refl
has_append v (x ∷ xs) ys = go (x == v) (has_append v xs ys)
  where
    go : (b : Bool) → has v (xs ++ ys) ≡ (has v xs || has v ys) → (b || has v (xs ++ ys)) ≡ ((b || has v xs) || has v ys)
    go true ih = refl
    go false ih = ih

or_false : (b : Bool) → (b || false) ≡ b
or_false true = refl
or_false false = refl

or_some : (a b : Bool) → a ≡ true → (a || b) ≡ true
or_some a b h = ap (λ (a : Bool). a || b) h

has_more : (v : ℕ) (xs ys : List ℕ) → has v ys ≡ false → has v (xs ++ ys) ≡ has v xs
has_more v xs ys h = has_append v xs ys ∙ ap (λ (b : Bool). has v xs || b) h ∙ or_false (has v xs)

has_still : (v : ℕ) (xs ys : List ℕ) → has v xs ≡ true → has v (xs ++ ys) ≡ true
has_still v xs ys h = has_append v xs ys ∙ or_some (has v xs) (has v ys) h

has_option : (v : ℕ) (o : Option ℕ) → is_number v o ≡ false → has v (option_to_list o) ≡ false
has_option v None h = refl
has_option v (Some w) h = ap (λ (b : Bool). b || false) h

has_filter : (v w : ℕ) (xs : List ℕ) → (w == v) ≡ false → has v (filter (λ x. not (x == w)) xs) ≡ has v xs
has_filter v w [] n = refl
has_filter v w (x ∷ xs) n = go (is_true (x == w)) (has_filter v w xs n)
  where
    kept : List ℕ
    kept = filter (λ x. not (x == w)) xs

    go : ((x == w) ≡ true) ⊎ ((x == w) ≡ false) → has v kept ≡ has v xs → has v (cond (not (x == w)) (x ∷ kept) kept) ≡ has v (x ∷ xs)
    go (inl t) ih =
        let other : (x == v) ≡ false = grind arith in
        ap (λ (b : Bool). has v (cond (not b) (x ∷ kept) kept)) t ∙ ih ∙ ap (λ (b : Bool). b || has v xs) (sym other)
    go (inr t) ih = ap (λ (b : Bool). has v (cond (not b) (x ∷ kept) kept)) t ∙ ap (λ (b : Bool). (x == v) || b) ih

or_none : (a b : Bool) → (a || b) ≡ false → (a ≡ false) × (b ≡ false)
or_none false b h = (refl, h)
or_none true b h = absurd (cc)

-- whether v was ever named, and whether it is between a link and its retirement
pub value_frame : (v size : ℕ) (st : State) (event : Event) (d : State × Answer) → Step size st event d → changes_value st v event ≡ false
    → (has v (d.0).named ≡ has v st.named) × (has v (d.0).loose ≡ has v st.loose)
value_frame v size st event _ (Step.begun_retire s w e new) n = (go (has w st.named), has_filter v w st.loose n)
  where
    go : (b : Bool) → has v (if b then st.named else st.named ++ w ∷ []) ≡ has v st.named
    go true = refl
    go false = has_more v st.named (w ∷ []) (ap (λ (b : Bool). b || false) n)
value_frame v size st event _ (Step.handed s w puts given walk queue e new) n = (has_more v st.named puts n, refl)
value_frame v size st event _ (Step.added s b won queue d e h) n = subst (λ (x : State × Answer). (has v (x.0).named ≡ has v st.named) × (has v (x.0).loose ≡ has v st.loose)) (some_is _ _ h) (refl, refl)
value_frame v size st event _ (Step.subtracted s b walk queue d e h) n = subst (λ (x : State × Answer). (has v (x.0).named ≡ has v st.named) × (has v (x.0).loose ≡ has v st.loose)) (some_is _ _ h) (refl, refl)
value_frame v size st event _ (Step.exchanged s l exchange new e fresh exact) n =
    let t = or_none _ _ n in (
      has_more v st.named (option_to_list new) (has_option v new (ap (is_number v) exact.0 ∙ t.0)),
      has_more v st.loose (option_to_list (link_at st l)) (has_option v (link_at st l) t.1),
    )
value_frame v size st event _ _ n = (refl, refl)

-- a value that was named stays so
pub named_grows : (v size : ℕ) (st : State) (event : Event) (d : State × Answer) → Step size st event d → has v st.named ≡ true → has v (d.0).named ≡ true
named_grows v size st event _ (Step.begun_retire s w e new) h = go (has w st.named)
  where
    go : (b : Bool) → has v (if b then st.named else st.named ++ w ∷ []) ≡ true
    go true = h
    go false = has_still v st.named (w ∷ []) h
named_grows v size st event _ (Step.handed s w puts given walk queue e new) h = has_still v st.named puts h
named_grows v size st event _ (Step.added s b won queue d e k) h = subst (λ (x : State × Answer). has v (x.0).named ≡ true) (some_is _ _ k) h
named_grows v size st event _ (Step.subtracted s b walk queue d e k) h = subst (λ (x : State × Answer). has v (x.0).named ≡ true) (some_is _ _ k) h
named_grows v size st event _ (Step.exchanged s l exchange new e fresh exact) h = has_still v st.named (option_to_list new) h
named_grows v size st event _ _ h = h

-- a value that came out of a link stays so until a call begins to retire it
pub loose_stays : (v size : ℕ) (st : State) (event : Event) (d : State × Answer) → Step size st event d → begins_retiring v event ≡ false → has v st.loose ≡ true → has v (d.0).loose ≡ true
loose_stays v size st event _ (Step.begun_retire s w e new) n h = has_filter v w st.loose n ∙ h
loose_stays v size st event _ (Step.added s b won queue d e k) n h = subst (λ (x : State × Answer). has v (x.0).loose ≡ true) (some_is _ _ k) h
loose_stays v size st event _ (Step.subtracted s b walk queue d e k) n h = subst (λ (x : State × Answer). has v (x.0).loose ≡ true) (some_is _ _ k) h
loose_stays v size st event _ (Step.exchanged s l exchange new e fresh exact) n h = has_still v st.loose (option_to_list (link_at st l)) h
loose_stays v size st event _ _ n h = h
