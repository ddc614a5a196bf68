-- A book without calls shows a state of waiting sets: what waits in its slots and retired batches has the names of what is lent with it, and
-- the kinds that the list says, and a retired batch waits for the slots whose heads list it.
--     AllHave ps vs     each of these numbers is among these
use Rattle.std.proofs.Common.{◌≡◌, ℕ, zero, suc, ◌+◌, ◌<◌, ◌≤◌, pos, ◌==◌, ◌||◌, not, Bool, true, false, if◌then◌else◌, List, [], ◌∷◌, ◌++◌, length, map, get_or, Option, Some, None, option_map, is_some, refl, sym, ◌∙◌, ap, subst, ◌⊎◌, inl, inr, arith}
use Rattle.std.specs.List.{Contains, count_by, range_with_len, sum_by}
use Rattle.std.proofs.lemmas.Bool.{cases_lt}
use Rattle.std.proofs.lemmas.List.{get_or_default, get_or_past, length-map, same_lists}
use Rattle.std.proofs.lemmas.List.Elements.{Contains-append_right}
use Rattle.std.proofs.lemmas.List.FromFn.{get_or-map-range_with_len, length-map-range_with_len}
use Rattle.std.proofs.lemmas.List.Sums.{sum_by-cons}
use base.Stored.{Gv}
use Rattle.seize_table.specs.Place.{all_numbers}
use Rattle.seize_machine.specs.Machine.State as machine
use Rattle.seize_machine.specs.Machine.State.{Active, Head, Inactive, are_distinct, batch_at, has, head_at, is_active, linked_values, no_batch, waiting_at}
use Rattle.seize_machine.specs.Machine.History.{IsReached}
use Rattle.seize_machine.proofs.Facts.{IsSettled, batched_settled, count_listed, distinct_once, has_none, has_some, heads_length, linked_named, links_length, listed_once, occ, rest_settled, step_of, waiting_settled}
use Rattle.seize_model.specs.declared.kind.Kind.{Kind}
use Rattle.seize_model.specs.declared.kind.Kind.TheVariants.{Free, Owned, Registered}
use Rattle.seize_model.specs.Waiting.Calls.{is_free}
use Rattle.seize_model.specs.Waiting.State as waiting
use Rattle.seize_model.specs.Agreement.Shows.{ShowsReclaimers, ShowsSlot, ShowsState, ShowsValues, StandFor, head_of, held_value}
use Rattle.seize_book.specs.Book.{IsLegalList, after}
use Rattle.seize_book.specs.Entry.{Deed, Entry, Made, Use, Used}
use Rattle.seize_book.specs.Kept.{IsTold, SaysKept}
use Rattle.seize_book.specs.Saying.{AllSay, retires_by}
use Rattle.seize_book.specs.Tokens.{Name, start}
use Rattle.seize_book.proofs.Facts.{equal, reached_after, told_if}
use Rattle.seize_book.proofs.Lives.{legal_first}
use Rattle.seize_words.specs.Chunks.{IsLentAs}
use Rattle.seize_alone.specs.Begins.{BeginsHeld, Begun, IsUsedAs}
use Rattle.seize_alone.specs.Holding.{AreLent, AreOfKinds, HoldsAll, found, some_slot, some_state, some_value}
use Rattle.seize_alone.proofs.Below.{none_below}
use Rattle.seize_alone.proofs.Found.{Has, Knows, has_first, has_left, has_right, told_append}
use Rattle.seize_alone.proofs.Mapped.{get_map, retired_same, slot_same}

pub nothing_in : (xs : List ℕ) (v : ℕ) → xs ≡ [] → Contains xs v → ⊥
nothing_in [] v none c = let within : c.0 < 0 = c.1 in omega arith
nothing_in (x ∷ xs) v none c = cc

pub all_out : (xs : List ℕ) → ((v : ℕ) → Contains xs v → ⊥) → xs ≡ []
all_out [] none = refl
all_out (x ∷ xs) none = absurd (none x (zero, omega arith, refl))

-- What a head says of a slot.

off_empty : (head : Head) → is_active head ≡ false → waiting_at head ≡ []
off_empty Inactive off = refl
off_empty (Active waiting) off = absurd (cc)

head_is : (head : Head) (on : Bool) → is_active head ≡ on → head ≡ (if on then Active (waiting_at head) else Inactive)
head_is Inactive true is = absurd (cc)
head_is Inactive false is = refl
head_is (Active waiting) true is = refl
head_is (Active waiting) false is = absurd (cc)

-- How many slots a batch waits for, where it waits for each at most once.

has_once : (b : ℕ) (order : List ℕ) → are_distinct order ≡ true → occ b order ≡ (if has b order then 1 else 0)
has_once b order once = go (has b order) refl
  where
    go : (h : Bool) → has b order ≡ h → occ b order ≡ (if h then 1 else 0)
    go true is = let some = has_some b order is in let few = distinct_once b order once in omega (arith, some, few)
    go false is = has_none b order is

module _ {T R : Type 0} (b : ℕ) where
  listed_in : (slot : waiting.ModelSlot T R) → are_distinct slot.order ≡ true → (waiting.has_guard slot ≡ false → slot.order ≡ []) → occ b (waiting_at (head_of slot)) ≡ (if waiting.waits_for b slot then 1 else 0)
  listed_in slot once off = go (waiting.has_guard slot) refl
    where
      go : (g : Bool) → waiting.has_guard slot ≡ g → occ b (waiting_at (if g then Active slot.order else Inactive)) ≡ (if waiting.waits_for b slot then 1 else 0)
      go true is = has_once b slot.order once
      go false is = ap (λ (order : List ℕ). if has b order then 1 else 0) (sym (off is))

  all_listed : (slots : List (waiting.ModelSlot T R)) → ((s : ℕ) → are_distinct (get_or slots s waiting.unmade_slot).order ≡ true) → ((s : ℕ) → waiting.has_guard (get_or slots s waiting.unmade_slot) ≡ false → (get_or slots s waiting.unmade_slot).order ≡ [])
      → sum_by (λ (head : Head). occ b (waiting_at head)) (map head_of slots) ≡ count_by (waiting.waits_for b) slots
  all_listed [] once off = refl
  all_listed (slot ∷ slots) once off =
      sum_by-cons (λ (head : Head). occ b (waiting_at head)) (head_of slot) (map head_of slots)
      ∙ (λ i. listed_in slot (once zero) (off zero) i + all_listed slots (λ s. once (suc s)) (λ s. off (suc s)) i)
      ∙ sym (sum_by-cons (λ (x : waiting.ModelSlot T R). if waiting.waits_for b x then 1 else 0) slot slots)

-- Names: of all that was named, what is lent with it.

abbrev AllHave : {A : Type 0} → List (ℕ × A) → List ℕ → Type 0
AllHave ps [] = Unit {0}
AllHave ps (v ∷ vs) = Has ps v × AllHave ps vs

have_if : {A : Type 0} (ps : List (ℕ × A)) (vs : List ℕ) → ((v : ℕ) → Contains vs v → Has ps v) → AllHave ps vs
have_if ps [] has_each = tt
have_if ps (v ∷ vs) has_each = (has_each v (zero, omega arith, refl), have_if ps vs (λ w c. has_each w (Contains-append_right (v ∷ []) vs w c)))

have_more : {A : Type 0} (ps qs : List (ℕ × A)) → Knows ps qs → (vs : List ℕ) → AllHave ps vs → AllHave qs vs
have_more ps qs knows [] have = tt
have_more ps qs knows (v ∷ vs) have = (knows v have.0, have_more ps qs knows vs have.1)

or_true : (b : Bool) → (b || true) ≡ true
or_true true = refl
or_true false = refl

has_this : (v : ℕ) (vs : List ℕ) → has v (v ∷ vs) ≡ true
has_this v vs = ap (λ (b : Bool). b || has v vs) (equal v v refl)

has_later : (v w : ℕ) (vs : List ℕ) → has w vs ≡ true → has w (v ∷ vs) ≡ true
has_later v w vs is = ap (λ (b : Bool). (v == w) || b) is ∙ or_true (v == w)

module _ {T : Type 0} (code : T → Gv) where
  names_of : (vs : List ℕ) → ((v : ℕ) → has v vs ≡ true → (x : T) × IsLentAs v (code x)) → List (ℕ × T)
  names_of [] lent = []
  names_of (v ∷ vs) lent = (v, (lent v (has_this v vs)).0) ∷ names_of vs (λ w is. lent w (has_later v w vs is))

  names_lent : (vs : List ℕ) (lent : (v : ℕ) → has v vs ≡ true → (x : T) × IsLentAs v (code x)) → AreLent code (names_of vs lent)
  unfolding names_of
  names_lent [] lent = tt
  names_lent (v ∷ vs) lent = ((lent v (has_this v vs)).1, names_lent vs (λ w is. lent w (has_later v w vs is)))

  names_have : (vs : List ℕ) (lent : (v : ℕ) → has v vs ≡ true → (x : T) × IsLentAs v (code x)) (w : ℕ) → has w vs ≡ true → Has (names_of vs lent) w
  unfolding names_of
  names_have [] lent w is = absurd (cc)
  names_have (v ∷ vs) lent w is = by_case (v == w) is (names_have vs (λ u in_. lent u (has_later v u vs in_)) w)
    where
      by_case : (b : Bool) → (b || has w vs) ≡ true → (has w vs ≡ true → Has (names_of vs (λ u in_. lent u (has_later v u vs in_))) w)
          → is_some (if b then Some (lent v (has_this v vs)).0 else found (names_of vs (λ u in_. lent u (has_later v u vs in_))) w) ≡ true
      by_case true is rest = refl
      by_case false is rest = rest is

-- Kinds: all that the list says.

abbrev kinds_of : List ℕ → List ℕ → List (ℕ × ℕ)
kinds_of (v ∷ vs) (k ∷ ks) = (v, k) ∷ kinds_of vs ks
kinds_of _ _ = []

abbrev all_said : List Entry → List (ℕ × ℕ)
all_said [] = []
all_said (Made d ∷ log) = kinds_of (retires_by d.event) d.kepts ++ all_said log
all_said (Used u ∷ log) = all_said log

each_told : (log : List Entry) (vs ks : List ℕ) → ((v k : ℕ) → SaysKept vs ks v k → IsTold log v k) → AreOfKinds log (kinds_of vs ks)
each_told log [] ks told = tt
each_told log (v ∷ vs) [] told = tt
each_told log (v ∷ vs) (k ∷ ks) told = (told v k (inl (refl, refl)), each_told log vs ks (λ w l says. told w l (inr says)))

more_told : (e : Deed) (log : List Entry) (ps : List (ℕ × ℕ)) → AreOfKinds log ps → AreOfKinds (Made e ∷ log) ps
more_told e log [] told = tt
more_told e log (p ∷ ps) told = (inr told.0, more_told e log ps told.1)

used_told : (u : Use) (log : List Entry) (ps : List (ℕ × ℕ)) → AreOfKinds log ps → AreOfKinds (Used u ∷ log) ps
used_told u log [] told = tt
used_told u log (p ∷ ps) told = (told.0, used_told u log ps told.1)

said_told : (log : List Entry) → AreOfKinds log (all_said log)
said_told [] = tt
said_told (Made e ∷ log) =
    told_append (Made e ∷ log) (kinds_of (retires_by e.event) e.kepts) (all_said log) (each_told (Made e ∷ log) (retires_by e.event) e.kepts (λ v k says. inl says)) (more_told e log (all_said log) (said_told log))
said_told (Used u ∷ log) = used_told u log (all_said log) (said_told log)

says_has : (vs ks : List ℕ) (v k : ℕ) → SaysKept vs ks v k → Has (kinds_of vs ks) v
says_has [] ks v k says = absurd says
says_has (x ∷ vs) [] v k says = absurd says
says_has (x ∷ vs) (l ∷ ks) v k (inl is) = subst (Has (kinds_of (x ∷ vs) (l ∷ ks))) is.0 (has_first (x, l) (kinds_of vs ks))
says_has (x ∷ vs) (l ∷ ks) v k (inr says) = has_right ((x, l) ∷ []) (kinds_of vs ks) v (says_has vs ks v k says)

told_has : (log : List Entry) (v k : ℕ) → IsTold log v k → Has (all_said log) v
told_has [] v k told = absurd told
told_has (Made e ∷ log) v k (inl says) = has_left (kinds_of (retires_by e.event) e.kepts) (all_said log) v (says_has (retires_by e.event) e.kepts v k says)
told_has (Made e ∷ log) v k (inr told) = has_right (kinds_of (retires_by e.event) e.kepts) (all_said log) v (told_has log v k told)
told_has (Used u ∷ log) v k told = told_has log v k told

-- Values by their names and kinds.

module _ {T R : Type 0} where
  abbrev with_both : Option T → Option R → List (T × R) → List (T × R)
  with_both (Some x) (Some k) vs = (x, k) ∷ vs
  with_both _ _ vs = vs

  both_stand : (o : Option T) (p : Option R) (vs : List (T × R)) → is_some o ≡ true → is_some p ≡ true → (o, p) ∷ map some_value vs ≡ map some_value (with_both o p vs)
  both_stand None p vs named of_kind = absurd (cc)
  both_stand (Some x) None vs named of_kind = absurd (cc)
  both_stand (Some x) (Some k) vs named of_kind = refl

  module _ (names : List (ℕ × T)) (kinds : List (ℕ × R)) where
    abbrev values_by : List ℕ → List (T × R)
    values_by [] = []
    values_by (v ∷ vs) = with_both (found names v) (found kinds v) (values_by vs)

    all_stand : (vs : List ℕ) → AllHave names vs → AllHave kinds vs → StandFor {T = Option T} {R = Option R} (found names) (found kinds) vs (map some_value (values_by vs))
    all_stand [] named of_kind = refl
    all_stand (v ∷ vs) named of_kind =
        ap (λ (l : List (Option T × Option R)). (found names v, found kinds v) ∷ l) (all_stand vs named.1 of_kind.1) ∙ both_stand (found names v) (found kinds v) (values_by vs) named.0 of_kind.0

    all_shown : (vs : List ℕ) → AllHave names vs → AllHave kinds vs → ShowsValues {T = Option T} {R = Option R} (found names) vs (map some_value (values_by vs))
    all_shown [] named of_kind = refl
    all_shown (v ∷ vs) named of_kind =
        ap (λ (l : List (Option T)). found names v ∷ l) (all_shown vs named.1 of_kind.1)
        ∙ ap (λ (l : List (Option T × Option R)). map (λ v. v.0) l) (both_stand (found names v) (found kinds v) (values_by vs) named.0 of_kind.0)

    -- the state

    abbrev slot_by : Kind × ℕ → machine.Slot → Head → waiting.ModelSlot T R
    slot_by u slot head = record { kind = u.0; guards = u.1; batch = values_by slot.batch; order = waiting_at head }

    abbrev link_by : Option ℕ → Option T
    link_by None = None
    link_by (Some v) = found names v

    abbrev retired_by : machine.Batch → List (T × R)
    retired_by batch = values_by batch.values

    module _ (uses : ℕ → Kind × ℕ) (size : ℕ) (now : machine.State) where
      abbrev slot_of : ℕ → waiting.ModelSlot T R
      slot_of s = slot_by (uses s) (machine.slot_at now s) (head_at now s)

      abbrev state_by : waiting.ModelState T R
      state_by = record { size = size; slots = map slot_of (range_with_len 0 (length now.slots)); retired = map retired_by now.batches; links = map link_by now.links; rest = values_by now.rest }

      many_by : length state_by.slots ≡ length now.slots
      many_by = length-map-range_with_len slot_of 0 (length now.slots)

      retired_is : (b : ℕ) → waiting.retired_at state_by b ≡ retired_by (batch_at now b)
      retired_is b = get_map retired_by now.batches b no_batch [] refl

      slot_is : ((s : ℕ) → IsUsedAs now s (uses s)) → length now.heads ≡ length now.slots → (s : ℕ) → waiting.model_slot state_by s ≡ slot_of s
      slot_is used many s = go (cases_lt s (length now.slots))
        where
          no_use : (u : Kind × ℕ) → false ≡ not (is_free u.0) → (is_free u.0 ≡ true → u.1 ≡ 0) → u ≡ (Free, 0)
          no_use (Free, guards) is free = ap (λ (k : ℕ). (Free, k)) (free refl)
          no_use (Registered, guards) is free = absurd (cc)
          no_use (Owned, guards) is free = absurd (cc)

          go : (s < length now.slots) ⊎ (length now.slots ≤ s) → waiting.model_slot state_by s ≡ slot_of s
          go (inl below) = get_or-map-range_with_len slot_of 0 (length now.slots) s s waiting.unmade_slot below (omega arith)
          go (inr past) =
              let none : machine.slot_at now s ≡ machine.no_slot = get_or_past now.slots s machine.no_slot past in
              let off : head_at now s ≡ Inactive = get_or_past now.heads s Inactive (omega (arith, past, many)) in
              let none_used : uses s ≡ (Free, 0) = no_use (uses s) (sym (ap (λ (slot : machine.Slot). slot.used) none) ∙ (used s).used) (used s).free in
              get_or_past state_by.slots s waiting.unmade_slot (omega (arith, past, many_by)) ∙ (λ i. slot_by (sym none_used i) (sym none i) (sym off i))

    one_held : (o : Option T) → is_some o ≡ true → Some o ≡ option_map Some o
    one_held None is = absurd (cc)
    one_held (Some x) is = refl

    all_held : (links : List (Option ℕ)) → ((l v : ℕ) → get_or links l None ≡ Some v → Has names v) → map (held_value (found names)) links ≡ map (λ (o : Option T). option_map Some o) (map link_by links)
    all_held [] named = refl
    all_held (None ∷ links) named = ap (λ (l : List (Option (Option T))). None ∷ l) (all_held links (λ l. named (suc l)))
    all_held (Some v ∷ links) named = λ i. one_held (found names v) (named zero v refl) i ∷ all_held links (λ l. named (suc l)) i

-- there are as many links as at the beginning
links_stay : (st : machine.State) (log : List Entry) → IsLegalList st log → length (after st log).links ≡ length st.links
links_stay st [] legal = refl
links_stay st (Used u ∷ log) legal = links_stay st log legal
links_stay st (Made d ∷ log) legal =
    let first = legal_first st d log legal in
    ap (λ (done : _). length (after done.0 log).links) first.2 ∙ links_stay (first.0).0 log first.3 ∙ links_length d.size st d.event first.0 (step_of _ _ _ _ first.1)

module _ {T : Type 0} (code : T → Gv) (n : Name) (seen : List Entry) (size : ℕ) (uses : ℕ → Kind × ℕ) (legal : IsLegalList (start n) seen) (distinct : are_distinct (linked_values n.links) ≡ true) (say : AllSay seen)
    (few : length (after (start n) seen).slots ≤ all_numbers) (used : (s : ℕ) → IsUsedAs (after (start n) seen) s (uses s)) (lent : (v : ℕ) → has v (after (start n) seen).named ≡ true → (x : T) × IsLentAs v (code x)) where
  abbrev now : machine.State
  now = after (start n) seen

  abbrev batch : ℕ → List ℕ
  batch s = (machine.slot_at now s).batch

  abbrev values : ℕ → List ℕ
  values b = (batch_at now b).values

  abbrev names : List (ℕ × T)
  names = names_of code now.named lent

  abbrev kinds : List (ℕ × ℕ)
  kinds = all_said seen

  abbrev begun : waiting.ModelState T ℕ
  begun = state_by names kinds uses size now

  reached : IsReached now
  reached = reached_after n seen distinct legal

  -- what waits was named, and is of some kind

  abbrev AreSettled : List ℕ → Type 0
  AreSettled vs = (v : ℕ) → Contains vs v → IsSettled v now

  all_named : (vs : List ℕ) → AreSettled vs → AllHave names vs
  all_named vs settled = have_if names vs (λ v c. names_have code now.named lent v (settled v c).0)

  of_kinds : (vs : List ℕ) → AreSettled vs → AllHave kinds vs
  of_kinds vs settled = have_if kinds vs (λ v c. let is = settled v c in let told = told_if n seen v legal say is.0 is.1 is.2 in told_has seen v told.0 told.1)

  in_slot : (s : ℕ) → AreSettled (batch s)
  in_slot s v c = waiting_settled now reached s v c

  in_batch : (b : ℕ) → AreSettled (values b)
  in_batch b v c = batched_settled now reached b v c

  in_rest : AreSettled now.rest
  in_rest v c = rest_settled now reached v c

  -- the slots

  slot_now : (s : ℕ) → waiting.model_slot begun s ≡ slot_of names kinds uses size now s
  slot_now = slot_is names kinds uses size now used (heads_length now reached)

  some_now : (s : ℕ) → waiting.model_slot (some_state begun) s ≡ some_slot (slot_of names kinds uses size now s)
  some_now s = slot_same begun s ∙ ap some_slot (slot_now s)

  as_many : length (some_state begun).slots ≡ length now.slots
  as_many = length-map begun.slots some_slot ∙ many_by names kinds uses size now

  slot_shown : (s : ℕ) → ShowsSlot (Option T) (Option ℕ) (found names) (waiting.model_slot (some_state begun) s) (machine.slot_at now s)
  slot_shown s =
      subst (λ (slot : waiting.ModelSlot (Option T) (Option ℕ)). ShowsSlot (Option T) (Option ℕ) (found names) slot (machine.slot_at now s)) (sym (some_now s)) (record {
        used = (used s).used;
        idle = (used s).idle;
        batch = all_shown names kinds (batch s) (all_named (batch s) (in_slot s)) (of_kinds (batch s) (in_slot s));
        free = (used s).free;
        owned = (used s).owned;
        inactive = λ off. off_empty (head_at now s) ((used s).active ∙ off);
        once = listed_once now reached s;
      })

  head_now : (s : ℕ) → head_at now s ≡ head_of (waiting.model_slot (some_state begun) s)
  head_now s = head_is (head_at now s) _ (used s).active ∙ ap (λ (slot : waiting.ModelSlot (Option T) (Option ℕ)). head_of slot) (sym (some_now s))

  heads_now : now.heads ≡ map head_of (some_state begun).slots
  heads_now =
      let many : length now.heads ≡ length (map head_of (some_state begun).slots) = heads_length now reached ∙ sym as_many ∙ sym (length-map (some_state begun).slots head_of) in
      same_lists now.heads (map head_of (some_state begun).slots) many (λ s d below.
      get_or_default now.heads s d Inactive below ∙ head_now s ∙ sym (get_map head_of (some_state begun).slots s waiting.unmade_slot Inactive refl)
      ∙ get_or_default (map head_of (some_state begun).slots) s Inactive d (omega (arith, below, many)))

  -- the batches

  retired_now : (b : ℕ) → waiting.retired_at (some_state begun) b ≡ map some_value (values_by names kinds (values b))
  retired_now b = retired_same begun b ∙ ap (λ (vs : List (T × ℕ)). map some_value vs) (retired_is names kinds uses size now b)

  count_now : (b : ℕ) → (batch_at now b).count ≡ pos (count_by (waiting.waits_for b) (some_state begun).slots)
  count_now b =
      count_listed now reached (λ s. (used s).idle) b ∙ ap (λ (heads : List Head). pos (sum_by (λ (head : Head). occ b (waiting_at head)) heads)) heads_now
      ∙ ap (λ (k : ℕ). pos k) (all_listed b (some_state begun).slots (λ s. (slot_shown s).once) (λ s. (slot_shown s).inactive))

  shown : ShowsState (Option T) (Option ℕ) (found names) (some_state begun) now
  shown = record {
    numbers = subst (λ (k : ℕ). k ≤ all_numbers) (sym as_many) few;
    slots = sym as_many;
    slot = slot_shown;
    heads = heads_now;
    retired = sym (length-map begun.retired (λ (vs : List (T × ℕ)). map some_value vs) ∙ length-map now.batches (retired_by names kinds));
    values = λ b.
        all_shown names kinds (values b) (all_named (values b) (in_batch b)) (of_kinds (values b) (in_batch b))
        ∙ ap (λ (vs : List (Option T × Option ℕ)). map (λ v. v.0) vs) (sym (retired_now b));
    counts = count_now;
    links = all_held names kinds now.links (λ l v is. names_have code now.named lent v (linked_named now reached l v is).0);
    rest = all_shown names kinds now.rest (all_named now.rest in_rest) (of_kinds now.rest in_rest);
  }

  by_kinds : ShowsReclaimers (Option T) (Option ℕ) (found names) (found kinds) (some_state begun) now
  by_kinds = record {
    batches = λ s. all_stand names kinds (batch s) (all_named (batch s) (in_slot s)) (of_kinds (batch s) (in_slot s)) ∙ ap (λ (slot : waiting.ModelSlot (Option T) (Option ℕ)). slot.batch) (sym (some_now s));
    retired = λ b. all_stand names kinds (values b) (all_named (values b) (in_batch b)) (of_kinds (values b) (in_batch b)) ∙ sym (retired_now b);
    rest = all_stand names kinds now.rest (all_named now.rest in_rest) (of_kinds now.rest in_rest);
  }

  begun_held : Begun code size n seen uses
  begun_held = record {
    state = begun;
    names = names;
    kinds = kinds;
    holds = record {
      gone = 0;
      all = subst (λ (st : waiting.ModelState T ℕ). HoldsAll code st names kinds n seen) (sym (none_below begun))
          (record { shows = shown; reclaimers = by_kinds; lent = names_lent code now.named lent; told = said_told seen });
    };
    sized = refl;
    links = length-map now.links (link_by names kinds) ∙ links_stay (start n) seen legal;
    slots = λ s. let is = slot_now s in (ap (λ (slot : waiting.ModelSlot T ℕ). slot.kind) is, ap (λ (slot : waiting.ModelSlot T ℕ). slot.guards) is);
  }

pub begins_held : {T : Type 0} (code : T → Gv) → BeginsHeld code
begins_held code n seen size uses legal distinct say few used lent = begun_held code n seen size uses legal distinct say few used lent
