-- What is known of the values when all that nobody has was swept.
--     past_end, below_or         lists of places
--     quiet_at, quiet_by         where all is quiet, no slot has a call or is active, and the other way round
--     used_before                where all that lay here or was kept lies here, a number that is in use was so before
--     cleared, all_reclaimed     where no number is in use, each slot is as if it had never been made, and each retired value is reclaimed
--     all_rest                   where all is quiet and nothing is left, each is reclaimed or stands in the batch of a slot in use
use Rattle.std.proofs.Common.{◌≡◌, ◌⊎◌, ℕ, zero, suc, ◌<◌, ◌≤◌, Bool, true, false, not, ◌&&◌, List, [], ◌∷◌, length, Option, None, Some, is_some, get_or, map, inl, inr, ⊎_elim, refl, sym, ap, subst, ◌∙◌, arith}
use Rattle.std.specs.Prelude.{slice_index_or}
use Rattle.std.specs.List.{Contains, list_all}
use Rattle.std.specs.Option.{is_none}
use Rattle.std.proofs.lemmas.List.{length-map}
use Rattle.seize_machine.proofs.Facts.{and_true, free_empty, law_quiet, law_unused, not_true}
use Rattle.seize_machine.specs.Machine.History.{IsReached, Reclaimed, Retired, answers_of}
use Rattle.seize_machine.specs.Machine.Laws.{is_quiet, is_unused}
use Rattle.seize_machine.specs.Machine.State.{Head, Inactive, Progress, Slot as Record, State, are_distinct, head_at, is_active, linked_values, no_slot, slot_at}
use Rattle.seize_book.specs.Book.{IsLegalList, after, moments}
use Rattle.seize_book.specs.Entry.{events_of}
use Rattle.seize_book.specs.Homesteads.{state_seen}
use Rattle.seize_book.specs.Tokens.{start}
use Rattle.seize_book.specs.declared.book.pass.Pass.{Pass}
use Rattle.seize_book.proofs.Facts.{as_legal, reached_after}
use Rattle.seize_parts.specs.Laws.{moments_seen}
use Rattle.seize_parts.specs.Numbers.{flags_of}
use Rattle.seize_parts.specs.Sweeps.{IsOff, StandsInUse}
use Rattle.seize_parts.proofs.InUse.{used_place}

-- Lists of which so much is known at each place.

pub past_end : {X : Type 0} (xs : List X) (t : ℕ) (d : X) → length xs ≤ t → slice_index_or xs t d ≡ d
past_end [] t d past = refl
past_end (x ∷ xs) zero d past = absurd (omega (arith, past))
past_end (x ∷ xs) (suc t) d past = past_end xs t d (omega (arith, past))

all_by : {X : Type 0} (P : X → Bool) (xs : List X) (d : X) → ((t : ℕ) → P (slice_index_or xs t d) ≡ true) → list_all P xs ≡ true
all_by P [] d each = refl
all_by P (x ∷ xs) d each = (λ i. each 0 i && list_all P xs) ∙ all_by P xs d (λ t. each (suc t))

each_by : {X : Type 0} (P : X → Bool) (xs : List X) (d : X) → P d ≡ true → list_all P xs ≡ true → (t : ℕ) → P (slice_index_or xs t d) ≡ true
each_by P [] d last all t = last
each_by P (x ∷ xs) d last all zero = (and_true (P x) (list_all P xs) all).0
each_by P (x ∷ xs) d last all (suc t) = each_by P xs d last (and_true (P x) (list_all P xs) all).1 t

pub below_or : (t k : ℕ) → (t < k) ⊎ (k ≤ t)
below_or zero zero = inr (omega arith)
below_or zero (suc k) = inl (omega arith)
below_or (suc t) zero = inr (omega arith)
below_or (suc t) (suc k) = ⊎_elim (λ less. inl (omega (arith, less))) (λ past. inr (omega (arith, past))) (below_or t k)

-- Where all is quiet.

none_call : (o : Option Progress) → is_some o ≡ false → o ≡ None
none_call None is = refl
none_call (Some call) is = absurd (cc)

pub quiet_at : (st : State) → is_quiet st ≡ true → (t : ℕ) → ((slot_at st t).call ≡ None) × (is_active (head_at st t) ≡ false)
quiet_at st quiet t =
    let parts = and_true (list_all (λ slot. not (is_some slot.call)) st.slots) (list_all (λ head. not (is_active head)) st.heads) quiet in (
      none_call (slot_at st t).call (not_true (is_some (slot_at st t).call) (each_by (λ (slot : Record). not (is_some slot.call)) st.slots no_slot refl parts.0 t)),
      not_true (is_active (head_at st t)) (each_by (λ (head : Head). not (is_active head)) st.heads Inactive refl parts.1 t),
    )

pub quiet_by : (st : State) → ((t : ℕ) → (slot_at st t).call ≡ None) → ((t : ℕ) → is_active (head_at st t) ≡ false) → is_quiet st ≡ true
quiet_by st none off = λ i.
    all_by (λ (slot : Record). not (is_some slot.call)) st.slots no_slot (λ t. ap (λ (o : Option Progress). not (is_some o)) (none t)) i
    && all_by (λ (head : Head). not (is_active head)) st.heads Inactive (λ t. ap not (off t)) i

-- Numbers in use.

pub used_before : {X Y : Type 0} (records records' : List Record) (slots slots' : List (Option X)) (kept kept' : List (Option Y)) → map (λ slot. slot.used) records ≡ flags_of slots → map (λ slot. slot.used) records' ≡ flags_of slots' → length slots' ≡ length slots
    → ((i : ℕ) → (is_some (get_or slots i None) ≡ true) ⊎ (is_some (get_or kept i None) ≡ true) → (is_some (get_or slots' i None) ≡ true) ⊎ (is_some (get_or kept' i None) ≡ true)) → ((i : ℕ) → is_some (get_or kept' i None) ≡ false)
    → (t : ℕ) → (slice_index_or records' t no_slot).used ≡ true → (slice_index_or records t no_slot).used ≡ true
used_before {X} {Y} records records' slots slots' kept kept' was is long more none t used = ⊎_elim there beyond (below_or t (length slots'))
  where
    many : length records' ≡ length slots'
    many = sym (length-map records' (λ slot. slot.used)) ∙ ap (λ (us : List Bool). length us) is ∙ length-map slots' is_none

    beyond : length slots' ≤ t → (slice_index_or records t no_slot).used ≡ true
    beyond past = absurd (let no : no_slot.used ≡ true = ap (λ (x : Record). x.used) (sym (past_end records' t no_slot (let same = many in omega (arith, same, past)))) ∙ used in cc)

    both : (o : Option X) → is_none o ≡ true → is_some o ≡ true → ⊥
    both None is some = cc
    both (Some x) is some = cc

    there : t < length slots' → (slice_index_or records t no_slot).used ≡ true
    there less = used_place records slots t was (omega (arith, less, long)) ∙ go (get_or slots t None) refl
      where
        go : (o : Option X) → get_or slots t None ≡ o → is_none (get_or slots t None) ≡ true
        go None same = ap is_none same
        go (Some x) same =
            ⊎_elim (λ here. absurd (both (get_or slots' t None) (sym (used_place records' slots' t is less) ∙ used) here)) (λ held. absurd (let no : true ≡ false = sym held ∙ none t in cc)) (more t (inl (ap is_some same)))

-- A pass that has seen a legal list.
module _ (pass : Pass) (legal : IsLegalList (start pass.name) pass.seen) (distinct : are_distinct (linked_values pass.name.links) ≡ true) where
  abbrev st : State
  st = state_seen pass

  reached : IsReached (state_seen pass)
  reached = reached_after pass.name pass.seen distinct legal

  pub cleared : ((s : ℕ) → (slot_at (state_seen pass) s).used ≡ false) → (s : ℕ) → (slot_at (state_seen pass) s ≡ no_slot) × IsOff pass s
  cleared unused s = free_empty (state_seen pass) reached s (unused s)

  pub all_reclaimed : ((s : ℕ) → (slot_at (state_seen pass) s).used ≡ false) → (v q : ℕ) → Retired (moments_seen pass) v q → (k : ℕ) × Reclaimed (moments_seen pass) v k
  all_reclaimed unused v q retired =
      let n = pass.name in law_unused n.slots n.links (events_of pass.seen) (answers_of (moments (start n) pass.seen)) (after (start n) pass.seen) distinct (as_legal (start n) pass.seen legal) none v q retired
    where
      none : is_unused (state_seen pass) ≡ true
      none = all_by (λ (slot : Record). not slot.used && not (is_some slot.call)) (state_seen pass).slots no_slot (λ t. ap (λ (x : Record). not x.used && not (is_some x.call)) (cleared unused t).0)

  pub all_rest : is_quiet (state_seen pass) ≡ true → (state_seen pass).rest ≡ [] → (v q : ℕ) → Retired (moments_seen pass) v q → ((k : ℕ) × Reclaimed (moments_seen pass) v k) ⊎ StandsInUse (state_seen pass) v
  all_rest quiet nothing v q retired =
      let n = pass.name in
      ⊎_elim (λ back. inl back)
      (λ left. ⊎_elim (λ batched. stands batched.0 batched.1 (slot_at (state_seen pass) batched.0).used refl) (λ rested. absurd (none_in (state_seen pass).rest v nothing rested.0)) left)
      (law_quiet n.slots n.links (events_of pass.seen) (answers_of (moments (start n) pass.seen)) (after (start n) pass.seen) distinct (as_legal (start n) pass.seen legal) quiet v q retired)
    where
      none_in : (vs : List ℕ) (v : ℕ) → vs ≡ [] → Contains vs v → ⊥
      none_in vs v none there = let less : there.0 < length {A = ℕ} [] = subst (λ (xs : List ℕ). there.0 < length xs) none there.1 in omega (arith, less)

      stands : (s : ℕ) → Contains (slot_at (state_seen pass) s).batch v → (b : Bool) → (slot_at (state_seen pass) s).used ≡ b → ((k : ℕ) × Reclaimed (moments_seen pass) v k) ⊎ StandsInUse (state_seen pass) v
      stands s there true is = inr (s, is, there)
      stands s there false is = absurd (none_in (slot_at (state_seen pass) s).batch v (ap (λ (x : Record). x.batch) (free_empty (state_seen pass) reached s is).0) there)
