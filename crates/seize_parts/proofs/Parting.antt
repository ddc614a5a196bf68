-- A slot in use leaves with its last guard, where it has any, and is kept: the state then, and what lies in the places.
--     one_held, one_used, one_guards     a slot with guards is given one
--     leave_goes                 the last guard leaves
--     unit_some .. left_off      what lies in the place of a slot in use, and what is done with it
--     lie_some, lie_none         where something lies in a place its slot is in use, and where nothing does it is not
--     parts_later, parts_done    the slots that have still to part, and those that did
--     parts_all                  so many slots parted as there are
--     moved_some, moved_none     a slot is kept in a place where it parted, and else none
--     kept_parted                the slots that parted are kept
use Rattle.std.proofs.Common.{◌≡◌, ◌⊎◌, inl, inr, ⊎_elim, ℕ, zero, suc, ◌==◌, ◌+◌, ◌<◌, ◌≤◌, Bool, true, false, not, ◌&&◌, if◌then◌else◌, List, [], length, Option, None, Some, option_map, get_or, slice_set, refl, sym, ap, subst, ◌∙◌, arith}
use Rattle.std.specs.List.{range_with_len}
use Rattle.std.specs.Option.{is_none}
use Rattle.std.proofs.lemmas.List.{get_or-set_same, get_or-set_other, get_or_past, length-set}
use Rattle.std.proofs.lemmas.Bool.{cases_lt}
use native.Mathlib.Decide.{ℕ_discrete}
use base.Stored.{Coded, Gv}
use Rattle.seize_model.specs.declared.kind.Kind.{Kind}
use Rattle.seize_model.specs.declared.kind.Kind.TheVariants.{Free, Owned, Registered}
use Rattle.seize_model.specs.Waiting.Attempt.{StateAndGone, with_gone}
use Rattle.seize_model.specs.Waiting.Calls.{is_free, is_owned, one_guard_less, set_guards}
use Rattle.seize_model.specs.Waiting.State.{ModelSlot as WaitingSlot, ModelState, has_guard, model_slot}
use Rattle.seize_book.specs.Passes.{IsSamePass}
use Rattle.seize_book.specs.Tokens.{IsSole, Name}
use Rattle.seize_book.specs.declared.book.pass.Pass.{Pass}
use Rattle.seize_book.proofs.Facts.{equal, unequal}
use Rattle.seize_words.specs.Joined.{words_book}
use Rattle.seize_words.specs.declared.words.Words.{Words}
use Rattle.seize_calls.specs.Aparts.{without_puts}
use Rattle.seize_calls.specs.Handing.{Had}
use Rattle.seize_calls.specs.Slots.{IsOfWords, IsPassOf, SlotLeaves, its_number}
use Rattle.seize_calls.specs.declared.further.Further.{Further}
use Rattle.seize_calls.specs.declared.slot.Slot.{Slot}
use Rattle.seize_alone.specs.Gone.{PutAs}
use Rattle.seize_alone.specs.Holding.{Holds, HoldsThen}
use Rattle.seize_alone.specs.Reclaiming.{last_guard_left, part_in_turn, parts_in_turn}
use Rattle.seize_alone.proofs.Nothing.{had_with, put_nothing}
use Rattle.seize_alone.proofs.Orderly.{owned_guard}
use Rattle.seize_alone.proofs.Outlines.{outline_of}
use Rattle.seize_alone.proofs.Singles.{guards_held}
use Rattle.seize_parts.specs.Aparts.{AreKeptOf, Fits, Goes, MovesToKept, IsSomeHeld, MayGo, MayPart, WaitsBehind}
use Rattle.seize_parts.specs.Places.{IsUnmoved}
use Rattle.seize_parts.specs.Placing.{ArePlaces, Lies, lies_for, lying_in, unit_in, what_lies_in}
use Rattle.seize_parts.specs.Reservations.{place_label}
use Rattle.seize_parts.specs.Told.{HasTold}
use Rattle.seize_parts.specs.declared.alone.place.Place.{Place}
use Rattle.seize_parts.specs.declared.alone.place.Unit.{Unit as Held}
use Rattle.seize_parts.proofs.Attempted.{leave_same, leave_step}
use Rattle.seize_parts.proofs.Going.{fits_then, parts_append, range_both, waits_as}
use Rattle.seize_parts.proofs.Keeping.{past_free}
use Rattle.seize_parts.proofs.Lying.{slot_there}
use Rattle.seize_parts.proofs.Outlined.{guarded_slot, part_at, part_free, part_other, parts_long, parts_size}
use Rattle.seize_parts.proofs.Stilled.{same_pass}

-- The state.

-- a slot with guards is given one
pub one_held : {T : Type 0} (c : Coded T) (st : ModelState T ℕ) (names : List (ℕ × T)) (kinds : List (ℕ × ℕ)) (s : ℕ) (pass : Pass) → Holds c.code st names kinds pass.name pass.seen → is_free (model_slot st s).kind ≡ false → has_guard (model_slot st s) ≡ true
    → Holds c.code (set_guards st s 1) names kinds pass.name pass.seen
one_held {T} c st names kinds s pass holds used on = go (model_slot st s).kind refl
  where
    go : (k : Kind) → (model_slot st s).kind ≡ k → Holds c.code (set_guards st s 1) names kinds pass.name pass.seen
    go Free is = absurd (let e : true ≡ false = sym (ap is_free is) ∙ used in cc)
    go Registered is = guards_held c st names kinds s 1 pass holds is on (omega arith)
    go Owned is = subst (λ (now : ModelState T ℕ). Holds c.code now names kinds pass.name pass.seen) (sym (owned_guard c.code st names kinds pass.name pass.seen s holds (ap is_owned is) on)) holds

module _ {T : Type 0} (st : ModelState T ℕ) (s : ℕ) (used : is_free (model_slot st s).kind ≡ false) where
  one_slot : model_slot (set_guards st s 1) s ≡ record (model_slot st s) { guards = 1 }
  one_slot = guarded_slot st s (slot_there st s used)

  pub one_used : is_free (model_slot (set_guards st s 1) s).kind ≡ false
  one_used = ap (λ (x : WaitingSlot T ℕ). is_free x.kind) one_slot ∙ used

  pub one_guards : (model_slot (set_guards st s 1) s).guards ≡ 1
  one_guards = ap (λ (x : WaitingSlot T ℕ). x.guards) one_slot

-- Parts of a reclaim of all.

module _ {T Seen : Type 0} (c : Coded T) (puts : ℕ → T → List T) (told : Seen → T → Seen) where
  -- the last guard leaves
  pub leave_goes : (words : Words T) (slot slot' : Slot T) (pass ready pass' : Pass) (n : ℕ) → its_number slot ≡ n → IsPassOf words pass → IsSole pass.id → IsUnmoved pass ready → IsOfWords words slot' → (had : Had) → SlotLeaves slot ready [] slot' pass' (without_puts had)
      → PutAs c.code puts had → (seen seen' : Seen) (queue queue' : Further) → HasTold c.code told seen seen' had → WaitsBehind (words_book words) had queue queue'
      → Goes c.code puts told (λ st. Fits pass st × (is_free (model_slot st n).kind ≡ false) × ((model_slot st n).guards ≡ 1)) (λ st. one_guard_less st n) pass pass' seen seen' queue queue'
  leave_goes words slot slot' pass ready pass' n at for sole still of had leaves put seen seen' queue queue' tells waits =
      let e : SlotLeaves slot pass [] slot' pass' (without_puts had) = subst (λ (p : Pass). SlotLeaves slot p [] slot' pass' (without_puts had)) (same_pass sole still) leaves in record {
        same = leave_same c words n e;
        had = had;
        put = put;
        tells = tells;
        waits = waits_as (words_book words) pass.name had queue queue' (sym for.0) waits;
        holds = λ st names kinds may holds.
            let left = leave_step c words n (record { at = at; sole = sole; for = for; of = of; distinct = may.0.1; size = may.0.0; holds = holds }) (without_puts had) (put_nothing c.code puts had put) e may.1 may.2 in
            (left.0.0, had_with c.code had (one_guard_less st n).1 left.0.1);
      }

  -- it is said of the state that another one is first
  pub goes_from : {May May' : ModelState T ℕ → Type 0} {does does' : ModelState T ℕ → StateAndGone T ℕ} {p q : Pass} {seen seen' : Seen} {queue queue' : Further} (now : ModelState T ℕ → ModelState T ℕ)
      → ((st : ModelState T ℕ) (names : List (ℕ × T)) (kinds : List (ℕ × ℕ)) → May' st → Holds c.code st names kinds p.name p.seen → Holds c.code (now st) names kinds p.name p.seen × May (now st) × (does (now st) ≡ does' st))
      → Goes c.code puts told May does p q seen seen' queue queue' → Goes c.code puts told May' does' p q seen seen' queue queue'
  goes_from {q = q} now leads one = record {
    same = one.same;
    had = one.had;
    put = one.put;
    tells = one.tells;
    waits = one.waits;
    holds = λ st names kinds may holds. let then_so = leads st names kinds may holds in subst (λ (o : StateAndGone T ℕ). HoldsThen c.code o one.had q) then_so.2 (one.holds (now st) names kinds then_so.1 then_so.0);
  }

-- What lies in the place of a slot in use.

pub unit_some : (n : Name) (s : ℕ) (o : Option Held) (unit : Held) (on : Bool) → option_map unit_in o ≡ (if on then Some (s, n) else None) → o ≡ Some unit → (on ≡ true) × (unit.number ≡ s) × (unit.seen.name ≡ n)
unit_some n s o unit true is some = let same : (unit.number, unit.seen.name) ≡ (s, n) = one (sym (ap (λ (x : Option Held). option_map unit_in x) some) ∙ is) in (refl, (λ j. (same j).0), λ j. (same j).1)
  where
    one : {a b : ℕ × Name} → Some a ≡ Some b → a ≡ b
    one e = cc
unit_some n s o unit false is some = absurd (let both : Some (unit.number, unit.seen.name) ≡ None = sym (ap (λ (x : Option Held). option_map unit_in x) some) ∙ is in cc)

pub unit_none : (n : Name) (s : ℕ) (o : Option Held) (on : Bool) → option_map unit_in o ≡ (if on then Some (s, n) else None) → o ≡ None → on ≡ false
unit_none n s o true is none = absurd (let both : None ≡ Some (s, n) = sym (ap (λ (x : Option Held). option_map unit_in x) none) ∙ is in cc)
unit_none n s o false is none = refl

pub left_on : {T : Type 0} (st : ModelState T ℕ) (s : ℕ) → has_guard (model_slot st s) ≡ true → one_guard_less (set_guards st s 1) s ≡ last_guard_left st s
left_on st s on = sym (ap (λ (b : Bool). if b then one_guard_less (set_guards st s 1) s else (st, [])) on)

pub left_off : {T : Type 0} (st : ModelState T ℕ) (s : ℕ) → has_guard (model_slot st s) ≡ false → (st, []) ≡ last_guard_left st s
left_off st s off = sym (ap (λ (b : Bool). if b then one_guard_less (set_guards st s 1) s else (st, [])) off)

-- some state is held then
pub held_then : {T Seen : Type 0} (code : T → Gv) (puts : ℕ → T → List T) (told : Seen → T → Seen) {May May' : ModelState T ℕ → Type 0} {does : ModelState T ℕ → StateAndGone T ℕ} {p q : Pass} {seen seen' : Seen} {queue queue' : Further}
    → Goes code puts told May does p q seen seen' queue queue' → IsSomeHeld code p May → ((st : ModelState T ℕ) → May st → May' (does st).0) → IsSomeHeld code q May'
held_then code puts told {does = does} one held leads = let then_held = one.holds held.0 held.1 held.2 held.4 held.3 in ((does held.0).0, then_held.0.0, then_held.0.1, then_held.0.2, leads held.0 held.4)

-- What lies in the places.

-- that is said by the outline
abbrev lies_by : Name → ℕ → Kind × ℕ → Option Lies
lies_by n s o = if is_free o.0 then None else Some (is_owned o.0, (o.1, (place_label n s 1, ((if not (o.1 == 0) then Some (s, n) else None), n.family))))

lies_same : {T : Type 0} (n : Name) (s : ℕ) (a b : WaitingSlot T ℕ) → outline_of a ≡ outline_of b → lies_for n a s ≡ lies_for n b s
lies_same n s a b same = ap (lies_by n s) same

-- where something lies its slot is in use, and this is it
pub lie_some : {T : Type 0} (n : Name) (s : ℕ) (slot : WaitingSlot T ℕ) (o : Option (Place T)) (place : Place T) → o ≡ Some place → option_map what_lies_in o ≡ lies_for n slot s → (is_free slot.kind ≡ false) × (what_lies_in place ≡ lying_in n slot s)
lie_some n s slot o place is lies = go (is_free slot.kind) (sym (ap (λ (x : _). option_map what_lies_in x) is) ∙ lies)
  where
    go : (free : Bool) → Some (what_lies_in place) ≡ (if free then None else Some (lying_in n slot s)) → (free ≡ false) × (what_lies_in place ≡ lying_in n slot s)
    go true e = absurd (cc)
    go false e = (refl, some e)
      where
        some : {a b : Lies} → Some a ≡ Some b → a ≡ b
        some e = cc

pub lie_none : {T : Type 0} (n : Name) (s : ℕ) (slot : WaitingSlot T ℕ) (o : Option (Place T)) → o ≡ None → option_map what_lies_in o ≡ lies_for n slot s → is_free slot.kind ≡ true
lie_none n s slot o none lies = go (is_free slot.kind) (sym (ap (λ (x : _). option_map what_lies_in x) none) ∙ lies)
  where
    go : (free : Bool) → None ≡ (if free then None else Some (lying_in n slot s)) → free ≡ true
    go true e = refl
    go false e = absurd (cc)

-- as the state says it of each place
pub places_free : {T : Type 0} (n : Name) (st : ModelState T ℕ) (places : List (Option (Place T))) → ArePlaces n st places → (s : ℕ) → is_none (get_or places s None) ≡ is_free (model_slot st s).kind
places_free {T} n st places are s = go (get_or places s None) refl
  where
    go : (o : Option (Place T)) → get_or places s None ≡ o → is_none (get_or places s None) ≡ is_free (model_slot st s).kind
    go None is = ap is_none is ∙ sym (lie_none n s (model_slot st s) (get_or places s None) is (are.lie s))
    go (Some place) is = ap is_none is ∙ sym (lie_some n s (model_slot st s) (get_or places s None) place is (are.lie s)).0

-- nothing lies in one place more
pub none_more : {X : Type 0} (n : ℕ) (places places' : List (Option X)) → places' ≡ slice_set places n None → n < length places → ((s : ℕ) → s < n → get_or places s None ≡ None) → (s : ℕ) → s < n + 1 → get_or places' s None ≡ None
none_more {X} n places places' is below none s less = ap (λ (l : List (Option X)). get_or l s None) is ∙ go (ℕ_discrete s n)
  where
    go : Dec (s ≡ n) → get_or (slice_set places n None) s None ≡ None
    go (yes e) = subst (λ (k : ℕ). get_or (slice_set places n None) k None ≡ None) (sym e) (get_or-set_same places n None None below)
    go (no differs) = get_or-set_other places n s None None differs ∙ none s (let apart : s ≡ n → ⊥ = differs in omega (arith, less, apart))

-- The slots in turn.

module _ {T : Type 0} where
  -- one that is not among these is as it was
  pub parts_later : (m k : ℕ) (st : ModelState T ℕ) (s : ℕ) → (s < k) ⊎ (k + m ≤ s) → outline_of (model_slot (parts_in_turn st (range_with_len k m)).0 s) ≡ outline_of (model_slot st s)
  parts_later zero k st s apart = refl
  parts_later (suc m) k st s apart =
      parts_later m (k + 1) (part_in_turn st k).0 s (⊎_elim (λ less. inl (omega (arith, less))) (λ past. inr (omega (arith, past))) apart)
      ∙ part_other st k s (λ e. ⊎_elim (λ less. absurd (omega (arith, less, e))) (λ past. absurd (omega (arith, past, e))) apart)

  -- and one of these is in use where it was, without a guard
  pub parts_done : (m k : ℕ) (st : ModelState T ℕ) (s : ℕ) → k ≤ s → s < k + m
      → (is_free (model_slot (parts_in_turn st (range_with_len k m)).0 s).kind ≡ is_free (model_slot st s).kind) × (is_free (model_slot (parts_in_turn st (range_with_len k m)).0 s).kind ≡ false → has_guard (model_slot (parts_in_turn st (range_with_len k m)).0 s) ≡ false)
  parts_done zero k st s from less = absurd (omega (arith, from, less))
  parts_done (suc m) k st s from less = go (ℕ_discrete s k) (parts_done m (k + 1) (part_in_turn st k).0 s)
    where
      now : ModelState T ℕ
      now = (part_in_turn st k).0

      last : ModelState T ℕ
      last = (parts_in_turn (part_in_turn st k).0 (range_with_len (k + 1) m)).0

      one : (free : Bool) → is_free (model_slot st k).kind ≡ free → (is_free (model_slot now k).kind ≡ is_free (model_slot st k).kind) × (is_free (model_slot now k).kind ≡ false → has_guard (model_slot now k) ≡ false)
      one true free =
          let same = ap (λ (o : StateAndGone T ℕ). is_free (model_slot o.0 k).kind) (part_free st k free) in
          (same, λ used. absurd (let no : true ≡ false = sym free ∙ sym same ∙ used in cc))
      one false used = let at = part_at st k used in (at.0 ∙ sym used, λ _. at.1)

      same_at : (a b : WaitingSlot T ℕ) → outline_of a ≡ outline_of b → (is_free a.kind ≡ is_free b.kind) × (has_guard a ≡ has_guard b)
      same_at a b same = (ap (λ (o : Kind × ℕ). is_free o.0) same, ap (λ (o : Kind × ℕ). not (o.1 == 0)) same)

      go : Dec (s ≡ k) → (k + 1 ≤ s → s < k + 1 + m → (is_free (model_slot last s).kind ≡ is_free (model_slot now s).kind) × (is_free (model_slot last s).kind ≡ false → has_guard (model_slot last s) ≡ false))
          → (is_free (model_slot last s).kind ≡ is_free (model_slot st s).kind) × (is_free (model_slot last s).kind ≡ false → has_guard (model_slot last s) ≡ false)
      go (yes e) more =
          let own = one (is_free (model_slot st k).kind) refl in let later = same_at (model_slot last k) (model_slot now k) (parts_later m (k + 1) now k (inl (omega arith))) in
          subst (λ (t : ℕ). (is_free (model_slot last t).kind ≡ is_free (model_slot st t).kind) × (is_free (model_slot last t).kind ≡ false → has_guard (model_slot last t) ≡ false)) (sym e)
          (later.0 ∙ own.0, λ used. later.1 ∙ own.1 (sym later.0 ∙ used))
      go (no differs) more =
          let apart : s ≡ k → ⊥ = differs in let rest = more (omega (arith, from, apart)) (omega (arith, less)) in
          (rest.0 ∙ (same_at (model_slot now s) (model_slot st s) (part_other st k s differs)).0, rest.1)

  parts_beyond : (m k : ℕ) (st : ModelState T ℕ) → ((s : ℕ) → k ≤ s → is_free (model_slot st s).kind ≡ true) → parts_in_turn st (range_with_len k m) ≡ (st, [])
  parts_beyond zero k st free = refl
  parts_beyond (suc m) k st free =
      ap (λ (o : StateAndGone T ℕ). with_gone o.1 (parts_in_turn o.0 (range_with_len (k + 1) m))) (part_free st k (free k (omega arith)))
      ∙ parts_beyond m (k + 1) st (λ s past. free s (omega (arith, past)))

  later_free : (n : Name) (places : List (Option (Place T))) (st : ModelState T ℕ) → ArePlaces n st places → (s : ℕ) → length places ≤ s → is_free (model_slot (parts_in_turn st (range_with_len 0 (length places))).0 s).kind ≡ true
  later_free n places st are s past =
      ap (λ (o : Kind × ℕ). is_free o.0) (parts_later (length places) 0 st s (inr (omega (arith, past)))) ∙ sym (places_free n st places are s) ∙ ap is_none (get_or_past places s None past)

  -- so many slots parted as there are
  pub parts_all : (n : Name) (places : List (Option (Place T))) (st : ModelState T ℕ) → ArePlaces n st places → parts_in_turn st (range_with_len 0 (length places)) ≡ parts_in_turn st (range_with_len 0 (length st.slots))
  parts_all n places st are =
      range_both parts_in_turn parts_append st (length places) (length st.slots)
      (λ k. parts_beyond k (length places) (parts_in_turn st (range_with_len 0 (length places))).0 (later_free n places st are))
      (λ k. parts_beyond k (length st.slots) (parts_in_turn st (range_with_len 0 (length st.slots))).0
      (λ s past. past_free (parts_in_turn st (range_with_len 0 (length st.slots))).0 s (let same = parts_long st (range_with_len 0 (length st.slots)) in omega (arith, same, past))))

  -- The slots that parted are kept.
  pub kept_parted : (n : Name) (places : List (Option (Place T))) (kept : List (Option (Slot T))) (st : ModelState T ℕ) → ArePlaces n st places → ((s : ℕ) → s < length places → is_none (get_or kept s None) ≡ is_none (get_or places s None))
      → ((s : ℕ) → length places ≤ s → is_none (get_or kept s None) ≡ true) → AreKeptOf kept (parts_in_turn st (range_with_len 0 (length st.slots))).0
  kept_parted n places kept st are here past = subst (λ (o : StateAndGone T ℕ). AreKeptOf kept o.0) (parts_all n places st are) (λ s. ⊎_elim (done s) (rest s) (cases_lt s (length places)))
    where
      last : ModelState T ℕ
      last = (parts_in_turn st (range_with_len 0 (length places))).0

      done : (s : ℕ) → s < length places → (is_none (get_or kept s None) ≡ is_free (model_slot last s).kind) × (is_free (model_slot last s).kind ≡ false → has_guard (model_slot last s) ≡ false)
      done s less = let own = parts_done (length places) 0 st s (omega arith) (omega (arith, less)) in (here s less ∙ places_free n st places are s ∙ sym own.0, own.1)

      rest : (s : ℕ) → length places ≤ s → (is_none (get_or kept s None) ≡ is_free (model_slot last s).kind) × (is_free (model_slot last s).kind ≡ false → has_guard (model_slot last s) ≡ false)
      rest s beyond = let free = later_free n places st are s beyond in (past s beyond ∙ sym free, λ used. absurd (let no : true ≡ false = sym free ∙ used in cc))

  -- what is asked of the next one
  pub may_part : (p q : Pass) (places now : List (Option (Place T))) (n : ℕ) (st : ModelState T ℕ) → IsSamePass p q → MayGo p places st → ((s : ℕ) → s < n → get_or now s None ≡ None) → ((s : ℕ) → n ≤ s → get_or now s None ≡ get_or places s None)
      → MayPart q n now (parts_in_turn st (range_with_len 0 n)).0
  may_part p q places now n st same may none rest = (
    fits_then p q st last same (parts_size st (range_with_len 0 n)) may.0,
    ap (λ (o : Option (Place T)). option_map what_lies_in o) (rest n (omega arith)) ∙ may.1.lie n ∙ sym (lies_same p.name n (model_slot last n) (model_slot st n) (parts_later n 0 st n (inr (omega arith)))) ∙ ap (λ (m : Name). lies_for m (model_slot last n) n) (sym same.0),
    λ s place is. ⊎_elim (λ less. absurd (let no : None ≡ Some place = sym (none s less) ∙ is in cc)) (λ past. may.1.sound s place (sym (rest s past) ∙ is)) (cases_lt s n),
  )
    where
      last : ModelState T ℕ
      last = (parts_in_turn st (range_with_len 0 n)).0

-- One place.

module _ {T : Type 0} (n : ℕ) (places : List (Option (Place T))) (kept kept' : List (Option (Slot T))) where
  pub moved_some : (place : Place T) (slot : Slot T) → get_or places n None ≡ Some place → kept' ≡ slice_set kept n (Some slot) → n < length kept → MovesToKept n places kept kept'
  moved_some place slot is same below = (ap (λ (l : List (Option (Slot T))). length l) same ∙ length-set kept n (Some slot), λ i. ap (λ (l : List (Option (Slot T))). is_none (get_or l i None)) same ∙ go i (ℕ_discrete i n))
    where
      both : (a b c : Bool) → b ≡ true → c ≡ false → (a && not (b && not c)) ≡ false
      both true b c on off = ap (λ (t : Bool × Bool). not (t.0 && not t.1)) (λ j. (on j, off j))
      both false b c on off = refl

      apart : (a b c : Bool) → b ≡ false → a ≡ (a && not (b && not c))
      apart true b c off = sym (ap (λ (x : Bool). not (x && not c)) off)
      apart false b c off = refl

      go : (i : ℕ) → Dec (i ≡ n) → is_none (get_or (slice_set kept n (Some slot)) i None) ≡ (is_none (get_or kept i None) && not ((i == n) && not (is_none (get_or places n None))))
      go i (yes e) =
          ap (λ (k : ℕ). is_none (get_or (slice_set kept n (Some slot)) k None)) e ∙ ap is_none (get_or-set_same kept n (Some slot) None below)
          ∙ sym (both (is_none (get_or kept i None)) (i == n) (is_none (get_or places n None)) (equal i n e) (ap is_none is))
      go i (no differs) = ap is_none (get_or-set_other kept n i (Some slot) None differs) ∙ apart (is_none (get_or kept i None)) (i == n) (is_none (get_or places n None)) (unequal i n differs)

  pub moved_none : get_or places n None ≡ None → kept' ≡ kept → MovesToKept n places kept kept'
  moved_none none same = (ap (λ (l : List (Option (Slot T))). length l) same, λ i. ap (λ (l : List (Option (Slot T))). is_none (get_or l i None)) same ∙ go (is_none (get_or kept i None)) (i == n) (is_none (get_or places n None)) (ap is_none none))
    where
      go : (a b c : Bool) → c ≡ true → a ≡ (a && not (b && not c))
      go true true c on = sym (ap (λ (x : Bool). not (not x)) on)
      go true false c on = refl
      go false b c on = refl

  -- where it is so with the places before, it is so with one more
  pub moved_before : (all : List (Option (Place T))) → MovesToKept n places kept kept' → get_or places n None ≡ get_or all n None → ((s : ℕ) → s < n → is_none (get_or kept s None) ≡ is_none (get_or all s None)) → ((s : ℕ) → n ≤ s → is_none (get_or kept s None) ≡ true)
      → (s : ℕ) → s < n + 1 → is_none (get_or kept' s None) ≡ is_none (get_or all s None)
  moved_before all moved same before after s less = moved.1 s ∙ go (ℕ_discrete s n)
    where
      own : (a b c : Bool) → a ≡ true → b ≡ true → (a && not (b && not c)) ≡ c
      own a b true free at = (λ j. free j && not (at j && false))
      own a b false free at = (λ j. free j && not (at j && true))

      apart : (a b c : Bool) → b ≡ false → (a && not (b && not c)) ≡ a
      apart true b c off = ap (λ (x : Bool). not (x && not c)) off
      apart false b c off = refl

      go : Dec (s ≡ n) → (is_none (get_or kept s None) && not ((s == n) && not (is_none (get_or places n None)))) ≡ is_none (get_or all s None)
      go (yes e) =
          own (is_none (get_or kept s None)) (s == n) (is_none (get_or places n None)) (after s (omega (arith, e))) (equal s n e) ∙ ap is_none same ∙ ap (λ (k : ℕ). is_none (get_or all k None)) (sym e)
      go (no differs) = apart (is_none (get_or kept s None)) (s == n) (is_none (get_or places n None)) (unequal s n differs) ∙ before s (let other : s ≡ n → ⊥ = differs in omega (arith, less, other))

  pub moved_after : MovesToKept n places kept kept' → ((s : ℕ) → n ≤ s → is_none (get_or kept s None) ≡ true) → (s : ℕ) → n + 1 ≤ s → is_none (get_or kept' s None) ≡ true
  moved_after moved after s past =
      moved.1 s ∙ (λ j. after s (omega (arith, past)) j && not (unequal s n (λ e. absurd (omega (arith, past, e))) j && not (is_none (get_or places n None))))
