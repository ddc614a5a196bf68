-- Stores in a field by a slot's holder: they meet what is asked of a step, and this is known afterwards.
use Rattle.std.proofs.Common.{◌≡◌, ◌≢◌, ℕ, zero, suc, ◌<◌, ◌≤◌, Bool, true, false, ◌==◌, if◌then◌else◌, unwrap_or, List, [], ◌∷◌, ◌++◌, length, Option, Some, refl, sym, ◌∙◌, ap, subst, ◌⊎◌, inl, inr, arith}
use mathlib.Core.List.{IsPrefix}
use Rattle.seize_machine.specs.Machine.State.{State, Try, head_at, is_active, linked_values, are_distinct, slot_at}
use Rattle.seize_machine.specs.Machine.Next.{of_call}
use Rattle.seize_machine.specs.declared.machine.event.Answer.{Answer}
use Rattle.seize_machine.specs.declared.machine.event.Answer.TheVariants.{Done}
use Rattle.seize_machine.proofs.Facts.{Stands}
use Rattle.seize_words.specs.Atomic.{TakesStep}
use Rattle.seize_book.specs.Blocks.{Plan, plan_value, plans}
use Rattle.seize_book.specs.Book.{Does, HolderKnows, IsLegalList, TheSlot, acts, after, by_slot, fields, rules, slots}
use Rattle.seize_book.specs.Chains.{IsLed, IsWriting, field_value, first_field, insertion_fields, insertion_value, next_field, written_at}
use Rattle.seize_book.specs.Entry.{Entry, Used, Deed, Use}
use Rattle.seize_book.specs.Fair.{Covers, pass_key}
use Rattle.seize_words.specs.Headers.{IsStoring, Uses, first_of as first_in, next_of as next_in}
use Rattle.seize_book.specs.Homes.{home_of}
use Rattle.seize_book.specs.Laws.{life, life_from}
use Rattle.seize_book.specs.Ledger.{HeldKey, HoldersKnow}
use Rattle.seize_book.specs.Private.{Tag, is_one, key_of, tag_of, own_of}
use Rattle.seize_book.specs.Slots.{IsAfter, IsKeyOfBook, own_list, slot_number, start_of, written_of}
use Rattle.seize_words.specs.Stepping.{FoundAs, HasStepped, IsStep, MayStep, in_step}
use Rattle.seize_book.specs.Tokens.{Name, start}
use Rattle.seize_words.specs.Words.{Site}
use Rattle.seize_book.specs.declared.book.pass.Pass.{Pass}
use Rattle.seize_book.specs.declared.book.slot_key.SlotKey.{SlotKey}
use Rattle.seize_book.proofs.Facts.{after_used, deeds_used, equal, reached_after, fields_apart, legal_prefix, plan_stays, plans_long, tried_there, after_one, differ, one_kept, only_is, plans_used, told_other, told_push}
use Rattle.seize_book.proofs.Lists.{selected_in}
use Rattle.seize_book.proofs.Lives.{life_kept}

abbrev pub at_field : Name → ℕ → Site
at_field n f = record { name = n; kind = fields; number = f }

pub is_at_field : (word : Site) (n : Name) → word.name ≡ n → word.kind ≡ fields → word ≡ at_field n word.number
is_at_field word n e k = ap (λ (t : Name × ℕ). record { name = t.0; kind = t.1; number = word.number }) (λ j. (e j, k j))

module _ (n : Name) (f : ℕ) where
  abbrev st : State
  st = start n

  abbrev At : Type 0
  At = List Entry × List (HeldKey Entry)

  abbrev key : ℕ → Tag → List Entry → List (HeldKey Entry)
  key s x own = record { kind = slots; key = s; own = own; label = x.0; note = x.1 } ∷ []

  -- what the word holds was last stored there
  pub shown : (v p : ℕ) (seen : List Entry) (held : List (HeldKey Entry)) (t : At) (log : List Entry) → FoundAs (at_field n f) v p seen held [] t log → v ≡ field_value log f
  shown v p seen held t log found = found.shows ∙ found.before.kept.0.1

  -- One use by a slot, with the slot's key.
  module _ (p s : ℕ) (x : Tag) (slots_own own since log : List Entry) (value w : ℕ) where
    abbrev u : Use
    u = record { pass = p; slot = s; field = f; value = value }

    covers : Covers st (pass_key p own ∷ in_step (at_field n f) (key s x slots_own) (since, [])) log (Used u)
    covers zero k b there = differ p k (λ i. b.0 (refl, i))
    covers (suc zero) k b there = refl
    covers (suc (suc zero)) k b there = differ s k (λ i. b.1.1.0 (refl, i))
    covers (suc (suc (suc zero))) k b there = refl
    covers (suc (suc (suc (suc zero)))) k b there = refl
    covers (suc (suc (suc (suc (suc zero))))) k b there = refl
    covers (suc (suc (suc (suc (suc (suc zero)))))) k b there = refl
    covers (suc (suc (suc (suc (suc (suc (suc zero))))))) k b there = differ f k (λ i. b.1.0 (refl, i))
    covers (suc (suc (suc (suc (suc (suc (suc (suc zero)))))))) k b there = refl
    covers (suc (suc (suc (suc (suc (suc (suc (suc (suc r))))))))) k b there = refl

    other_field : (k m : ℕ) → f < m → m ≤ k → (f == k) ≡ false
    other_field k m less le = grind arith

    made : IsLed (after st log) (plans st log) (field_value log) (Used u) → w ≡ field_value (log ++ Used u ∷ []) f → IsStep (at_field n f) p (key s x slots_own) [] w (Used u) false (since, []) own log
    made led shows = record {
      fair = record {
        done = (after st log, Done);
        legal = refl;
        covers = covers;
        names = λ many was there. (there.0, (λ k le. refl), (λ k le. refl), λ k le. other_field k (many fields) there.1.0 le);
        one = λ one. one;
        leads = led;
        labels = λ v named. inl named;
        says = tt;
        places = λ makes. absurd (cc);
      };
      its = refl;
      bears = refl;
      ends = λ a i. absurd i;
      covered = tt;
      shows = shows;
      stands = refl;
    }

  abbrev pub uses_it : ℕ → ℕ → ℕ → Entry
  uses_it p s value = Used (record { pass = p; slot = s; field = f; value = value })

  -- it is enough to see it for the slot's key alone, and with no key beside the field's
  MayStepAs : (p s : ℕ) (x : Tag) (seen slots_own : List Entry) (g : ℕ → ℕ) (value : ℕ) → Type 0
  MayStepAs p s x seen slots_own g value =
      (v : ℕ) (t : At) (own log : List Entry) → FoundAs (at_field n f) v p seen (key s x slots_own) [] t log → HolderKnows st TheSlot s slots_own log → v ≡ field_value log f
      → IsStep (at_field n f) p (key s x slots_own) [] (g v) (uses_it p s value) false (t.0, []) own log

  may_step : (p : ℕ) (seen : List Entry) (held : List (HeldKey Entry)) (g : ℕ → ℕ) (value : ℕ) → is_one slots held ≡ true → MayStepAs p (key_of held) (tag_of held) seen (own_of held) g value
      → MayStep (at_field n f) p seen held [] [] g (λ v log. uses_it p (key_of held) value) (λ v. false)
  unfolding MayStepAs
  may_step p seen held g value one steps =
      subst (λ (hs : List (HeldKey Entry)). MayStep (at_field n f) p seen hs [] [] g (λ v log. uses_it p (key_of held) value) (λ v. false)) (sym (only_is slots held one)) (
        (omega arith, tt),
        (λ v t own log found.
            let kept = subst (λ (vs : List (HeldKey Entry)). HoldersKnow (rules st) (vs ++ key (key_of held) (tag_of held) (own_of held)) log) found.stands found.before.kept.1 in
            subst (λ (vs : List (HeldKey Entry)). IsStep (at_field n f) p (key (key_of held) (tag_of held) (own_of held)) [] (g v) (uses_it p (key_of held) value) false (t.0, vs) own log) (sym found.stands)
            (steps v t own log found kept.0 (shown v p seen (key (key_of held) (tag_of held) (own_of held)) t log found))),
      )

  its_own : (value : ℕ) (b : Bool) (v : ℕ) → b ≡ true → value ≡ (if b then value else v)
  its_own value b v e = ap (λ (c : Bool). if c then value else v) (sym e)

  module _ (s : ℕ) (own log : List Entry) (distinct : are_distinct (linked_values n.links) ≡ true) (legal : IsLegalList st log) (kept : HolderKnows st TheSlot s own log) where
    pub own_legal : IsLegalList st own
    own_legal = legal_prefix st own log kept.0 legal

    -- what the slot knew of its batch's plan holds still
    pub served_stays : (b m : ℕ) → b < length (after st own).batches → insertion_value (plans st own) b m ≡ insertion_value (plans st log) b m
    served_stays b m there = ap (λ (plan : Plan). plan_value m plan.slots plan.values) (plan_stays st own log b kept.0 (subst (λ (k : ℕ). b < k) (sym (plans_long n own own_legal)) there))

    pub writing : (which : ℕ → ℕ) → (w : IsStoring st s own which f) → (f ≡ which (home_of (insertion_value (plans st log) w.batch w.at))) × Stands (after st log) s (Try w.batch w.won w.at w.later w.saw) w.queue
    writing which w =
        let there = tried_there (after st own) s w.batch w.won w.at w.later w.saw w.queue (reached_after n own distinct own_legal) w.trying in
        (w.its ∙ ap (λ (v : ℕ). which (home_of v)) (served_stays w.batch w.at there), ap (λ slot. slot.call) (sym kept.1.1) ∙ w.trying)

  pub may_store : (p value : ℕ) (seen : List Entry) (held : List (HeldKey Entry)) → is_one slots held ≡ true → IsStoring st (key_of held) (own_of held) next_field f ⊎ IsStoring st (key_of held) (own_of held) first_field f
      → MayStep (at_field n f) p seen held [] [] (λ v. value) (λ v log. uses_it p (key_of held) value) (λ v. false)
  unfolding MayStepAs
  may_store p value seen held one stores =
      may_step p seen held (λ v. value) value one (λ v t own log found kept word.
      made p (key_of held) (tag_of held) (own_of held) own t.0 log value value (led log found.distinct found.before.legal kept stores) (its_own value (f == f) (field_value log f) (equal f f refl) ∙ sym (told_push log (uses_it p (key_of held) value) f)))
    where
      led : (log : List Entry) → are_distinct (linked_values n.links) ≡ true → IsLegalList st log → HolderKnows st TheSlot (key_of held) (own_of held) log
          → IsStoring st (key_of held) (own_of held) next_field f ⊎ IsStoring st (key_of held) (own_of held) first_field f → IsWriting (after st log) (plans st log) (key_of held) f
      led log distinct legal kept (inl w) =
          let now = writing (key_of held) (own_of held) log distinct legal kept next_field w in
          record { batch = w.batch; won = w.won; at = w.at; later = w.later; saw = w.saw; queue = w.queue; trying = now.1; its = inl now.0 }
      led log distinct legal kept (inr w) =
          let now = writing (key_of held) (own_of held) log distinct legal kept first_field w in
          record { batch = w.batch; won = w.won; at = w.at; later = w.later; saw = w.saw; queue = w.queue; trying = now.1; its = inr now.0 }

-- What is known afterwards.

-- what is true of one book's slot is true of the other's, which is the same
module _ (f : ℕ) (key key' : SlotKey) (pass pass' : Pass) (g : ℕ → ℕ) (v value : ℕ)
    (told_ : TakesStep (at_field pass.name f) key.keys pass key'.keys pass' [] g v (λ v log. uses_it pass.name f pass.id (slot_number key) value) (λ _. false)) (book : IsKeyOfBook key pass) where
  abbrev step : HasStepped (at_field pass.name f) pass.id pass.seen pass'.seen key.keys.held key'.keys.held [] v (g v) (λ v log. uses_it pass.name f pass.id (slot_number key) value) (λ _. false)
  step = told_.2

  abbrev n : Name
  n = pass.name

  abbrev s : ℕ
  s = slot_number key

  abbrev own : List Entry
  own = own_list key

  abbrev log : List Entry
  log = step.log

  abbrev e : Entry
  e = uses_it n f pass.id s value

  abbrev now : State
  now = after (start n) log

  is_seen : pass'.seen ≡ log ++ e ∷ []
  is_seen = step.noted.appended ∙ ap (λ (l : List Entry). l ++ e ∷ []) step.is_log

  kept : HolderKnows (start n) TheSlot s own log
  kept = one_kept (start n) key.keys.held log key.one (subst (λ (vs : List (HeldKey Entry)). HoldersKnow (rules (start n)) (vs ++ key.keys.held) log) step.found.stands step.found.before.kept.1)

  distinct : are_distinct (linked_values n.links) ≡ true
  distinct = step.found.distinct

  legal : IsLegalList (start n) log
  legal = step.found.before.legal

  seen_by : IsAfter key pass' key'
  seen_by = let one = after_one slots key.keys.held pass'.seen key.one in (told_.1, ap key_of step.keys ∙ one.0, ap own_of step.keys ∙ one.1)

  -- where the key's list leads now
  key_now : {X : Type 0} (h : State → ℕ → X) → h (after (start_of key') (own_list key')) (slot_number key') ≡ h now s
  key_now h =
      ap (λ (t : Name × (List Entry × ℕ)). h (after (start t.0) t.1.0) t.1.1) (λ i. ((seen_by.0 ∙ book) i, ((seen_by.2 ∙ is_seen) i, seen_by.1 i)))
      ∙ ap (λ (st : State). h st s) (after_used (start n) log (record { pass = pass.id; slot = s; field = f; value = value }))

  in_book : {X : Type 0} (h : State → X) → h (after (start n) own) ≡ h (after (start_of key) own)
  in_book h = ap (λ (m : Name). h (after (start m) own)) (sym book)

  pub used : Uses key pass key' pass' f value
  used = record {
    same = told_.0;
    seen_by = seen_by;
    noted = step.noted;
    knew = subst (IsPrefix own) (sym step.is_log) kept.0;
    slot = key_now slot_at ∙ sym kept.1.1 ∙ in_book (λ st. slot_at st s);
    active = key_now (λ st k. is_active (head_at st k)) ∙ sym kept.1.2 ∙ in_book (λ st. is_active (head_at st s));
    acts =
        ap (λ (t : Name × (ℕ × List Entry)). by_slot (start t.0) t.1.0 t.1.1) (λ i. ((seen_by.0 ∙ book) i, (seen_by.1 i, (seen_by.2 ∙ is_seen) i)))
        ∙ selected_in (λ a. acts s a.0) (start n) log e (step.noted.later, step.noted.answer)
        (subst (λ (l : List Entry). Does (start n) l e (step.noted.later, step.noted.answer)) step.is_log step.noted.does) (equal s s refl)
        ∙ ap (λ (made : List (Entry × Answer)). made ++ (e, step.noted.answer) ∷ []) (sym kept.1.0 ∙ ap (λ (m : Name). by_slot (start m) s own) (sym book));
    life =
        ap (λ (t : ℕ × List Entry). life t.0 t.1) (λ i. (seen_by.1 i, (seen_by.2 ∙ is_seen) i))
        ∙ ap (λ (ds : List Deed). life_from 0 s ds) (deeds_used log (record { pass = pass.id; slot = s; field = f; value = value }))
        ∙ sym (life_kept (start n) s own log kept);
  }

  -- What was stored, and what was not.

  abbrev home : ℕ → ℕ → ℕ
  home b m = home_of (insertion_value (plans (start n) log) b m)

  abbrev told' : ℕ → ℕ
  told' = field_value (log ++ e ∷ [])

  written_now : (b won m : ℕ) (later saw queue : List ℕ) → Stands now s (Try b won m later saw) queue → written_of key' ≡ Some (told' (next_field (home b m)), told' (first_field (home b m)))
  written_now b won m later saw queue stands =
      ap (λ (t : Name × (List Entry × ℕ)). insertion_fields (after (start t.0) t.1.0) (plans (start t.0) t.1.0) (field_value t.1.0) t.1.1) (λ i. ((seen_by.0 ∙ book) i, ((seen_by.2 ∙ is_seen) i, seen_by.1 i)))
      ∙ (λ i. insertion_fields (after_used (start n) log (record { pass = pass.id; slot = s; field = f; value = value }) i) (plans_used (start n) log (record { pass = pass.id; slot = s; field = f; value = value }) i) told' s)
      ∙ ap (of_call (written_at (plans (start n) log) told')) stands

  -- the two of them before
  written_before : (b won m : ℕ) (later saw queue : List ℕ) → Stands now s (Try b won m later saw) queue → Some (field_value log (next_field (home b m)), field_value log (first_field (home b m))) ≡ written_of key
  written_before b won m later saw queue stands =
      sym (ap (of_call (written_at (plans (start n) log) (field_value log))) stands) ∙ sym kept.1.3
      ∙ ap (λ (z : Name). insertion_fields (after (start z) own) (plans (start z) own) (field_value own) s) (sym book)

  others : (j : ℕ) → j ≢ f → told' j ≡ field_value log j
  others j other = told_other log (record { pass = pass.id; slot = s; field = f; value = value }) j other

  this : told' f ≡ value
  this = told_push log e f ∙ ap (λ (c : Bool). if c then value else field_value log f) (equal f f refl)

  in_pass : (which : ℕ → ℕ) → IsStoring (start_of key) s own which f → IsStoring (start n) s own which f
  in_pass which w = subst (λ (z : Name). IsStoring (start z) s own which f) book w

  pub wrote_next : IsStoring (start_of key) s own next_field f → written_of key' ≡ Some (value, first_in key)
  wrote_next w_ =
      let w = in_pass next_field w_ in let k = writing n f s own log distinct legal kept next_field w in let h = home w.batch w.at in
      written_now w.batch w.won w.at w.later w.saw w.queue k.1
      ∙ (λ i. Some ((ap told' (sym k.0) ∙ this) i, (others (first_field h) (λ same. (fields_apart h h).0 (sym (same ∙ k.0))) ∙ ap (λ (o : Option (ℕ × ℕ)). (unwrap_or o (0, 0)).1) (written_before w.batch w.won w.at w.later w.saw w.queue k.1)) i))

  pub wrote_first : IsStoring (start_of key) s own first_field f → written_of key' ≡ Some (next_in key, value)
  wrote_first w_ =
      let w = in_pass first_field w_ in let k = writing n f s own log distinct legal kept first_field w in let h = home w.batch w.at in
      written_now w.batch w.won w.at w.later w.saw w.queue k.1
      ∙ (λ i. Some ((others (next_field h) (λ same. (fields_apart h h).0 (same ∙ k.0)) ∙ ap (λ (o : Option (ℕ × ℕ)). (unwrap_or o (0, 0)).0) (written_before w.batch w.won w.at w.later w.saw w.queue k.1)) i, (ap told' (sym k.0) ∙ this) i))
