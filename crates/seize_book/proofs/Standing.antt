-- A value that was found in an activation which has not ended was not reclaimed: by the law of protection, where a value is reclaimed each
-- slot that found it has left or refreshed since.
use Rattle.std.proofs.Common.{◌≡◌, ℕ, suc, zero, ◌<◌, Bool, true, false, ◌||◌, ◌==◌, List, [], ◌∷◌, ◌++◌, length, Option, None, Some, refl, sym, ◌∙◌, ap, subst, ◌⊎◌, inl, inr, arith}
use Rattle.std.specs.Prelude.{option_to_list}
use Rattle.std.proofs.lemmas.Option.{slice_get_within}
use Rattle.seize_machine.specs.Machine.State.{State, are_distinct, has, linked_values}
use Rattle.seize_machine.specs.Machine.History.{Moment, Reclaimed, answers_of, handed, handed_value}
use Rattle.seize_machine.proofs.Facts.{eq_true, is_true, law_gone, law_protection}
use Rattle.seize_book.specs.Entry.{Entry, deeds, events_of}
use Rattle.seize_book.specs.Book.{IsLegalList, after, moments}
use Rattle.seize_book.specs.Laws.{AllParted, IsAmong, Reader, ended_lives}
use Rattle.seize_book.specs.Tokens.{Name, start}
use Rattle.seize_book.proofs.Handed.{moments_length}
use Rattle.seize_book.proofs.Lists.{as_legal}
use Rattle.seize_book.proofs.Lives.{all_over}

-- a value that was handed was so by an event
handed_by : (v : ℕ) (ms : List Moment) → has v (handed (answers_of ms)) ≡ true → (c : ℕ) × Reclaimed ms v c
handed_by v [] h = absurd (cc)
handed_by v (m ∷ ms) h = go (λ there. handed_by v ms there) (handed_value m.answer) refl h
  where
    Later : Type 0
    Later = has v (handed (answers_of ms)) ≡ true → (c : ℕ) × Reclaimed ms v c

    later : Later → has v (handed (answers_of ms)) ≡ true → (c : ℕ) × Reclaimed (m ∷ ms) v c
    later more there = let r = more there in (suc r.0, r.1)

    first : Later → (w : ℕ) → handed_value m.answer ≡ Some w → ((w == v) ≡ true) ⊎ ((w == v) ≡ false) → ((w == v) || has v (handed (answers_of ms))) ≡ true → (c : ℕ) × Reclaimed (m ∷ ms) v c
    first more w is (inl same) there = (zero, (m, refl, is ∙ ap Some (eq_true w v same)))
    first more w is (inr other) there = later more (ap (λ (b : Bool). b || has v (handed (answers_of ms))) (sym other) ∙ there)

    go : Later → (o : Option ℕ) → handed_value m.answer ≡ o → has v (option_to_list (handed_value m.answer) ++ handed (answers_of ms)) ≡ true → (c : ℕ) × Reclaimed (m ∷ ms) v c
    go more None is there = later more (subst (λ (o : Option ℕ). has v (option_to_list o ++ handed (answers_of ms)) ≡ true) is there)
    go more (Some w) is there = first more w is (is_true (w == v)) (subst (λ (o : Option ℕ). has v (option_to_list o ++ handed (answers_of ms)) ≡ true) is there)

module _ (n : Name) (log : List Entry) (distinct : are_distinct (linked_values n.links) ≡ true) (legal : IsLegalList (start n) log) where
  abbrev st : State
  st = start n

  -- whoever found a value that is gone has parted since
  gone_parted : (v : ℕ) → has v (after st log).gone ≡ true → AllParted st log v
  gone_parted v gone s i found =
      let told : (after st log).gone ≡ handed (answers_of (moments st log)) = law_gone n.slots n.links (events_of log) _ _ distinct (as_legal st log legal) in
      let by = handed_by v (moments st log) (subst (λ (vs : List ℕ). has v vs ≡ true) told gone) in let m = by.1 in
      let parted = (law_protection n.slots n.links (events_of log) _ _ distinct (as_legal st log legal) s v i by.0 found by.1).1 in
      let within : by.0 < length (moments st log) = slice_get_within (moments st log) by.0 m.0 m.1 in let long = moments_length st (deeds log) in
      (parted.0, parted.1, omega (arith, parted.2, within, long), parted.3)

  pub gone_over : (v a : ℕ) → has v (after st log).gone ≡ true → Reader st log v a → IsAmong (ended_lives log) a
  gone_over v a gone = all_over st log v legal (gone_parted v gone) a

  pub found_stands : (v a : ℕ) → Reader st log v a → ¬ (IsAmong (ended_lives log) a) → has v (after st log).gone ≡ false
  found_stands v a reader_ lasts = go (is_true (has v (after st log).gone))
    where
      go : (has v (after st log).gone ≡ true) ⊎ (has v (after st log).gone ≡ false) → has v (after st log).gone ≡ false
      go (inl gone) = absurd (lasts (gone_over v a gone reader_))
      go (inr stands) = stands
