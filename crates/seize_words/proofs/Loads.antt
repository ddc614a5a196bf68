-- Loads of a field by a slot's holder: what the word showed.
use Rattle.std.proofs.Common.{◌≡◌, ℕ, ◌<◌, true, unwrap_or, List, [], ◌∷◌, ◌++◌, length, Option, Some, refl, sym, ◌∙◌, ap, subst, arith}
use Rattle.seize_machine.specs.Machine.State.{State, Rest, linked_values, are_distinct}
use Rattle.std.specs.Prelude.{slice_index_or}
use Rattle.seize_machine.specs.Machine.Laws.{IsHeld, walk_of}
use Rattle.seize_machine.specs.Machine.History.{first_or_none}
use Rattle.seize_machine.proofs.Facts.{Stands, held_full}
use Rattle.seize_book.specs.Blocks.{front_of, no_plan, Plan, block_for, block_number, list_word, plans}
use Rattle.seize_book.specs.Book.{HolderKnows, IsLegalList, TheSlot, after, rules}
use Rattle.seize_book.specs.Chains.{IsChain, field_value, first_field, insertion_value, next_field}
use Rattle.seize_book.specs.Entry.{Entry}
use Rattle.seize_words.specs.Headers.{IsFrontBlock, IsPassing}
use Rattle.seize_book.specs.Homes.{home_of}
use Rattle.seize_book.specs.Ledger.{HeldKey, HoldersKnow}
use Rattle.seize_book.specs.Slots.{IsKeyOfBook, own_list, slot_number, start_of}
use Rattle.seize_words.specs.Stepping.{LooksAt}
use Rattle.seize_book.specs.Tokens.{Name, start}
use Rattle.seize_book.specs.declared.book.pass.Pass.{Pass}
use Rattle.seize_book.specs.declared.book.slot_key.SlotKey.{SlotKey}
use Rattle.seize_book.proofs.Facts.{reached_after, walking_there, AllLess, blocks_stay, plan_stays, plans_long, held_values, walked_held, one_kept}
use Rattle.seize_words.proofs.Uses.{at_field, own_legal, served_stays, shown}

module _ (f : ℕ) (key : SlotKey) (pass pass' : Pass) (v : ℕ) (looks : LooksAt (at_field pass.name f) pass.id pass.seen pass'.seen key.keys.held v) (book : IsKeyOfBook key pass) where
  abbrev n : Name
  n = pass.name

  abbrev s : ℕ
  s = slot_number key

  abbrev own : List Entry
  own = own_list key

  abbrev log : List Entry
  log = pass'.seen

  abbrev now : State
  now = after (start n) log

  kept : HolderKnows (start n) TheSlot s own log
  kept = one_kept (start n) key.keys.held log key.one (subst (λ (vs : List (HeldKey Entry)). HoldersKnow (rules (start n)) (vs ++ key.keys.held) log) looks.found.stands looks.found.before.kept.1)

  distinct : are_distinct (linked_values n.links) ≡ true
  distinct = looks.found.distinct

  legal : IsLegalList (start n) log
  legal = looks.found.before.legal

  pub loaded : v ≡ field_value log f
  loaded = shown n f v pass.id pass.seen key.keys.held looks.since log looks.found

  module _ (which : ℕ → ℕ) (w : IsPassing (start n) s own which f) where
    stands_now : Stands now s (Rest [] (w.batch ∷ w.walk)) w.queue
    stands_now = ap (λ slot. slot.call) (sym kept.1.1) ∙ w.walking

    chain : IsChain (plans (start n) log) (field_value log) s (w.batch ∷ w.walk)
    chain = subst (λ call. IsChain (plans (start n) log) (field_value log) s (walk_of call)) stands_now (looks.found.before.chained s).1

    there : AllLess (length (after (start n) own).batches) (w.batch ∷ w.walk)
    there =
        let own_legal' = own_legal n f s own log distinct legal kept in
        subst (λ call. AllLess (length (after (start n) own).batches) (walk_of call)) w.walking (walking_there (after (start n) own) (reached_after n own distinct own_legal') s)

    planned : AllLess (length (plans (start n) own)) (w.batch ∷ w.walk)
    planned = subst (λ (k : ℕ). AllLess k (w.batch ∷ w.walk)) (sym (plans_long n own (own_legal n f s own log distinct legal kept))) there

    field_now : f ≡ which (home_of (insertion_value (plans (start n) log) w.batch s))
    field_now = w.its ∙ ap (λ (u : ℕ). which (home_of u)) (served_stays n f s own log distinct legal kept w.batch s there.0)

  pub shows_next : (w : IsPassing (start_of key) s own next_field f) → v ≡ list_word (λ b. block_for (start_of key) own b s) w.walk
  shows_next = subst (λ (z : Name). (w : IsPassing (start z) s own next_field f) → v ≡ list_word (λ b. block_for (start z) own b s) w.walk) (sym book)
      (λ w. loaded ∙ ap (field_value log) (field_now next_field w) ∙ (chain next_field w).0.0 ∙ sym (blocks_stay n own log s w.walk kept.0 (planned next_field w).1))

  -- the batch that is to be counted down has values, and so a front
  has_first : (xs : List ℕ) → 0 < length xs → (x : ℕ) × (first_or_none xs ≡ Some x)
  has_first [] full = absurd (omega (arith, full))
  has_first (x ∷ xs) full = (x, refl)

  module _ (w : IsPassing (start n) s own first_field f) where
    abbrev plan_then : List Entry → Plan
    plan_then list = slice_index_or (plans (start n) list) w.batch no_plan

    held : IsHeld now w.batch
    held = walked_held now s w.batch w.walk w.queue (stands_now first_field w)

    front : (x : ℕ) × (first_or_none (plan_then log).values ≡ Some x)
    front = has_first (plan_then log).values (subst (λ (values : List ℕ). 0 < length values) (held_values n log distinct legal w.batch held) (held_full now (reached_after n log distinct legal) w.batch held))

    shown_front : (front_of (start n) own w.batch ≡ Some front.0) × (v ≡ block_number front.0)
    shown_front = (
      ap (λ (plan : Plan). first_or_none plan.values) (plan_stays (start n) own log w.batch kept.0 (planned first_field w).0) ∙ front.1,
      loaded ∙ ap (field_value log) (field_now first_field w) ∙ (chain first_field w).0.1 ∙ ap (λ (o : Option ℕ). block_number (unwrap_or o 0)) front.1,
    )

  pub shows_first : (w : IsPassing (start_of key) s own first_field f) → IsFrontBlock key w.batch v
  shows_first = subst (λ (z : Name). (w : IsPassing (start z) s own first_field f) → (x : ℕ) × (front_of (start z) own w.batch ≡ Some x) × (v ≡ block_number x)) (sym book)
      (λ w. let its = shown_front w in ((front w).0, its.0, its.1))
