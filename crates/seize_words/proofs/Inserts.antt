-- What a slot's call knows that has detached its batch and has still to insert it: the values of the batch were named, so the blocks with
-- which it is inserted are found by their numbers. These facts are for callers.
use Rattle.std.proofs.Common.{◌≡◌, ℕ, true, List, ◌∷◌, Some, refl, sym, ap, subst, inr, zero, arith}
use Rattle.std.specs.List.{Contains}
use Rattle.seize_machine.specs.Machine.State.{Look, are_distinct, has, linked_values}
use Rattle.seize_machine.specs.Machine.History.{IsReached}
use Rattle.seize_machine.specs.Machine.Laws.{detached_by}
use Rattle.seize_book.specs.Blocks.{plans}
use Rattle.seize_book.specs.Book.{IsLegalList, after}
use Rattle.seize_book.specs.Chains.{insertion_value}
use Rattle.seize_book.specs.Homesteads.{state_seen}
use Rattle.seize_book.specs.Slots.{IsKeyOfBook, own_list, slot_number, slot_of, start_of}
use Rattle.seize_book.specs.Tokens.{Name, start}
use Rattle.seize_words.specs.Walks.{Knows}
use Rattle.seize_book.specs.declared.book.pass.Pass.{Pass}
use Rattle.seize_book.specs.declared.book.slot_key.SlotKey.{SlotKey}
use Rattle.seize_words.proofs.Finds.{held_living, values_of}
use Rattle.seize_book.proofs.Facts.{reached_after, legal_prefix, AtAll, CallMarked, marked_after, serving_in, slots_in, named_later}

module _ (key : SlotKey) (pass : Pass) (book : IsKeyOfBook key pass) (knows : Knows key pass) where
  legal : IsLegalList (start_of key) pass.seen
  legal = subst (λ (n : Name). IsLegalList (start n) pass.seen) (sym book) knows.legal

  distinct : are_distinct (linked_values key.keys.name.links) ≡ true
  distinct = subst (λ (n : Name). are_distinct (linked_values n.links) ≡ true) (sym book) knows.distinct

  its_own : IsLegalList (start_of key) (own_list key)
  its_own = legal_prefix (start_of key) (own_list key) pass.seen knows.seen legal

  -- the machine has come to where the key last knew it
  pub own_reached : IsReached (after (start_of key) (own_list key))
  own_reached = reached_after key.keys.name (own_list key) distinct its_own

  -- a value of the batch
  pub detached_named : (b v : ℕ) → detached_by (slot_of key).call ≡ Some b → Contains (values_of (start_of key) (own_list key) b) v → has v (state_seen pass).named ≡ true
  detached_named b v detached there =
      let living = held_living key.keys.name (own_list key) distinct its_own b v (inr (inr (slot_number key, detached))) there in
      subst (λ (n : Name). has v (after (start n) pass.seen).named ≡ true) book (named_later (start_of key) (own_list key) pass.seen v knows.seen legal living.0)

  -- and that with which it is inserted at the slot in turn
  pub looked_named : (b won m : ℕ) (later queue : List ℕ) → (slot_of key).call ≡ Some (record { place = Look b won m later; queue = queue })
      → has (insertion_value (plans (start_of key) (own_list key)) b m) (state_seen pass).named ≡ true
  looked_named b won m later queue looking =
      let ps = plans (start_of key) (own_list key) in let marked = marked_after key.keys.name (own_list key) distinct its_own in
      let at : AtAll ps b (m ∷ later) = subst (CallMarked ps (slot_number key)) looking (marked.calls (slot_number key)) in
      detached_named b (insertion_value ps b m) (ap detached_by looking)
      (serving_in m (slots_in ps b) (values_of (start_of key) (own_list key) b) (at m (zero, omega arith, refl)) (marked.fits b).1)
