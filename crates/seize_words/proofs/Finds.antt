-- Where a slot's call finds the blocks of its walk: the values that lie in them were named, and were not reclaimed, so a row of the store
-- shows them. These facts are for callers.
use Rattle.std.proofs.Common.{◌≡◌, ℕ, zero, true, false, List, [], ◌∷◌, Option, Some, refl, sym, ◌∙◌, ap, subst, inl, inr, arith}
use Rattle.std.specs.List.{Contains}
use mathlib.Core.List.{IsPrefix}
use Rattle.seize_machine.specs.Machine.State.{State, Rest, has, linked_values, are_distinct}
use Rattle.seize_machine.specs.Machine.History.{first_or_none}
use Rattle.seize_machine.specs.Machine.Laws.{IsHeld, Walks, walk_of}
use Rattle.seize_machine.proofs.Facts.{batched_named}
use Rattle.seize_store.specs.RowTokens.{IsInRow, entry_of, label_in}
use Rattle.seize_store.specs.declared.row_token.RowToken.{RowToken}
use Rattle.seize_book.specs.Blocks.{Plan, block_number, front_of, no_plan, plans}
use Rattle.std.specs.Prelude.{slice_index_or, unwrap_or}
use Rattle.seize_book.specs.Book.{IsLegalList, after}
use Rattle.seize_book.specs.Chains.{insertion_value}
use Rattle.seize_book.specs.Entry.{Entry}
use Rattle.seize_book.specs.Loans.{cell_of}
use Rattle.seize_book.specs.Homes.{home_of}
use Rattle.seize_book.specs.Homesteads.{AreAt, state_seen}
use Rattle.seize_book.specs.Slots.{IsKeyOfBook, own_list, slot_number, slot_of, start_of}
use Rattle.seize_book.specs.Tokens.{Name, chunk_label, start}
use Rattle.seize_book.specs.declared.book.pass.Pass.{Pass}
use Rattle.seize_book.specs.declared.book.slot_key.SlotKey.{SlotKey}
use Rattle.seize_book.proofs.Facts.{held_values, reached_after, legal_prefix, marked_after, serving_in, slots_in, walks_marked, named_later}

-- it was named, and not reclaimed
abbrev pub IsLiving : ℕ → State → Type 0
IsLiving v st = (has v st.named ≡ true) × (has v st.gone ≡ false)

abbrev pub values_of : State → List Entry → ℕ → List ℕ
values_of st log b = (slice_index_or (plans st log) b no_plan).values

pub first_contained : (values : List ℕ) (v : ℕ) → first_or_none values ≡ Some v → Contains values v
first_contained [] v e = absurd (cc)
first_contained (x ∷ values) v e = (zero, omega arith, ap (λ (o : Option ℕ). unwrap_or o 0) e)

module _ (n : Name) (log : List Entry) (distinct : are_distinct (linked_values n.links) ≡ true) (legal : IsLegalList (start n) log) where
  abbrev now : State
  now = after (start n) log

  -- each value of a batch that is held
  pub held_living : (b v : ℕ) → IsHeld now b → Contains (values_of (start n) log b) v → IsLiving v now
  held_living b v held there =
      batched_named now (reached_after n log distinct legal) b v (subst (λ (values : List ℕ). Contains values v) (sym (held_values n log distinct legal b held)) there)

  -- that in whose block a batch waits for the slot that walks it
  pub walked_living : (b s : ℕ) → Walks now s b → IsLiving (insertion_value (plans (start n) log) b s) now
  walked_living b s walks =
      let marked = marked_after n log distinct legal in let ps : List Plan = plans (start n) log in
      held_living b (insertion_value ps b s) (inr (inl (s, walks))) (serving_in s (slots_in ps b) (values_of (start n) log b) (walks_marked now ps s b marked walks) (marked.fits b).1)

  -- and the first one, where the count stands
  pub front_living : (b v s : ℕ) → Walks now s b → front_of (start n) log b ≡ Some v → IsLiving v now
  front_living b v s walks front = held_living b v (inr (inl (s, walks))) (first_contained (values_of (start n) log b) v front)

-- What a slot's call finds whose next batch this is: the pass has seen what its key knows, and the token's row.
module _ (known : RowToken) (key : SlotKey) (pass : Pass) (book : IsKeyOfBook key pass) (grows : IsPrefix (own_list key) pass.seen) (legal : IsLegalList (start pass.name) pass.seen)
    (distinct : are_distinct (linked_values pass.name.links) ≡ true) (homes : AreAt pass.name known (state_seen pass)) (b : ℕ) (walk queue : List ℕ)
    (walking : (slot_of key).call ≡ Some (record { place = Rest [] (b ∷ walk); queue = queue })) where
  abbrev st : State
  st = start pass.name

  abbrev own : List Entry
  own = own_list key

  its_own : IsLegalList st own
  its_own = legal_prefix st own pass.seen grows legal

  walks : Walks (after st own) (slot_number key) b
  walks = subst (λ (z : Name). Walks (after (start z) own) (slot_number key) b) book (subst (λ o. Contains (walk_of o) b) (sym walking) (zero, omega arith, refl))

  -- the label is the home of a living value with this number
  living_home : (v number : ℕ) → number ≡ block_number v → IsLiving v (after st own) → IsInRow number known.row → label_in known.chunks (entry_of number) ≡ chunk_label pass.name (home_of v) (cell_of v)
  living_home v number is living placed =
      let named : has v (state_seen pass).named ≡ true = named_later st own pass.seen v grows legal living.0 in
      ap (λ (k : ℕ). label_in known.chunks (entry_of k)) is
      ∙ (homes v named (subst (λ (k : ℕ). IsInRow k known.row) is placed)).0

  -- the first block of the batch
  pub front_home : (front number : ℕ) → front_of (start_of key) own b ≡ Some front → number ≡ block_number front → IsInRow number known.row
      → label_in known.chunks (entry_of number) ≡ chunk_label pass.name (home_of front) (cell_of front)
  front_home front number is its = living_home front number its (front_living pass.name own distinct its_own b front (slot_number key) walks (subst (λ (z : Name). front_of (start z) own b ≡ Some front) book is))
