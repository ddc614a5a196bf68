-- What is known after a slot's head came out: its call walks the batches that the word shows.
use Rattle.std.proofs.Common.{◌≡◌, ℕ, Bool, true, false, if◌then◌else◌, List, [], ◌∷◌, ◌++◌, Some, refl, sym, ◌∙◌, ap, subst}
use Rattle.std.proofs.lemmas.List.{get_or-set_same}
use mathlib.Core.List.{IsPrefix}
use Rattle.seize_machine.specs.Machine.State.{State, Slot, Head, Inactive, Active, Out, Rest, no_slot, slot_at, head_at, is_active, waiting_at}
use Rattle.seize_machine.specs.Machine.Event.{SwapOut}
use Rattle.seize_machine.specs.Machine.History.{IsReached}
use Rattle.seize_machine.specs.Machine.Next.{next, set_head}
use Rattle.seize_machine.specs.declared.machine.event.Answer.{Answer}
use Rattle.seize_machine.specs.declared.machine.event.Answer.TheVariants.{Done}
use Rattle.seize_machine.proofs.Facts.{Stands, Step, go_on, next_of, out_active, some_is}
use Rattle.seize_words.specs.Atomic.{TakesStep, entries}
use Rattle.seize_book.specs.Blocks.{block_for, list_word, word_of}
use Rattle.seize_book.specs.Book.{HolderKnows, TheSlot, after, heads, rules}
use Rattle.seize_book.specs.Entry.{Entry}
use Rattle.seize_book.specs.Ledger.{HeldKey, HoldersKnow}
use Rattle.seize_book.specs.Slots.{IsKeyOfBook, own_list, slot_number, slot_of, start_of}
use Rattle.seize_book.specs.Tokens.{Name, start}
use Rattle.seize_book.specs.declared.book.pass.Pass.{Pass}
use Rattle.seize_book.specs.declared.book.slot_key.SlotKey.{SlotKey}
use Rattle.seize_words.proofs.Counting.{in_slots}
use Rattle.seize_words.proofs.Heads.{at_head, found_word}
use Rattle.seize_book.proofs.Facts.{reached_after, AllLess, blocks_stay, plans_long, waiting_there, one_kept, equal}
use Rattle.seize_words.proofs.Stepped.{moved}

shows_list : (block : ℕ → ℕ) (h : Head) → is_active h ≡ true → word_of block h ≡ list_word block (waiting_at h)
shows_list block (Active waiting) on = refl
shows_list block Inactive on = absurd (cc)

module _ (m : ℕ) (key key' : SlotKey) (pass pass' : Pass) (f : ℕ → ℕ) (v life : ℕ) (told : TakesStep (at_head pass.name m) key.keys pass key'.keys pass' [] f v (entries pass life (λ v log. SwapOut (slot_number key))) (λ _. false)) (book : IsKeyOfBook key pass)
    (own : slot_number key ≡ m) (stays : Bool) (queue : List ℕ) (out : Stands (after (start pass.name) (own_list key)) (slot_number key) (Out stays) queue) where
  abbrev st : State
  st = start pass.name

  abbrev log : List Entry
  log = told.2.log

  abbrev now : State
  now = after st log

  abbrev s : ℕ
  s = slot_number key

  kept : HolderKnows st TheSlot s (own_list key) log
  kept = one_kept st key.keys.held log key.one (subst (λ (vs : List (HeldKey Entry)). HoldersKnow (rules st) (vs ++ key.keys.held) log) told.2.found.stands told.2.found.before.kept.1)

  reached : IsReached now
  reached = reached_after pass.name log told.2.found.distinct told.2.found.before.legal

  stands : Stands now s (Out stays) queue
  stands = ap (λ (slot : Slot). slot.call) (sym kept.1.1) ∙ out

  abbrev walk : List ℕ
  walk = waiting_at (head_at now s)

  abbrev left_head : State
  left_head = set_head now s (if stays then Active [] else Inactive)

  abbrev then_ : State × Answer
  then_ = (go_on left_head s (record { place = Rest [] walk; queue = queue }), Done)

  comes : (told.2.noted.later, told.2.noted.answer) ≡ then_
  comes =
      some_is _ _ (sym (subst (λ (l : List Entry). next pass.size (after st l) (SwapOut s) ≡ Some (told.2.noted.later, told.2.noted.answer)) told.2.is_log told.2.noted.does)
      ∙ next_of pass.size now (SwapOut s) then_ (Step.swapped_out s stays queue stands))

  shown : v ≡ list_word (λ b. block_for st pass'.seen b m) walk
  shown =
      let there = subst (λ (k : ℕ). AllLess k walk) (sym (plans_long pass.name log told.2.found.before.legal)) (waiting_there now reached s) in
      let grows : IsPrefix log pass'.seen = (_, ap (λ (l : List Entry). l ++ _ ∷ []) (sym told.2.is_log) ∙ sym told.2.noted.appended) in
      found_word pass.name m v pass.id pass.seen key.keys.held told.2.since log told.2.found
      ∙ ap (λ (k : ℕ). word_of (λ b. block_for st log b m) (head_at now k)) (sym own)
      ∙ shows_list (λ b. block_for st log b m) (head_at now s) (out_active now s stays queue reached stands)
      ∙ blocks_stay pass.name log pass'.seen m walk grows there

  pub walks_on : (walk : List ℕ) × ((slot_of key').call ≡ Some (record { place = Rest [] walk; queue = queue })) × (v ≡ list_word (λ b. block_for (start_of key') (own_list key') b m) walk)
  walks_on =
      let parts = moved heads m key key' pass pass' f v life (λ v log. SwapOut s) told told.2.found.stands (equal (slot_number key) (slot_number key) refl) book in
      let after_it : Slot = record (slot_at now s) { call = Some (record { place = Rest [] walk; queue = queue }) } in (
        walk,
        ap (λ (slot : Slot). slot.call) (parts.1.is ∙ ap (λ (d : State × Answer). slot_at d.0 s) comes ∙ get_or-set_same now.slots s after_it no_slot (in_slots now s (Out stays) queue stands)),
        shown ∙ ap (λ (t : Name × List Entry). list_word (λ b. block_for (start t.0) t.1 b m) walk) (λ j. (sym (told.1 ∙ book) j, sym parts.0.2 j)),
      )
