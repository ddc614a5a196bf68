-- A slot's holder knows that the values of the slot's batch were named, so their blocks are found by their numbers.
use Rattle.std.proofs.Common.{◌≡◌, ℕ, List, true, sym, subst}
use Rattle.std.specs.List.{Contains}
use Rattle.seize_machine.specs.Machine.State.{has}
use Rattle.seize_machine.proofs.Appended.{appended_named}
use Rattle.seize_book.specs.Book.{IsLegalList, after}
use Rattle.seize_book.specs.Homesteads.{state_seen}
use Rattle.seize_book.specs.Slots.{IsKeyOfBook, own_list, slot_number, slot_of, start_of}
use Rattle.seize_book.specs.Tokens.{Name, start}
use Rattle.seize_words.specs.Walks.{Knows}
use Rattle.seize_book.specs.declared.book.pass.Pass.{Pass}
use Rattle.seize_book.specs.declared.book.slot_key.SlotKey.{SlotKey}
use Rattle.seize_words.proofs.Facts.{named_later, own_reached}

abbrev pub AreNamed : List ℕ → Pass → Type 0
AreNamed values pass = (v : ℕ) → Contains values v → has v (state_seen pass).named ≡ true

pub batch_named : (key : SlotKey) (pass : Pass) → IsKeyOfBook key pass → Knows key pass → AreNamed (slot_of key).batch pass
batch_named key pass book knows v there =
    subst (λ (n : Name). has v (after (start n) pass.seen).named ≡ true) book
    (named_later (start_of key) (own_list key) pass.seen v knows.seen (subst (λ (n : Name). IsLegalList (start n) pass.seen) (sym book) knows.legal)
    (appended_named (after (start_of key) (own_list key)) (own_reached key pass book knows) (slot_number key) v there))
