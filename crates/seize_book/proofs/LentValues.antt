-- With each value that was named something is lent: what the holder of a key knows by a look.
use Rattle.std.proofs.Common.{◌≡◌, true, subst}
use Rattle.seize_machine.specs.Machine.State.{has}
use Rattle.seize_book.specs.Book.{after}
use Rattle.seize_book.specs.Homesteads.{state_seen}
use Rattle.seize_book.specs.Lending.{IsLentKey}
use Rattle.seize_book.specs.Others.{book_of, value_of}
use Rattle.seize_book.specs.Passes.{LooksOn}
use Rattle.seize_book.specs.Tokens.{Name, start}
use Rattle.seize_book.specs.declared.book.pass.Pass.{Pass}
use Rattle.seize_book.specs.declared.book.value_key.ValueKey.{ValueKey}

-- its value was named, as the pass has seen by then
pub named_lent : (value : ValueKey) (pass pass' : Pass) → LooksOn pass pass' → book_of value ≡ pass'.name → has (value_of value) (state_seen pass').named ≡ true → IsLentKey value
named_lent value pass pass' looks book named =
    looks.lent (value_of value) (subst (λ (n : Name). has (value_of value) (after (start n) pass'.seen).named ≡ true) looks.same.0 named)
