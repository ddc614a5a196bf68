use Rattle.std.proofs.Common.{◌≡◌, ℕ, suc, ◌-◌, false, List, sym, ap, subst, ◌∙◌, arith}
use Rattle.seize_machine.specs.Machine.State.{has}
use Rattle.seize_book.specs.Blocks.{block_number}
use Rattle.seize_book.specs.Book.{after}
use Rattle.seize_book.specs.Entry.{Entry}
use Rattle.seize_book.specs.Homes.{IsVacant, home_of}
use Rattle.seize_book.specs.Ledger.{HeldKey}
use Rattle.seize_book.specs.Loans.{CarriesOne}
use Rattle.seize_book.specs.Others.{value_of}
use Rattle.seize_book.specs.Private.{label_of, own_of}
use Rattle.seize_book.specs.Tokens.{Name, start}
use Rattle.seize_book.specs.Values.{AllNew, book_in}
use Rattle.seize_calls.specs.Numbered.{word_of_first}
use Rattle.seize_calls.proofs.Chains.{first_new}
use Rattle.seize_calls.proofs.further.Further.next.Goals as goal

one_less : (a b : ℕ) → a ≡ suc b → b ≡ a - 1
one_less a b is = omega (arith, is)

-- the key of the first one knows what it knew, whatever was read of its block
pub returns-clause-new : goal.returns-clause-new
returns-clause-new g c = λ new.
    let old = c.args.self.now in let first = c.next-value.result in let rest = c.next-value.new.self in let nexts = c.next-value.ensures in let same = c.note-note.ensures.same in let n = book_in old.values in
    let all = first_new n first.keys.held rest.keys.held first.one (subst (λ (held : List (HeldKey Entry)). AllNew n held) nexts.3 new) in
    let known = subst (λ (t : Name × List (HeldKey Entry)). (has (label_of t.1) (after (start t.0) (own_of t.1)).named ≡ false) × IsVacant (after (start t.0) (own_of t.1)) (home_of (label_of t.1)) × CarriesOne (label_of t.1))
    (λ j. (sym (same.0 ∙ nexts.1) j, sym same.1 j)) (all.0, all.1, all.2) in
    let number = one_less old.front (block_number (value_of first)) (old.its_front ∙ ap word_of_first nexts.2) in
    ((known.0, known.1, ap (λ (held : List (HeldKey Entry)). block_number (label_of held)) same.1 ∙ number), known.2, subst (λ (n : Name). AllNew n rest.keys.held) (sym nexts.0) all.3)
