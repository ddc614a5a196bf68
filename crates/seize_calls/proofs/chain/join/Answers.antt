use Rattle.std.proofs.Common.{◌≡◌, List, [], sym, ap, subst, ◌∙◌}
use Rattle.seize_book.specs.Entry.{Entry}
use Rattle.seize_book.specs.Ledger.{HeldKey}
use Rattle.seize_book.specs.Linked.{next_in}
use Rattle.seize_book.specs.Others.{book_of}
use Rattle.seize_book.specs.Private.{note_of}
use Rattle.seize_book.specs.Tokens.{Name}
use Rattle.seize_book.specs.Values.{AllNew}
use Rattle.seize_words.proofs.Facts.{last_closes, noted_one}
use Rattle.seize_calls.proofs.Chains.{new_append, new_noted}
use Rattle.seize_calls.proofs.chain.join.Goals as goal

pub returns-clause-closed : goal.returns-clause-closed
returns-clause-closed g c =
    let one = c.set_note in
    last_closes c.lead_on.new.values one.new.self c.push.new.self c.push.ensures (ap next_in (ap note_of one.ensures.1 ∙ (noted_one c.args.value.keys.held _ c.args.value.one).2))

pub returns-clause-new : goal.returns-clause-new
returns-clause-new g c = λ all its.
    let value = c.args.value in let one = c.set_note in let led = c.lead_on.new.values in let book = book_of value in
    let same : book ≡ led.keys.name = c.requires.book.1 ∙ sym c.requires.book.0 ∙ sym c.lead_on.ensures.leads.0 in
    subst (λ (t : Name × List (HeldKey Entry)). AllNew t.0 t.1) (λ i. (sym c.push.ensures.0 i, sym c.push.ensures.2 i))
    (new_append led.keys.name led.keys.held one.new.self.keys.held (c.lead_on.ensures.new all)
    (subst (λ (t : Name × List (HeldKey Entry)). AllNew t.0 t.1) (λ i. (same i, sym one.ensures.1 i)) (new_noted book [] value.keys.held _ its)))
