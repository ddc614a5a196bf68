use Rattle.std.proofs.Common.{◌≡◌, true, List, [], ◌++◌, sym, ap, subst, ◌∙◌}
use Rattle.seize_book.specs.Entry.{Entry}
use Rattle.seize_book.specs.Ledger.{HeldKey}
use Rattle.seize_book.specs.Linked.{are_joined}
use Rattle.seize_calls.proofs.Rounds.{all_closed}
use Rattle.seize_calls.proofs.round.Round.end.Goals as goal

pub returns-clause-all : goal.returns-clause-all
returns-clause-all c =
    let round = c.args.self in let done = round.done.keys.held in let rest = round.rest.keys.held in let one = c.append.ensures in let two = c.append-2.ensures in
    let book = two.0 ∙ one.0 ∙ c.requires.book.0.0 in
    let held = two.2 ∙ ap (λ (a : List (HeldKey Entry)). a ++ rest) (one.2 ∙ ap (λ (a : List (HeldKey Entry)). a ++ done) c.requires.book.0.1) in
    let closed = all_closed done rest round.leads (round.closed) in
    (book, held, subst (λ (held : List (HeldKey Entry)). are_joined held [] ≡ true) (sym held) closed)
