use Rattle.std.proofs.Common.{ap, ◌∙◌}
use Rattle.seize_machine.specs.Machine.Frames.{used}
use Rattle.seize_machine.specs.Machine.State.{State}
use Rattle.seize_book.specs.Book.{after}
use Rattle.seize_book.specs.Tokens.{Name, start}
use Rattle.seize_book.proofs.Moves.{looks_on}
use Rattle.seize_book.proofs.Numbers.{looked_grows, looked_numbers, looked_state, numbers_within}
use Rattle.seize_book.proofs.book.numbers_key.NumbersKey.look.Goals as goal

pub look-requires : goal.look-requires
look-requires c = let key = c.args.self.now in (c.requires.book, numbers_within key.keys.held key.one)

pub returns-clause-looks : goal.returns-clause-looks
returns-clause-looks c =
    let key = c.args.self.now in let pass = c.args.pass.now in let looks = c.look.ensures in let pass' = c.look.new.pass in
    (looks_on key.keys _ pass pass' looks, looks.1, looked_grows key pass pass' _ c.requires.book looks)

pub returns-clause-used : goal.returns-clause-used
returns-clause-used c =
    let key = c.args.self.now in let pass = c.args.pass.now in let looks = c.look.ensures in let pass' = c.look.new.pass in
    let known = (looked_numbers key pass pass' _ c.requires.book looks).0 in
    (ap (λ (n : Name). used (after (start n) pass'.seen)) looks.0.0 ∙ known, ap used (looked_state key pass pass' _ c.requires.book looks) ∙ known)

pub returns-clause-rest : goal.returns-clause-rest
returns-clause-rest c =
    let key = c.args.self.now in let pass = c.args.pass.now in let looks = c.look.ensures in let pass' = c.look.new.pass in
    let known = (looked_numbers key pass pass' _ c.requires.book looks).1 in (
      ap (λ (n : Name). (after (start n) pass'.seen).rest) looks.0.0 ∙ known,
      ap (λ (st : State). st.rest) (looked_state key pass pass' _ c.requires.book looks) ∙ known,
    )
