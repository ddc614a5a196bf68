use Rattle.std.proofs.Common.{Some, subst}
use Rattle.std.proofs.lemmas.List.{length-set}
use Rattle.seize_book.specs.Homesteads.{state_seen}
use Rattle.seize_book.specs.Tokens.{Name}
use Rattle.seize_parts.specs.Placing.{IsLeftAt}
use Rattle.seize_parts.proofs.Resting.{left_more}
use Rattle.seize_parts.proofs.numbers.Numbers.find_at.Goals as goal

pub returns-clause-left : goal.returns-clause-left
returns-clause-left g c =
    let items = c.args.places.now.items in let pass = c.args.pass.now in let place = c.in-Some.place in (
      left_more pass items c.args.n place c.requires.places.0 (subst (λ (n : Name). IsLeftAt n (state_seen pass) c.args.n place) c.requires.pass.0.0 c.in-Some.ensures.place),
      length-set items c.args.n (Some place),
    )
