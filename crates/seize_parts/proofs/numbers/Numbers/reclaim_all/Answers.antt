use Rattle.std.proofs.Common.{subst}
use Rattle.seize_book.specs.Tokens.{Name}
use Rattle.seize_book.specs.Values.{IsEmptyIn}
use Rattle.seize_calls.specs.Furthers.{further_in}
use Rattle.seize_parts.proofs.Everything.{all_goes}
use Rattle.seize_parts.proofs.numbers.Numbers.reclaim_all.Goals as goal

pub returns-clause-goes : goal.returns-clause-goes
returns-clause-goes g c =
    let pass = c.args.pass.now in let turns = c.reclaim_in_turn.ensures.goes in let queue = c.reclaim_in_turn.new.aside.queue in let W = g.W.Watch in
    let empty = subst (λ (n : Name). IsEmptyIn n (further_in c.args.aside.now.queue)) c.requires.pass.0.0 c.requires.queue in
    all_goes g.row.T.coded g.R.Puts.puts g.R.Puts.weight W.told c.args.places.now.items pass c.reclaim_in_turn.new.pass _ _ c.args.aside.now.queue queue turns empty
    c.drain.new.pass (W.seen c.drain.new.watch) c.requires.pass.2 c.drain.ensures.pass c.drain.ensures.told
