use Rattle.seize_book.proofs.Apart.{lie_apart}
use Rattle.seize_book.proofs.book.value_keys.ValueKeys.apart.Goals as goal

pub returns : goal.returns
returns c = let keys = c.args.self.now in (c.apart.ensures.0, lie_apart keys.keys.held keys.each c.apart.ensures.1)
