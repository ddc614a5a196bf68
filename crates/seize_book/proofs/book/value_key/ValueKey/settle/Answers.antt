use Rattle.seize_book.proofs.Moves.{looks_on}
use Rattle.seize_book.proofs.Renames.{settled}
use Rattle.seize_book.proofs.book.value_key.ValueKey.settle.Goals as goal

pub returns-clause-looks : goal.returns-clause-looks
returns-clause-looks c = looks_on c.args.self.now.keys c.look.new.self c.args.pass.now c.look.new.pass c.look.ensures

pub returns-clause-next : goal.returns-clause-next
returns-clause-next c = let told = c.look.ensures in settled c.args.self.now c.args.pass.now c.look.new.pass.seen c.look.new.self c.requires.book told.2 told.1.0 told.1.1 c.requires.handed
