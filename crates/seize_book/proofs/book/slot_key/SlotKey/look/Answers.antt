use Rattle.seize_book.proofs.Private.{one_within}
use Rattle.seize_book.proofs.Moves.{stays}
use Rattle.seize_book.proofs.book.slot_key.SlotKey.look.Goals as goal

pub look-requires : goal.look-requires
look-requires c = let key = c.args.self.now in (c.requires.book, one_within key.keys.held key.one)

pub returns : goal.returns
returns c =
    let key = c.args.self.now in let pass = c.args.pass.now in
    record {
      looked = stays key _ pass c.look.new.pass c.requires.book c.look.ensures key.one;
    }
