use Rattle.seize_book.specs.Slots.{slot_number, slot_of}
use Rattle.seize_book.proofs.Detaches.{detaches, detaches_open}
use Rattle.seize_book.proofs.book.slot_key.SlotKey.detach.Goals as goal

pub add-requires-clause-open : goal.add-requires-clause-open
add-requires-clause-open c = let key = c.args.self.now in λ st slot active. detaches_open c.args.pass.now.size (slot_of key) st (slot_number key) c.requires.next slot

pub returns-clause-batch : goal.returns-clause-batch
returns-clause-batch c = detaches c.args.self.now c.add.new.self c.args.pass.now c.add.new.pass c.requires.book c.requires.next c.add.ensures.noted
