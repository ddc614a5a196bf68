use Rattle.std.proofs.Common.{refl}
use Rattle.seize_book.specs.Values.{values_of}
use Rattle.seize_calls.specs.Furthers.{further_in}
use Rattle.seize_calls.specs.Settling.{Drains}
use Rattle.seize_calls.proofs.Chains.{none_all, word_is}
use Rattle.seize_calls.proofs.Laid.{lays_same}
use Rattle.seize_calls.proofs.Alone.{onward_none}
use Rattle.seize_calls.proofs.holder.Holder.drain.Goals as goal

pub returns-then-queue-eq0-clause-drains : goal.returns-then-queue-eq0-clause-drains
returns-then-queue-eq0-clause-drains g c =
    let queue = c.args.queue.now in let values = values_of (further_in queue) in
    record { on = onward_none c.args.self.now.key c.args.pass.now; drains = Drains.over; rests = c.requires.stands.1; none = none_all values (word_is queue.front values queue.its_front c.if-queue-eq0.true) }

pub returns-then-queue-eq0-clause-laid : goal.returns-then-queue-eq0-clause-laid
returns-then-queue-eq0-clause-laid g c = lays_same c.args.pass.now c.args.pass.now c.args.self.now.spots refl
