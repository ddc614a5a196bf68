use Rattle.std.proofs.Common.{sym, ◌∙◌}
use Rattle.seize_machine.specs.Machine.Event.{ReadHead}
use Rattle.seize_book.specs.Adding.{private}
use Rattle.seize_words.specs.Reservations.{slot}
use Rattle.seize_book.specs.Slots.{slot_number}
use Rattle.seize_words.proofs.Facts.{knows_noted}
use Rattle.seize_calls.proofs.Keeps.{keeps_book}
use Rattle.seize_calls.proofs.Turns.{at_try, keeps_read, lost_turn, may_read, reads_again, skipped, turns_begin, won_turn}
use Rattle.seize_calls.proofs.manner.BesideManner.insert.Goals as goal

pub loop-init : goal.loop-init
loop-init g c = λ here. turns_begin here.at c.args.pass.now

pub read-seen-requires-clause-book : goal.read-seen-requires-clause-book
read-seen-requires-clause-book g c = let here = c.requires.here in may_read here c.requires.book (c.loop.invariant here)

pub read-seen-requires-clause-reads : goal.read-seen-requires-clause-reads
read-seen-requires-clause-reads g c = let here = c.requires.here in reads_again here c.requires.book (c.loop.invariant here)

pub returns-then-seen-eq0-clause-knows : goal.returns-then-seen-eq0-clause-knows
returns-then-seen-eq0-clause-knows g c =
    let read = c.read-seen in
    knows_noted c.loop.key read.new.key c.loop.pass read.new.pass (private c.loop.pass (ReadHead (slot_number c.loop.key) (slot c.args.head.now))) read.ensures.noted

pub returns-then-seen-eq0-clause-inserted : goal.returns-then-seen-eq0-clause-inserted
returns-then-seen-eq0-clause-inserted g c = λ here. let read = c.read-seen in
    skipped here c.requires.book (c.loop.invariant here) read.ensures.noted read.ensures.shows c.if-seen-eq0.true

pub try_once-requires-clause-book : goal.try_once-requires-clause-book
try_once-requires-clause-book g c =
    let here = c.requires.here in let book = c.requires.book in let read = c.read-seen in
    let keeps = keeps_read here book (c.loop.invariant here) read.ensures.noted read.ensures.shows in
    (keeps_book c.args.key.now read.new.key c.args.pass.now read.new.pass keeps book.0, book.1 ∙ sym keeps.on.same.0, book.2 ∙ sym keeps.on.same.0)

pub try_once-requires-clause-at : goal.try_once-requires-clause-at
try_once-requires-clause-at g c = let here = c.requires.here in let read = c.read-seen in
    at_try here c.requires.book (c.loop.invariant here) read.ensures.noted read.ensures.shows c.if-seen-eq0.false

pub returns-then-try_once-clause-inserted : goal.returns-then-try_once-clause-inserted
returns-then-try_once-clause-inserted g c = λ here.
    let book = c.requires.book in let r = c.loop.invariant here in let read = c.read-seen in let some = c.if-seen-eq0.false in
    won_turn here book r read.ensures.noted read.ensures.shows some (c.try_once.ensures.tried (at_try here book r read.ensures.noted read.ensures.shows some)) c.if-try_once.true

pub loop-preserved : goal.loop-preserved
loop-preserved g c = λ here.
    let book = c.requires.book in let r = c.loop.invariant here in let read = c.read-seen in let some = c.if-seen-eq0.false in
    lost_turn here book r read.ensures.noted read.ensures.shows some (c.try_once.ensures.tried (at_try here book r read.ensures.noted read.ensures.shows some)) c.if-try_once.false
