use Rattle.std.proofs.Common.{◌≡◌, Bool, true, sym, subst}
use Rattle.seize_machine.specs.Machine.Event.{ReadHead}
use Rattle.seize_book.specs.Adding.{private}
use Rattle.seize_book.specs.Slots.{slot_number}
use Rattle.seize_words.specs.Reservations.{slot}
use Rattle.seize_words.proofs.Facts.{knows_noted}
use Rattle.seize_calls.specs.Inserts.{InsertsAtSlot}
use Rattle.seize_calls.proofs.Sole.{sole_same}
use Rattle.seize_calls.proofs.Turns.{at_try, skipped, turns_begin, won_turn}
use Rattle.seize_calls.proofs.manner.AloneManner.insert.Goals as goal

pub returns-then-seen-eq0-clause-knows : goal.returns-then-seen-eq0-clause-knows
returns-then-seen-eq0-clause-knows c =
    let read = c.read-seen in let key = c.args.key.now in let pass = c.args.pass.now in
    knows_noted key read.new.key pass read.new.pass (private pass (ReadHead (slot_number key) (slot c.args.head.now))) read.ensures.noted

pub returns-then-seen-eq0-clause-inserted : goal.returns-then-seen-eq0-clause-inserted
returns-then-seen-eq0-clause-inserted c = λ here. let read = c.read-seen in
    skipped here c.requires.book (turns_begin here.at c.args.pass.now) read.ensures.noted read.ensures.shows c.if-seen-eq0.true

pub try_once-requires-clause-at : goal.try_once-requires-clause-at
try_once-requires-clause-at c = let here = c.requires.here in let read = c.read-seen in
    at_try here c.requires.book (turns_begin here.at c.args.pass.now) read.ensures.noted read.ensures.shows c.if-seen-eq0.false

pub returns-clause-inserted : goal.returns-clause-inserted
returns-clause-inserted c = λ here.
    let read = c.read-seen in let pass = c.args.pass.now in let by = c.try_once in let begins = turns_begin here.at pass in
    let tries = at_try here c.requires.book begins read.ensures.noted read.ensures.shows c.if-seen-eq0.false in
    let won : by.result ≡ true = by.ensures.alone (sole_same pass read.new.pass read.ensures.noted.0 c.requires.may) read.ensures.shows in
    subst (λ (w : Bool). InsertsAtSlot here.at pass by.new.key by.new.pass w) (sym won)
    (won_turn here c.requires.book begins read.ensures.noted read.ensures.shows c.if-seen-eq0.false (by.ensures.tried tries) won)
