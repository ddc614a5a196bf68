use Rattle.seize_book.specs.Tokens.{IsSole}
use Rattle.seize_calls.specs.Slots.{IsPassOf}
use Rattle.seize_words.specs.Joined.{words_book}
use Rattle.seize_parts.specs.Aparts.{KeepsAside, MayDrain}
use Rattle.seize_parts.specs.Numbers.{AreSlots}
use Rattle.seize_parts.specs.Sweeps.{KeepsFree, KeepsHere, KeepsIdle, KeepsOff, KeepsOn}
use Rattle.seize_parts.proofs.numbers.Numbers.recover_all.Given as goal

abbrev pub invariant-loop-n : goal.invariant-loop-n
invariant-loop-n g l =
    AreSlots l.self × KeepsHere l.fn.self l.self × KeepsFree l.fn.self l.self × IsPassOf l.words l.pass × IsSole l.pass.id × (KeepsOn l.fn.pass l.pass × KeepsOff l.fn.pass l.pass × KeepsIdle l.fn.pass l.pass)
    × KeepsAside l.fn.aside l.aside × MayDrain g.row.T.coded.code (words_book l.words) l.aside.queue
