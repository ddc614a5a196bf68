use Rattle.std.proofs.Common.{◌≡◌, ℕ, ◌<◌, [], None, Some, get_or}
use Rattle.std.specs.List.{range_with_len}
use Rattle.seize_book.specs.Tokens.{IsSole}
use Rattle.seize_book.specs.Values.{values_of}
use Rattle.seize_words.specs.Joined.{words_book}
use Rattle.seize_calls.specs.Slots.{IsPassOf, its_batch}
use Rattle.seize_calls.specs.declared.slot.Slot.{Slot}
use Rattle.seize_alone.specs.Reclaiming.{batches_in_turn}
use Rattle.seize_parts.specs.Aparts.{AreKeptOf, Fits, Goes, KeepsAside, MayDrain}
use Rattle.seize_parts.specs.Numbers.{AreSlots}
use Rattle.seize_parts.specs.Sweeps.{AreOff, KeepsActive, KeepsIdle, KeepsOn, KeepsPlaces}
use Rattle.seize_parts.proofs.numbers.Numbers.attempt_all.Given as goal

abbrev pub invariant-loop-n : goal.invariant-loop-n
invariant-loop-n g l =
    AreSlots l.self × KeepsPlaces l.fn.self l.self × IsPassOf l.words l.pass × IsSole l.pass.id × (KeepsOn l.fn.pass l.pass × KeepsActive l.fn.pass l.pass × KeepsIdle l.fn.pass l.pass)
    × (AreOff l.fn.pass → (i : ℕ) → i < l.n → (s : Slot g.row.T.Denot) → get_or l.self.kept.items i None ≡ Some s → values_of (its_batch s) ≡ []) × KeepsAside l.fn.aside l.aside
    × MayDrain g.row.T.coded.code (words_book l.words) l.aside.queue
    × Goes g.row.T.coded.code g.R.Puts.puts g.W.Watch.told (λ st. Fits l.fn.pass st × AreKeptOf l.fn.self.kept.items st) (λ st. batches_in_turn st (range_with_len 0 l.n)) l.fn.pass l.pass (g.W.Watch.seen l.fn.aside.watch.now) (g.W.Watch.seen l.aside.watch.now) l.fn.aside.queue l.aside.queue
