use Rattle.std.proofs.Common.{◌≡◌, ◌<◌, ◌≤◌, ℕ, true, None, get_or, length}
use Rattle.std.specs.List.{range_with_len}
use Rattle.std.specs.Option.{is_none}
use Rattle.seize_book.specs.Tokens.{IsSole}
use Rattle.seize_words.specs.Joined.{words_book}
use Rattle.seize_calls.specs.Slots.{IsPassOf}
use Rattle.seize_alone.specs.Reclaiming.{parts_in_turn}
use Rattle.seize_parts.specs.Aparts.{Goes, KeepsAside, MayDrain, MayGo}
use Rattle.seize_parts.specs.Numbers.{AreSlots}
use Rattle.seize_parts.specs.Sweeps.{KeepsFree}
use Rattle.seize_parts.proofs.numbers.Numbers.part_all.Given as goal

abbrev pub invariant-loop-n : goal.invariant-loop-n
invariant-loop-n g l =
    AreSlots l.self × KeepsFree l.fn.self l.self × IsPassOf l.words l.pass × IsSole l.pass.id × KeepsAside l.fn.aside l.aside × MayDrain g.row.T.coded.code (words_book l.words) l.aside.queue × (length l.places.items ≡ length l.fn.places.items)
    × ((s : ℕ) → s < l.n → get_or l.places.items s None ≡ None) × ((s : ℕ) → l.n ≤ s → get_or l.places.items s None ≡ get_or l.fn.places.items s None)
    × ((s : ℕ) → s < l.n → is_none (get_or l.self.kept.items s None) ≡ is_none (get_or l.fn.places.items s None)) × ((s : ℕ) → l.n ≤ s → is_none (get_or l.self.kept.items s None) ≡ true)
    × Goes g.row.T.coded.code g.R.Puts.puts g.W.Watch.told (MayGo l.fn.pass l.fn.places.items) (λ st. parts_in_turn st (range_with_len 0 l.n)) l.fn.pass l.pass (g.W.Watch.seen l.fn.aside.watch.now) (g.W.Watch.seen l.aside.watch.now) l.fn.aside.queue l.aside.queue
