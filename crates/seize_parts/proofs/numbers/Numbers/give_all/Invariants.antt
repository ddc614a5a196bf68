use Rattle.std.proofs.Common.{◌≡◌, ℕ, ◌-◌, ◌≤◌, [], None, get_or, length, reverse}
use Rattle.std.specs.List.{range_with_len}
use Rattle.seize_model.specs.Waiting.State.{ModelState}
use Rattle.seize_book.specs.Others.{rest_of}
use Rattle.seize_book.specs.Tokens.{IsSole}
use Rattle.seize_calls.specs.Slots.{IsPassOf}
use Rattle.seize_alone.specs.Reclaiming.{numbers_in_turn}
use Rattle.seize_parts.specs.Aparts.{AreKeptOf, LeadsHands}
use Rattle.seize_parts.specs.Numbers.{AreSlots}
use Rattle.seize_parts.specs.Sweeps.{AreOff, HaveEmptyBatches, KeepsActive, KeepsHere, KeepsIdle, KeepsOn}
use Rattle.seize_parts.proofs.numbers.Numbers.give_all.Given as goal

abbrev pub invariant-loop-given : goal.invariant-loop-given
invariant-loop-given g l =
    AreSlots l.self × KeepsHere l.fn.self l.self × (length l.self.kept.items ≡ l.many) × IsPassOf l.words l.pass × IsSole l.pass.id × (KeepsOn l.fn.pass l.pass × KeepsActive l.fn.pass l.pass × KeepsIdle l.fn.pass l.pass)
    × (AreOff l.fn.pass → HaveEmptyBatches l.self.kept.items × (rest_of l.self.key ≡ [])) × ((i : ℕ) → l.many - l.given ≤ i → get_or l.self.kept.items i None ≡ None)
    × LeadsHands g.row.T.coded.code (λ st. AreKeptOf l.fn.self.kept.items st) (λ st. numbers_in_turn st (reverse (range_with_len (l.many - l.given) l.given))) l.fn.pass l.pass
    × ((st : ModelState g.row.T.Denot ℕ) → AreKeptOf l.fn.self.kept.items st → AreKeptOf l.self.kept.items (numbers_in_turn st (reverse (range_with_len (l.many - l.given) l.given))))
