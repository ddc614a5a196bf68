-- Moments of the list between what a pass had seen and what it has seen since.
--     StandsSince pass pass' m     the moment is one of those that the pass has seen since
--     ExchangesOnly s l m       slot s exchanges link l there, and each other link is as it was
--     LooksOnly s l m       slot s reads link l there, or loses an exchange of it: each link is as it was
use Rattle.std.specs.Prelude.{◌≡◌, ◌≢◌, ◌⊎◌, ◌≤◌, ℕ, Some, length, slice_get}
use Rattle.seize_book.specs.declared.book.pass.Pass.{Pass}
use Rattle.seize_machine.specs.Machine.Event.{ExchangeLink, ReadLink}
use Rattle.seize_machine.specs.Machine.History.{Moment}
use Rattle.seize_machine.specs.Machine.State.{link_at}
use Rattle.seize_machine.specs.declared.machine.event.Exchange.{Exchange}
use Rattle.seize_parts.specs.Laws.{moments_seen}

abbrev pub StandsSince : Pass → Pass → Moment → Type 0
StandsSince pass pass' m = (e : ℕ) × (length (moments_seen pass) ≤ e) × (slice_get (moments_seen pass') e ≡ Some m)

abbrev pub ExchangesOnly : ℕ → ℕ → Moment → Type 0
ExchangesOnly s l m = ((x : Exchange) × (m.timed.event ≡ ExchangeLink s l x)) × ((k : ℕ) → k ≢ l → link_at m.after k ≡ link_at m.before k)

abbrev pub LooksOnly : ℕ → ℕ → Moment → Type 0
LooksOnly s l m =
    ((m.timed.event ≡ ReadLink s l) ⊎ ((x : Exchange) × (m.timed.event ≡ ExchangeLink s l x)))
    × ((k : ℕ) → link_at m.after k ≡ link_at m.before k)
