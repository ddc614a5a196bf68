-- Where the number is in a state of the machine.
--     ShowsNumber old new st number     it is in the old link, if that is not marked, and else in the new one
use Rattle.std.specs.Prelude.{◌≡◌, ◌⊎◌, ℕ, Option}
use Rattle.seize.specs.Machine.State.{State, link_at}
use Rattle.seize.specs.Rules.{HoldsOf}
use Rattle.seize_uses.specs.Places.{IsMoved, number_in}
use Rattle.seize_uses.specs.contracts.moved.Place.{the_row}

abbrev pub ShowsNumber : ℕ → ℕ → State → Option ℕ → Type 0
ShowsNumber old new st number =
    HoldsOf the_row.coded.code (λ place. ¬ (IsMoved place) × (number_in place ≡ number)) (link_at st old)
    ⊎ (HoldsOf the_row.coded.code IsMoved (link_at st old)
    × HoldsOf the_row.coded.code (λ place. number_in place ≡ number) (link_at st new))
