-- What a reclaimer had whose further values are kept apart.
--     without_puts had       what was had, with nothing put
use Rattle.std.specs.Prelude.{[], ◌∷◌}
use Rattle.seize_calls.specs.Handing.{Had}

abbrev pub without_puts : Had → Had
without_puts [] = []
without_puts (one ∷ had) = (one.0, one.1, [], []) ∷ without_puts had
