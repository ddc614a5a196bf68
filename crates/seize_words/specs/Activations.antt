-- The words in which the contracts of activations speak.
--     HasAllUnits a            it has all units of its lifetime
--     IsActivationFor keys a   it is one of the slot that the keys are of, and whole
--     BeginsAs a keys a'       it has begun with what the keys know
--     IsLasting a pass         it has not ended in what the pass has seen
--     EndsLife a a' lives next     its lifetime is over, and it is another one of the same slot, with the next
--     SplitsUnits a a' n units     so many units were split off: a' and these are the same activation as a
--     SplitsUnit a a' unit     one was
--     JoinsUnits a units a'    units came back
use Rattle.std.specs.Prelude.{◌≡◌, ℕ, ◌+◌, List, [], ◌∷◌}
use Rattle.seize_book.specs.Laws.{IsAmong, ended_lives}
use Rattle.seize_book.specs.Private.{key_of, own_of}
use Rattle.seize_words.specs.Units.{all_units}
use Rattle.seize_words.specs.declared.activation.Activation.{Activation}
use Rattle.seize_book.specs.declared.book.keys.Keys.{Keys}
use Rattle.seize_book.specs.declared.book.pass.Pass.{Pass}

abbrev pub HasAllUnits : Activation → Type 0
HasAllUnits a = a.units ≡ all_units

abbrev pub IsActivationFor : Keys → Activation → Type 0
IsActivationFor keys a = (a.name ≡ keys.name) × (a.slot ≡ key_of keys.held) × HasAllUnits a

abbrev pub BeginsAs : Activation → Keys → Activation → Type 0
BeginsAs a keys a' =
    (a'.name ≡ a.name) × (a'.slot ≡ a.slot) × (a'.life ≡ a.life) × (a'.since ≡ own_of keys.held) × (a'.units ≡ a.units)

abbrev pub IsLasting : Activation → Pass → Type 0
IsLasting a pass = ¬ (IsAmong (ended_lives pass.seen) a.life)

abbrev pub EndsLife : Activation → Activation → List ℕ → ℕ → Type 0
EndsLife a a' lives next =
    (a'.name ≡ a.name) × (a'.slot ≡ a.slot) × (lives ≡ a.life ∷ []) × (next ≡ a'.life) × HasAllUnits a'

-- the same activation, with so many units
abbrev pub with_units : Activation → ℕ → Activation
with_units a n = record a { units = n }

abbrev pub SplitsUnits : Activation → Activation → ℕ → Activation → Type 0
SplitsUnits a a' n units = (units ≡ with_units a n) × (a' ≡ with_units a a'.units) × (a'.units + n ≡ a.units)

abbrev pub SplitsUnit : Activation → Activation → Activation → Type 0
SplitsUnit a a' unit = SplitsUnits a a' 1 unit

abbrev pub JoinsUnits : Activation → Activation → Activation → Type 0
JoinsUnits a units a' = a' ≡ with_units a (a.units + units.units)
