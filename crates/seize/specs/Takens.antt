-- Values that are in no link, of a collector in one caller's hands. `code` is the code of the collector's element type.
--     taken_name taken, taken_content taken, taken_book taken     what the list calls such a value; the value, and the list
--     IsTakenOf code n taken     it is of list n, and has that content
--     TakesOut code loose taken     what came out of a link is at hand, with its content, or there is neither
use Rattle.std.specs.Prelude.{◌≡◌, ℕ, Option, None, Some}
use base.Stored.{Gv}
use Rattle.seize_book.specs.Tokens.{Name}
use Rattle.seize_calls.specs.Slots.{its_value, loose_book}
use Rattle.seize_calls.specs.declared.slot.Loose.{Loose}
use Rattle.seize_parts.specs.Blocks.{HasContent}
use Rattle.seize.specs.declared.block.taken.Taken.{Taken}

abbrev pub taken_name : {T : Type 0} → Taken T → ℕ
taken_name taken = its_value taken.loose

abbrev pub taken_content : {T : Type 0} → Taken T → T
taken_content taken = taken.content.value

abbrev pub taken_book : {T : Type 0} → Taken T → Name
taken_book taken = loose_book taken.loose

abbrev pub IsTakenOf : {T : Type 0} → (T → Gv) → Name → Taken T → Type 0
IsTakenOf code n taken = (taken_book taken ≡ n) × HasContent code (taken_name taken) (taken_content taken)

abbrev pub TakesOut : {T : Type 0} → (T → Gv) → Option Loose → Option (Taken T) → Type 0
TakesOut code (Some loose) (Some taken) = IsTakenOf code (loose_book loose) taken × (taken_name taken ≡ its_value loose)
TakesOut code None None = Unit {0}
TakesOut code _ _ = ⊥
