-- Versions by their numbers. None is the content of an empty cell.
--     number_of x               the number of a version, and 0 where there is none;  value_in x     its value
--     IsOlder x y               the number of x is less than that of y
--     MayPublish keeps owners store i     each version may take the place of one with a smaller number in cell i: by the rule of links,
--                               and its blocks are of this store
--     IsNext post x y           y is the next version after x: its number is one more, and its value one that the function may answer for
--                               the value of x
--     MakesNext post x made     the next version after x was made, with its number; or the function refused; or x has the last number
--     ComesTo altered result    what is answered where the alteration of the cell came to this
use Rattle.std.specs.Prelude.{◌≡◌, ◌<◌, ◌+◌, ◌-◌, ◌^◌, ℕ, List, Option, None, Some, option_copied}
use denote.Bor.{Bor}
use Rattle.core.specs.declared.result.Result.{Result}
use Rattle.core.specs.declared.result.Result.TheVariants.{Err, Ok}
use Rattle.seize.specs.Blocks.{HoldsOnly}
use Rattle.seize_atomic.specs.Alters.{MayAnswer}
use Rattle.seize_atomic.specs.declared.cells.NotAltered.{NotAltered}
use Rattle.seize_atomic.specs.declared.cells.NotAltered.TheVariants as not_altered
use Rattle.seize_versions.specs.declared.version.NotPublished.{NotPublished}
use Rattle.seize_versions.specs.declared.version.NotPublished.TheVariants.{Contended, LastNumber, NoMemory, Refused}
use Rattle.seize_versions.specs.declared.version.Version.{Version}

module _ {T : Type 0} where
  abbrev pub number_of : Option (Version T) → ℕ
  number_of (Some x) = x.number
  number_of None = 0

  abbrev pub value_in : Option (Version T) → Option T
  value_in (Some x) = Some x.value
  value_in None = None

  abbrev pub IsOlder : Option (Version T) → Option (Version T) → Type 0
  IsOlder x y = number_of x < number_of y

  abbrev pub MayPublish : (ℕ → Option (Version T) → Option (Version T) → Type 0) → (Version T → List (List ℕ)) → List ℕ → ℕ → Type 0
  MayPublish keeps owners store i =
      (x : Option (Version T)) (y : Version T) → IsOlder x (Some y) → keeps i x (Some y) × HoldsOnly owners store y

module _ {T E : Type 0} (post : Option (Bor T) → Result T E → Type 0) where
  abbrev pub IsNext : Option (Version T) → Version T → Type 0
  IsNext x y = (y.number ≡ number_of x + 1) × MayAnswer post (value_in x) (Ok y.value)

  abbrev pub MakesNext : Option (Bor (Version T)) → Result (Option (Version T) × ℕ) (NotPublished E) → Type 0
  MakesNext x (Ok (Some y, n)) = IsNext (option_copied x) y × (n ≡ y.number)
  MakesNext x (Err LastNumber) = number_of (option_copied x) ≡ 2 ^ 64 - 1
  MakesNext x (Err (Refused e)) = MayAnswer post (value_in (option_copied x)) (Err e)
  MakesNext x _ = ⊥

abbrev pub ComesTo : {E : Type 0} → Result ℕ (NotAltered (NotPublished E)) → Result ℕ (NotPublished E) → Type 0
ComesTo (Ok n) result = result ≡ Ok n
ComesTo (Err (not_altered.Refused why)) result = result ≡ Err why
ComesTo (Err not_altered.NoMemory) result = result ≡ Err NoMemory
ComesTo (Err not_altered.Contended) result = result ≡ Err Contended
