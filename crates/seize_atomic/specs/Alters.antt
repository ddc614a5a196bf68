-- How a cell is altered by a function. `code` is the code of the element type.
--     MayAnswer post x y        the function may answer y where the cell has the content x: its `ensures` (post) allows it
--     plain post x made         what a function that only answers what the cell is to hold says of its answer, as one that never refuses
--     MayHold post keeps owners store i     whatever it may answer may go into cell i: by the rule of links, and its blocks are of this
--                               store
--     IsMadeBy post code found put a     the function may answer a, and that the cell is to hold the content of the name `put`, for the
--                               content that the name `found` says
--     MakesBlock post code found     it may answer that the cell is to hold a value, for which a block is needed
--     Refuses post code found e     it may refuse with e
--     TriesCell post code s i kind left found pass pass' result     slot s tries so often at most, where `found` is what was found last:
--                               it exchanges that for what the function makes of it. Where the cell held something else, it goes on with
--                               that. Where it was won, what came out is retired
--     AltersCell post code s i kind tries pass pass' result     slot s read cell i, and then tried
use Rattle.std.specs.Prelude.{◌≡◌, ◌≢◌, ℕ, suc, zero, Option, Some, IfSome, List, option_copied}
use denote.Bor.{Bor}
use base.Stored.{Gv}
use Rattle.core.specs.declared.convert.lends.Infallible.{Infallible}
use Rattle.core.specs.declared.result.Result.{Result}
use Rattle.core.specs.declared.result.Result.TheVariants.{Err, Ok}
use Rattle.seize.specs.Answer.TheVariants.{Link}
use Rattle.seize.specs.Blocks.{HoldsOnly}
use Rattle.seize.specs.Exchange.TheVariants.{Compare}
use Rattle.seize.specs.Machine.Event.{ExchangeLink, ReadLink}
use Rattle.seize.specs.Makes.{MakesOne}
use Rattle.seize.specs.Rules.{Says}
use Rattle.seize_book.specs.declared.book.pass.Pass.{Pass}
use Rattle.seize_atomic.specs.Cells.{RetiresOut}
use Rattle.seize_atomic.specs.declared.cells.NotAltered.{NotAltered}
use Rattle.seize_atomic.specs.declared.cells.NotAltered.TheVariants.{Contended, NoMemory, Refused}

abbrev pub MayAnswer : {T Y : Type 0} → (Option (Bor T) → Y → Type 0) → Option T → Y → Type 0
MayAnswer {T} post x y = (a : Option (Bor T)) × (option_copied a ≡ x) × post a y

abbrev pub plain : {T : Type 0} → (Option (Bor T) → Option T → Type 0) → Option (Bor T) → Result (Option T × Unit {0}) Infallible → Type 0
plain post x (Ok made) = post x made.0
plain post x (Err e) = ⊥

module _ {T A E : Type 0} (post : Option (Bor T) → Result (Option T × A) E → Type 0) where
  abbrev pub MayHold : (ℕ → Option T → Option T → Type 0) → (T → List (List ℕ)) → List ℕ → ℕ → Type 0
  MayHold keeps owners store i =
      (x y : Option T) (a : A) → MayAnswer post x (Ok (y, a)) → keeps i x y × IfSome y (HoldsOnly owners store)

  abbrev pub IsMadeBy : (T → Gv) → Option ℕ → Option ℕ → A → Type 0
  IsMadeBy code found put a = (x y : Option T) × Says code found x × MayAnswer post x (Ok (y, a)) × Says code put y

  abbrev pub MakesBlock : (T → Gv) → Option ℕ → Type 0
  MakesBlock code found = (x : Option T) × (y : T) × (a : A) × Says code found x × MayAnswer post x (Ok (Some y, a))

  abbrev pub Refuses : (T → Gv) → Option ℕ → E → Type 0
  Refuses code found e = (x : Option T) × Says code found x × MayAnswer post x (Err e)

  pub data TriesCell (code : T → Gv) (s i kind : ℕ) : ℕ → Option ℕ → Pass → Pass → Result A (NotAltered E) → Type 0 where
    over : (found : Option ℕ) (pass : Pass) → TriesCell code s i kind zero found pass pass (Err Contended)
    refused : (left : ℕ) (found : Option ℕ) (pass : Pass) (e : E) → Refuses code found e
        → TriesCell code s i kind (suc left) found pass pass (Err (Refused e))
    no_memory : (left : ℕ) (found : Option ℕ) (pass : Pass) → MakesBlock code found
        → TriesCell code s i kind (suc left) found pass pass (Err NoMemory)
    lost : (left : ℕ) (found put held : Option ℕ) (a : A) (pass mid pass' : Pass) (result : Result A (NotAltered E))
        → IsMadeBy code found put a → found ≢ held → MakesOne pass mid (ExchangeLink s i (Compare found put)) (Link held)
        → TriesCell code s i kind left held mid pass' result → TriesCell code s i kind (suc left) found pass pass' result
    won : (left : ℕ) (found put : Option ℕ) (a : A) (pass mid pass' : Pass)
        → IsMadeBy code found put a → MakesOne pass mid (ExchangeLink s i (Compare found put)) (Link found)
        → RetiresOut s kind found mid pass' → TriesCell code s i kind (suc left) found pass pass' (Ok a)

  abbrev pub AltersCell : (T → Gv) → ℕ → ℕ → ℕ → ℕ → Pass → Pass → Result A (NotAltered E) → Type 0
  AltersCell code s i kind tries pass pass' result =
      (first : Option ℕ) × (mid : Pass) × MakesOne pass mid (ReadLink s i) (Link first)
      × TriesCell code s i kind tries first mid pass' result
