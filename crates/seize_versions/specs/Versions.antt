-- What the link of a cell of versions shows, in a state of the list of all events. `code` is the code of a version.
--     versions_home versions, versions_cell versions, versions_kind versions     its collector, its link, and the kind as of which what
--                               comes out is retired;  versions_words versions     the collector's words
--     IsForVersions versions words pass     these are the words of its collector, and the pass is one of it
--     HoldsIn versions code st x     in this state the cell holds the version x, or nothing
--     LooksAt versions code s pass pass' x     at a moment, of those that the pass has seen since, slot s reads the cell, or loses an
--                               exchange of it. The cell holds x there
--     ReadsVersion versions code s pass pass' x     slot s read the cell, by one event, and at such a moment it holds what was read: x
--     PublishesAt versions code post s pass pass' n     at a moment, of those that the pass has seen since, slot s exchanges the cell. It
--                               holds a version x before, or nothing, and the next one after that (IsNext), whose number is n
--     RefusesAt versions code post s pass pass' why     slot s looked at the cell, and the function may refuse so for what it holds there;
--                               or that has the last number. For other errors this says nothing
--     Publishes versions code post s pass pass' result     it published so, or could not
--     AltersVersion versions code post s tries pass pass' result     slot s altered the cell (AltersCell), by a function that makes the
--                               next version
use Rattle.std.specs.Prelude.{◌≡◌, ◌-◌, ◌^◌, ℕ, Option, Some}
use denote.Bor.{Bor}
use base.Stored.{Gv}
use Rattle.core.specs.declared.result.Result.{Result}
use Rattle.core.specs.declared.result.Result.TheVariants.{Err, Ok}
use Rattle.seize.specs.Answer.TheVariants.{Link}
use Rattle.seize.specs.Collectors.{IsPassOf}
use Rattle.seize.specs.Machine.Event.{ReadLink}
use Rattle.seize.specs.Machine.History.{Moment}
use Rattle.seize.specs.Machine.State.{State, link_at}
use Rattle.seize.specs.Makes.{MakesOne}
use Rattle.seize.specs.Moments.{ExchangesOnly, LooksOnly, StandsSince}
use Rattle.seize.specs.Rules.{Says}
use Rattle.seize_book.specs.declared.book.pass.Pass.{Pass}
use Rattle.seize_guards.specs.declared.parts.Home as home
use Rattle.seize_words.specs.declared.words.Words.{Words}
use Rattle.seize_atomic.specs.Alters.{AltersCell, MayAnswer}
use Rattle.seize_atomic.specs.Cells.{cells_home, cells_kind}
use Rattle.seize_atomic.specs.declared.cells.NotAltered.{NotAltered}
use Rattle.seize_versions.specs.Numbers.{IsNext, MakesNext, ComesTo, number_of, value_in}
use Rattle.seize_versions.specs.declared.version.NotPublished.{NotPublished}
use Rattle.seize_versions.specs.declared.version.NotPublished.TheVariants.{LastNumber, Refused}
use Rattle.seize_versions.specs.declared.version.Version.{Version}
use Rattle.seize_versions.specs.declared.versions.Versions.{Versions}

module _ {T C : Type 0} {c : home.Ghosts C (Version T)} (versions : Versions T C c) where
  abbrev pub versions_home : C
  versions_home = cells_home versions.cells

  abbrev pub versions_cell : ℕ
  versions_cell = versions.cell

  abbrev pub versions_kind : ℕ
  versions_kind = cells_kind versions.cells

  abbrev pub versions_words : Words (Version T)
  versions_words = c.its_words versions_home

  abbrev pub IsForVersions : Words (Version T) → Pass → Type 0
  IsForVersions words pass = (words ≡ versions_words) × IsPassOf words pass

  module _ (code : Version T → Gv) where
    abbrev pub HoldsIn : State → Option (Version T) → Type 0
    HoldsIn st x = Says code (link_at st versions_cell) x

    abbrev pub LooksAt : ℕ → Pass → Pass → Option (Version T) → Type 0
    LooksAt s pass pass' x = (m : Moment) × StandsSince pass pass' m × LooksOnly s versions_cell m × HoldsIn m.before x

    abbrev pub ReadsVersion : ℕ → Pass → Pass → Option (Version T) → Type 0
    ReadsVersion s pass pass' x =
        ((held : Option ℕ) × MakesOne pass pass' (ReadLink s versions_cell) (Link held) × Says code held x) × LooksAt s pass pass' x

    module _ {E : Type 0} (post : Option (Bor T) → Result T E → Type 0) (s : ℕ) where
      abbrev pub PublishesAt : Pass → Pass → ℕ → Type 0
      PublishesAt pass pass' n =
          (m : Moment) × StandsSince pass pass' m × ExchangesOnly s versions_cell m × ((x : Option (Version T)) × (y : Version T)
          × HoldsIn m.before x × HoldsIn m.after (Some y) × IsNext post x y × (n ≡ y.number))

      abbrev pub RefusesAt : Pass → Pass → NotPublished E → Type 0
      RefusesAt pass pass' (Refused e) = (x : Option (Version T)) × LooksAt s pass pass' x × MayAnswer post (value_in x) (Err e)
      RefusesAt pass pass' LastNumber = (x : Option (Version T)) × LooksAt s pass pass' x × (number_of x ≡ 2 ^ 64 - 1)
      RefusesAt pass pass' _ = Unit {0}

      abbrev pub Publishes : Pass → Pass → Result ℕ (NotPublished E) → Type 0
      Publishes pass pass' (Ok n) = PublishesAt pass pass' n
      Publishes pass pass' (Err why) = RefusesAt pass pass' why

      abbrev pub AltersVersion : ℕ → Pass → Pass → Result ℕ (NotPublished E) → Type 0
      AltersVersion tries pass pass' result =
          (answer : Result ℕ (NotAltered (NotPublished E)))
          × AltersCell (MakesNext post) code s versions_cell versions_kind tries pass pass' answer × ComesTo answer result
