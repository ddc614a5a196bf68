-- What contracts see of readers. `code` is the code of a version.
--     reader_versions r, reader_slot r, reader_pass r     its cell, its slot's number, and its pass
--     reader_newest r           the newest number that it saw, and 0 where it saw none
--     IsSameReader r r'         it has the cell and the slot that it had
--     PutsNone code pass v vs     this value is handed with no others: the reclaimer puts none
--     BeginsReader by r         the pass `by` is a new one of the collector, with which its slot was taken and entered, and then it looked
--     ReadsOn r r' x            it read the cell, which holds x at a moment since (ReadsVersion). The number of x is not less than that
--                               which it knew, and is the one that it knows then
--     PublishesOn post tries r r' result     its slot altered the cell by the next version (AltersVersion), and then its pass looked
--     RefreshesOn r r'          its slot refreshed, and then its pass looked
--     LeavesOn r                its slot left, and then its use ended
use Rattle.std.specs.Prelude.{◌≡◌, ◌≤◌, ℕ, List, [], Option}
use denote.Bor.{Bor}
use base.Stored.{Gv}
use Rattle.core.specs.declared.result.Result.{Result}
use Rattle.seize.specs.Collectors.{IsNewPassOf}
use Rattle.seize.specs.Guards.{owned_slot}
use Rattle.seize.specs.Job.TheVariants.{Refresh}
use Rattle.seize.specs.Makes.{LeavesAndGives, MakesCall, MakesNone, TakesAndEnters}
use Rattle.seize.specs.Puts.{PutBy}
use Rattle.seize.specs.declared.collector.Collector.{Collector}
use Rattle.seize_book.specs.declared.book.pass.Pass.{Pass}
use Rattle.seize_guards.specs.declared.parts.Home as home
use Rattle.seize_versions.specs.Numbers.{number_of}
use Rattle.seize_versions.specs.Versions.{AltersVersion, ReadsVersion, versions_home}
use Rattle.seize_versions.specs.declared.reader.Reader.{Reader}
use Rattle.seize_versions.specs.declared.version.ByNumber.{ByNumber}
use Rattle.seize_versions.specs.declared.version.Named as named
use Rattle.seize_versions.specs.declared.version.NotPublished.{NotPublished}
use Rattle.seize_versions.specs.declared.version.Version.{Version}
use Rattle.seize_versions.specs.declared.versions.Versions.{Versions}

abbrev pub PutsNone : {T : Type 0} → (Version T → Gv) → Pass → ℕ → List ℕ → Type 0
PutsNone code = PutBy code (λ _ _. [])

module _ {T : Type 0} {k : named.Ghosts (Version T)} {h : home.Ghosts (Collector (Version T) ByNumber) (Version T)} where
  abbrev pub reader_versions : Reader T k h → Versions T (Collector (Version T) ByNumber) h
  reader_versions reader = reader.versions.now

  abbrev pub reader_slot : Reader T k h → ℕ
  reader_slot reader = owned_slot reader.guard

  abbrev pub reader_pass : Reader T k h → Pass
  reader_pass reader = reader.pass

  abbrev pub reader_newest : Reader T k h → ℕ
  reader_newest reader = reader.newest

  abbrev pub IsSameReader : Reader T k h → Reader T k h → Type 0
  IsSameReader reader reader' =
      (reader_versions reader' ≡ reader_versions reader) × (reader_slot reader' ≡ reader_slot reader)

  module _ (code : Version T → Gv) where
    abbrev pub BeginsReader : Pass → Reader T k h → Type 0
    BeginsReader by reader =
        IsNewPassOf (versions_home (reader_versions reader)) by
        × ((entered : Pass) × TakesAndEnters (PutsNone code) (reader_slot reader) by entered × MakesNone entered (reader_pass reader))

    abbrev pub ReadsOn : Reader T k h → Reader T k h → Option (Version T) → Type 0
    ReadsOn reader reader' x =
        ReadsVersion (reader_versions reader) code (reader_slot reader) (reader_pass reader) (reader_pass reader') x
        × (reader_newest reader ≤ number_of x) × (reader_newest reader' ≡ number_of x)

    abbrev pub PublishesOn : {E : Type 0} → (Option (Bor T) → Result T E → Type 0) → ℕ → Reader T k h → Reader T k h
        → Result ℕ (NotPublished E) → Type 0
    PublishesOn post tries reader reader' result =
        (done : Pass) × AltersVersion (reader_versions reader) code post (reader_slot reader) tries (reader_pass reader) done result
        × MakesNone done (reader_pass reader')

    abbrev pub RefreshesOn : Reader T k h → Reader T k h → Type 0
    RefreshesOn reader reader' =
        (refreshed : Pass) × MakesCall (PutsNone code) (reader_slot reader) Refresh (reader_pass reader) refreshed
        × MakesNone refreshed (reader_pass reader')

    abbrev pub LeavesOn : Reader T k h → Type 0
    LeavesOn reader = (left : Pass) × LeavesAndGives (PutsNone code) (reader_slot reader) (reader_pass reader) left
