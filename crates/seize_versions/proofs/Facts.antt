-- What other crates may build on.
--     holds_once                a state says one version of a cell
--     never_back                what a cell holds at a later moment is no older, where each change keeps to the rule
--     nothing_seen, looked, read_no_older, read_reached     what one knows who reads with a guard and a pass of his own, and looks at the list
--                               (KeepsToRule) after each reading: at first, after a look, and after a reading. ReadsVersion holds still
--                               after such a look (reads_still)
use Rattle.std.proofs.Common.{◌≡◌, ◌≤◌, ℕ, Option, Some, length, slice_get, arith}
use base.Stored.{Coded}
use Rattle.seize.specs.Collectors.{seen_by}
use Rattle.seize.specs.Laws.{moments_seen, opening_of}
use Rattle.seize.specs.Machine.History.{Moment}
use Rattle.seize.specs.Machine.State.{State, link_at}
use Rattle.seize.specs.declared.collector.Collector.{Collector}
use Rattle.seize.proofs.Facts.{held_between, holds_said, says_once}
use Rattle.seize_book.specs.Book.{moments}
use Rattle.seize_book.specs.declared.book.pass.Pass.{Pass}
use Rattle.seize_guards.specs.declared.parts.Home as home
use Rattle.seize_versions.specs.Numbers.{number_of}
use Rattle.seize_versions.specs.Reached.{IsNoOlder, KeepsToRule}
use Rattle.seize_versions.specs.Versions.{HoldsIn, versions_cell, versions_home}
use Rattle.seize_versions.specs.declared.version.Version.{Version}
use Rattle.seize_versions.specs.declared.versions.Versions.{Versions}
use Rattle.seize_versions.proofs.Reached.{carries}
pub use Rattle.seize_versions.proofs.Readers.{looked, nothing_seen, read_no_older, read_reached, reads_still}

pub holds_once : {T C : Type 0} {c : home.Ghosts C (Version T)} (versions : Versions T C c) (coded : Coded (Version T)) (st : State) (x y : Option (Version T)) → HoldsIn versions coded.code st x → HoldsIn versions coded.code st y
    → x ≡ y
holds_once versions coded st x y one two = says_once coded (link_at st (versions_cell versions)) x y one two

pub never_back : {T R : Type 0} {c : home.Ghosts (Collector (Version T) R) (Version T)} (versions : Versions T (Collector (Version T) R) c) (coded : Coded (Version T)) (pass : Pass) → KeepsToRule versions coded.code pass
    → (e f : ℕ) (m n : Moment) → length (moments (opening_of pass) (seen_by (versions_home versions))) ≤ e → e ≤ f → slice_get (moments_seen pass) e ≡ Some m → slice_get (moments_seen pass) f ≡ Some n
    → (x y : Option (Version T)) → HoldsIn versions coded.code m.before x → HoldsIn versions coded.code n.before y → number_of x ≤ number_of y
never_back versions coded pass kept e f m n since le one two x y before later =
    let l = versions_cell versions in
    holds_said coded (IsNoOlder (number_of x)) (link_at n.before l) y
    (held_between kept l (IsNoOlder (number_of x)) (carries (number_of x)) e f m n since le one two (x, before, omega arith)) later
