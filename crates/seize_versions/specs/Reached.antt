-- What a pass knows of a cell of versions. `code` is the code of a version.
--     IsNoOlder n x             the number of x is not less than n
--     KeepsToRule versions code pass     each change of a link that the pass has seen, since the collector was shared, was to a greater
--                               number
--     HoldsAtLeast versions code n pass     as the pass has seen, the cell holds a version whose number is not less than n; where n is 0,
--                               it may be empty. The pass has seen all that came before the collector was shared, since when the rule holds
--     KnowsThen n k result      a number that was published is greater than n, and is k; where none was, k is n
use Rattle.std.specs.Prelude.{◌≡◌, ◌<◌, ◌≤◌, ℕ, Option}
use mathlib.Core.List.{IsPrefix}
use base.Stored.{Gv}
use Rattle.core.specs.declared.result.Result.{Result}
use Rattle.core.specs.declared.result.Result.TheVariants.{Err, Ok}
use Rattle.seize.specs.Collectors.{seen_by}
use Rattle.seize.specs.Machine.State.{link_at}
use Rattle.seize.specs.Rules.{HoldsOf, KeepsSince}
use Rattle.seize.specs.declared.collector.Collector.{Collector}
use Rattle.seize_book.specs.Homesteads.{state_seen}
use Rattle.seize_book.specs.declared.book.pass.Pass.{Pass}
use Rattle.seize_guards.specs.declared.parts.Home as home
use Rattle.seize_versions.specs.Numbers.{IsOlder, number_of}
use Rattle.seize_versions.specs.Versions.{versions_cell, versions_home}
use Rattle.seize_versions.specs.declared.version.Version.{Version}
use Rattle.seize_versions.specs.declared.versions.Versions.{Versions}

abbrev pub IsNoOlder : {T : Type 0} → ℕ → Option (Version T) → Type 0
IsNoOlder n x = n ≤ number_of x

abbrev pub KeepsToRule : {T R : Type 0} {c : home.Ghosts (Collector (Version T) R) (Version T)} → Versions T (Collector (Version T) R) c
    → (Version T → Gv) → Pass → Type 0
KeepsToRule versions code pass = KeepsSince code (λ _ x y. IsOlder x y) (seen_by (versions_home versions)) pass

abbrev pub HoldsAtLeast : {T R : Type 0} {c : home.Ghosts (Collector (Version T) R) (Version T)} → Versions T (Collector (Version T) R) c
    → (Version T → Gv) → ℕ → Pass → Type 0
HoldsAtLeast {T} versions code n pass =
    IsPrefix (seen_by (versions_home versions)) pass.seen
    × (0 < n → HoldsOf code (IsNoOlder n) (link_at (state_seen pass) (versions_cell versions)))

abbrev pub KnowsThen : {E : Type 0} → ℕ → ℕ → Result ℕ E → Type 0
KnowsThen n k (Ok m) = (n < m) × (k ≡ m)
KnowsThen n k (Err _) = k ≡ n
