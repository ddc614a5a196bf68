-- What a pass knows of a link of versions.
--     HasReached collector link version pass     the link holds a version that is no less than this one, as the pass has seen. It has seen
--                               all that came before the collector was shared, since when the rule holds
use Rattle.std.specs.Prelude.{ℕ, Some}
use mathlib.Core.List.{IsPrefix}
use Rattle.seize.specs.Homesteads.{state_seen}
use Rattle.seize_book.specs.declared.book.pass.Pass.{Pass}
use Rattle.seize.specs.Collectors.{seen_by}
use Rattle.seize.specs.Machine.State.{link_at}
use Rattle.seize.specs.Rules.{HoldsOf}
use Rattle.seize.specs.declared.collector.Collector.{Collector}
use Rattle.seize_uses.specs.Versions.{GrowsTo}
use Rattle.seize_uses.specs.contracts.versions.Version.{the_row}
use Rattle.seize_uses.specs.declared.versions.Version.{Version}

abbrev pub HasReached : {R : Type 0} → Collector Version R → ℕ → Version → Pass → Type 0
HasReached collector link version pass =
    IsPrefix (seen_by collector) pass.seen × HoldsOf the_row.coded.code (GrowsTo (Some version)) (link_at (state_seen pass) link)
