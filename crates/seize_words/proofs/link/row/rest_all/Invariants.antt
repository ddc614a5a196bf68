use Rattle.std.specs.Prelude.{◌≡◌, ◌<◌, ◌≤◌, length}
use Rattle.seize_book.specs.Homesteads.{state_seen}
use Rattle.seize_machine.specs.Machine.State.{link_at}
use Rattle.seize_words.specs.LinkRows.{AllAt, IsLinkAt}
use Rattle.seize_words.specs.Stands.{IsSharedLink, Stands}
use Rattle.seize_words.proofs.link.row.rest_all.Given as goal

-- those before this one stand still, and threads share the rest
abbrev pub invariant-loop-l : goal.invariant-loop-l
invariant-loop-l l =
    (l.pass ≡ l.initial.pass) × (length l.row.items ≡ length l.initial.row.items)
    × AllAt (λ k link. IsLinkAt l.initial.pass.name k link × (k < l.l → Stands link (link_at (state_seen l.initial.pass) k)) × (l.l ≤ k → IsSharedLink link)) l.row.items
