use Rattle.std.proofs.Common.{ℕ, ◌<◌, subst, sym}
use Rattle.seize.specs.Links.{unlinked_name}
use Rattle.seize.specs.Guards.{guard_slot}
use Rattle.seize.specs.Laws.{moments_seen}
use Rattle.seize.specs.Machine.History.{HasParted, IsActiveAt}
use Rattle.seize.proofs.Facts.{call_still, retired_by}
use Rattle.seize_uses.proofs.shared.retire_and_audit.Goals as goal

-- the retirement is among the moments of which the law speaks, and there is no other one of the value
pub returns-clause-retired : goal.returns-clause-retired
returns-clause-retired g c =
    let v = unlinked_name c.args.value in let pass = c.laws.new.pass in let there = retired_by (guard_slot c.args.guard.now) v (call_still c.defer_retire.ensures.call c.laws.ensures.none) in (
      there.0,
      there.1,
      λ k gone. let before = c.laws.ensures.laws.0.after v k gone in
          subst (λ (q : ℕ). (q < k) × ((s : ℕ) → IsActiveAt (moments_seen pass) s q → HasParted (moments_seen pass) s q k)) (sym (before.3 there.0 there.1)) (before.1, before.4),
    )
