use Rattle.std.proofs.Common.{◌≡◌, sym, subst, ◌∙◌}
use base.Stored.{gnum}
use mathlib.Core.List.{IsPrefix}
use Rattle.seize.specs.Blocks.{HasContent}
use Rattle.seize.specs.Links.{unlinked_name}
use Rattle.seize.specs.Registrations.{registered_slot}
use Rattle.seize.proofs.Facts.{kept_retired, retired_by, same_ended, same_taken}
use Rattle.seize_uses.proofs.reclaiming.retire.Goals as goal

-- the retirement was made before the registration ended, so it is in what was kept
pub returns-clause-retired : goal.returns-clause-retired
returns-clause-retired g c =
    let v = unlinked_name c.unlinked.result in let p2 = c.retire.new.pass in let p3 = c.end.new.pass in let known = c.learn.new.self in let s = registered_slot c.in_ok-registration.registration in
    let there = retired_by s v c.retire.ensures.call in let ended = (same_ended _ s p2 p3 c.end.result c.end.ensures.ends).1 in
    let name : known.name ≡ p2.name = c.learn.ensures.0 ∙ c.seen-known.ensures ∙ c.pass-pass.ensures.0.0 ∙ sym (same_taken c.in_ok-registration.ensures.made.2).0 ∙ sym c.retire.ensures.call.made.same.0 in (
      v,
      subst (HasContent gnum v) c.in-Ok.ensures.made.1 c.unlinked.ensures.content,
      (there.0, kept_retired known p2 v there.0 name (subst (IsPrefix p2.seen) (sym c.learn.ensures.1) ended) there.1),
    )
