use Rattle.std.proofs.Common.{◌≡◌, ℕ, Option, Some, ap, inl, subst, sym, ◌∙◌}
use base.Stored.{gnum}
use Rattle.seize.specs.Blocks.{HasContent}
use Rattle.seize.specs.Links.{Shows}
use Rattle.seize.specs.Exchanges.{FoundIn}
use Rattle.seize.specs.Guards.{core_activation, core_collector, core_slot}
use Rattle.seize.specs.Machine.Event.{ReadLink}
use Rattle.seize.proofs.Facts.{found_still, read_found, then_none}
use Rattle.seize.specs.Answer.TheVariants.{Link}
use Rattle.seize_uses.proofs.shared.read_and_audit.Goals as goal

-- what the read found the guard keeps from being reclaimed
pub returns-clause-found : goal.returns-clause-found
returns-clause-found c =
    let core = c.args.core.now in let s = core_slot core in let reads = c.protect.ensures in let pass = c.protected.new.pass in let none = c.protected.ensures.none in
    let shows = subst (Shows (core_collector core) gnum reads.0) c.in_ok-found.was reads.2 in let v = shows.1.1.0 in
    let held : reads.0 ≡ Some v = sym shows.0 ∙ shows.1.1.1 in (
      v,
      subst (HasContent gnum v) (sym c.deref.ensures) shows.1.1.2,
      read_found s 0 v (then_none reads.1 none) (inl (ap (λ (o : Option ℕ). (ReadLink s 0, Link o)) held)),
      λ k gone. c.protected.ensures.protects v k (subst (λ (o : Option ℕ). FoundIn (core_activation core) o pass) held (found_still (core_activation core) reads.0 none reads.3)) gone,
    )
