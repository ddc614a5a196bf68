use Rattle.std.proofs.Common.{◌≡◌, ℕ, Option, Some, ap, inl, refl, subst, sym, ◌∙◌}
use Rattle.seize.specs.Blocks.{HasContent}
use Rattle.seize.specs.Links.{Shows}
use Rattle.seize.specs.Guards.{core_collector, core_slot}
use Rattle.seize.specs.Machine.Event.{ReadLink}
use Rattle.seize.proofs.Facts.{read_found}
use Rattle.seize.specs.Answer.TheVariants.{Link}
use Rattle.seize_uses.specs.contracts.cache.Entry.{the_row}
use Rattle.seize_uses.proofs.cache.get.Goals as goal

-- the entry is what the read found
pub returns-then-entry-key-clause-found : goal.returns-then-entry-key-clause-found
returns-then-entry-key-clause-found c =
    let s = core_slot c.args.core.now in let link = c.place.result in let reads = c.protect.ensures in
    let shows = subst (Shows (core_collector c.args.core.now) the_row.coded.code reads.0) c.in_ok-protect.was reads.2 in let v = shows.1.1.0 in
    let held : reads.0 ≡ Some v = sym shows.0 ∙ shows.1.1.1 in
    let found = read_found s link v reads.1 (inl (ap (λ (o : Option ℕ). (ReadLink s link, Link o)) held)) in
    (v, c.deref-entry.result.now, subst (HasContent the_row.coded.code v) (sym c.deref-entry.ensures) shows.1.1.2, c.if-entry-key.true, refl, (found.0, found.2))
