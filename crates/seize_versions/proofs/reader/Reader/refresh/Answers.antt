use Rattle.std.proofs.Common.{sym, subst, ◌∙◌}
use Rattle.seize.specs.Collectors.{IsPassOf}
use Rattle.seize.proofs.Facts.{then_none}
use Rattle.seize_versions.specs.Readers.{reader_newest, reader_versions}
use Rattle.seize_versions.specs.contracts.version.Version.{the_row}
use Rattle.seize_versions.proofs.Readers.{looked}
use Rattle.seize_versions.proofs.reader.Reader.refresh.Goals as goal

-- it is of the same collector, and knows what it knew
pub invariant_of-self : goal.invariant_of-self
invariant_of-self g c =
    let reader = c.args.self.now in let made = then_none c.refresh.ensures.refreshes.made c.know.ensures.none in
    let same = c.refresh.ensures.same.0 in record {
      of = (same ∙ reader.of.0, subst (λ words. IsPassOf words c.know.new.pass) (sym same) (reader.of.1.0 ∙ sym made.same.0, reader.of.1.1 ∙ sym made.same.2));
      reached = looked (reader_versions reader) (the_row g.row.T).coded c.know.ensures.rule (reader_newest reader) reader.reached made;
    }
