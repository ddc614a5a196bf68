use Rattle.std.proofs.Common.{option_map, sym, subst}
use Rattle.seize.specs.Guards.{owned_slot}
use Rattle.seize.specs.Links.{shared_value}
use Rattle.seize_versions.specs.Versions.{ReadsVersion}
use Rattle.seize_versions.specs.contracts.version.Version.{the_row}
use Rattle.seize_versions.proofs.Readers.{reads_still}
use Rattle.seize_versions.proofs.reader.Versions+T+Collector+Version+T+ByNumber.look.Goals as goal

pub returns-clause-reads : goal.returns-clause-reads
returns-clause-reads g c =
    let versions = c.args.self.now in let code = (the_row g.row.T).coded.code in let s = owned_slot c.args.guard.now in
    subst (ReadsVersion versions code s c.args.pass.now c.know.new.pass) (sym c.version_of.ensures)
    (reads_still versions code s c.args.pass.now c.read-found.new.pass c.know.new.pass c.know.ensures.none (option_map shared_value c.read-found.result) c.read-found.ensures.reads)
