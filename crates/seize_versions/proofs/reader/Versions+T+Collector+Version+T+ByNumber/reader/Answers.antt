use Rattle.seize_versions.specs.contracts.version.Version.{the_row}
use Rattle.seize_versions.proofs.Readers.{nothing_seen}
use Rattle.seize_versions.proofs.reader.Versions+T+Collector+Version+T+ByNumber.reader.Goals as goal

-- it saw nothing
pub invariant_of-result-clause-reached : goal.invariant_of-result-clause-reached
invariant_of-result-clause-reached g c = ∣ nothing_seen c.args.self.now (the_row g.row.T).coded.code c.know.new.pass c.know.ensures.rule ∣₁
