use Rattle.seize_versions.specs.contracts.version.Version.{the_row}
use Rattle.seize_versions.proofs.Next.{reads_version}
use Rattle.seize_versions.proofs.versions.Versions.read.Goals as goal

-- the moment of the read
pub returns-clause-reads : goal.returns-clause-reads
returns-clause-reads g c =
    let reads = c.read.ensures in let guard = c.args.guard.now in
    reads_version c.args.self.now (the_row g.row.T).coded.code (g.G.Guard.its_collector guard) (g.G.Guard.its_slot guard) reads.0 c.read.result reads.1 reads.2
