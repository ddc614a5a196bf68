use Rattle.std.proofs.Common.{ap, sym, ◌∙◌}
use Rattle.seize_map.specs.Buckets.{entries_in}
use Rattle.seize_map.specs.contracts.bucket.Bucket.{the_row}
use Rattle.seize_map.proofs.Changed.{reads_bucket}
use Rattle.seize_map.proofs.map.HashMap.entries.Goals as goal

-- the moment of the read
pub returns-clause-reads : goal.returns-clause-reads
returns-clause-reads g c =
    let reads = c.read.ensures in let guard = c.args.guard.now in
    reads_bucket c.args.self.now (g.G.Guard.its_collector guard) (the_row g.row.K g.row.V).coded.code (g.G.Guard.its_slot guard) c.args.i _ reads.0 c.read.result reads.1 reads.2
    (sym (c.entries.ensures ∙ ap entries_in c.bucket_of.ensures))
