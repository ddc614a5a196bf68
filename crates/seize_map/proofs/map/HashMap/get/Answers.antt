use Rattle.std.proofs.Common.{ap, sym, ◌∙◌}
use Rattle.seize_map.specs.Buckets.{entries_in, entry_under, value_of}
use Rattle.seize_map.specs.contracts.bucket.Bucket.{the_row}
use Rattle.seize_map.proofs.Changed.{reads_map}
use Rattle.seize_map.proofs.map.HashMap.get.Goals as goal

-- the moment of the read
pub returns-clause-reads : goal.returns-clause-reads
returns-clause-reads g c =
    let reads = c.read-found.ensures in let guard = c.args.guard.now in let eq = g.K.PartialEq.eq c.args.key.now in
    reads_map c.args.self.now (g.G.Guard.its_collector guard) (the_row g.row.K g.row.V).coded.code (g.G.Guard.its_slot guard) c.place.result c.args.key.now _ reads.0 c.read-found.result reads.1 reads.2 c.place.ensures.place
    (sym (c.value.ensures ∙ ap value_of (c.find.ensures ∙ ap (entry_under eq) (c.entries.ensures ∙ ap entries_in c.bucket_of.ensures))))
