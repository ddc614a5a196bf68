use Rattle.std.proofs.Common.{sym, subst}
use Rattle.seize_map.specs.Maps.{ReadsMap}
use Rattle.seize_map.specs.Sessions.{session_map, session_pass, session_slot}
use Rattle.seize_map.specs.contracts.bucket.Bucket.{the_row}
use Rattle.seize_map.proofs.session.Session.get.Goals as goal

pub returns-clause-reads : goal.returns-clause-reads
returns-clause-reads g c =
    let session = c.args.self.now in
    subst (ReadsMap (session_map session) (the_row g.row.K g.row.V).coded.code (session_slot session) (session_pass session) c.get.new.pass c.args.key.now) (sym c.copied.ensures) c.get.ensures.reads
