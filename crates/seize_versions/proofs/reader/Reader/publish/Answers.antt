use Rattle.seize_versions.specs.Readers.{reader_newest, reader_pass, reader_slot, reader_versions}
use Rattle.seize_versions.specs.contracts.version.Version.{the_row}
use Rattle.seize_versions.proofs.Readers.{altered_then, published_still, publish_newer, publish_reached}
use Rattle.seize_versions.proofs.reader.Reader.publish.Goals as goal

-- what it published it knows
pub invariant_of-self-clause-reached : goal.invariant_of-self-clause-reached
invariant_of-self-clause-reached g c =
    let reader = c.args.self.now in let versions = reader_versions reader in let coded = (the_row g.row.T).coded in let s = reader_slot reader in let post = goal.F-post g c.args.f in
    let p = reader_pass reader in let q = c.publish-published.new.pass in let r = c.know.new.pass in let none = c.know.ensures.none in let result = c.publish-published.result in
    let made = altered_then versions coded.code s p q r none post c.args.tries result c.publish-published.ensures.alters in
    let at = published_still versions coded.code s p q r none post result c.publish-published.ensures.publishes in
    publish_reached versions coded c.know.ensures.rule (reader_newest reader) reader.reached post s made.1 result at c.newest_then-self.result c.newest_then-self.ensures.made c.newest_then-self.ensures.not_made

-- and that is newer than what it knew
pub returns-clause-newer : goal.returns-clause-newer
returns-clause-newer g c =
    let reader = c.args.self.now in let versions = reader_versions reader in let coded = (the_row g.row.T).coded in let s = reader_slot reader in let post = goal.F-post g c.args.f in
    let p = reader_pass reader in let q = c.publish-published.new.pass in let r = c.know.new.pass in let none = c.know.ensures.none in let result = c.publish-published.result in
    let made = altered_then versions coded.code s p q r none post c.args.tries result c.publish-published.ensures.alters in
    let at = published_still versions coded.code s p q r none post result c.publish-published.ensures.publishes in
    publish_newer versions coded c.know.ensures.rule (reader_newest reader) reader.reached post s made.1 result at c.newest_then-self.result c.newest_then-self.ensures.made c.newest_then-self.ensures.not_made

pub returns-clause-publishes : goal.returns-clause-publishes
returns-clause-publishes g c =
    let reader = c.args.self.now in
    published_still (reader_versions reader) (the_row g.row.T).coded.code (reader_slot reader) (reader_pass reader) c.publish-published.new.pass c.know.new.pass c.know.ensures.none (goal.F-post g c.args.f) c.publish-published.result
    c.publish-published.ensures.publishes
