use Rattle.seize_alone_rows.proofs.grouped.call.Goals as goal

pub returns-in_default-clause-made : goal.returns-in_default-clause-made
returns-in_default-clause-made c = c.other.ensures c.args.alone.now.book.store c.args.alone.now.links
