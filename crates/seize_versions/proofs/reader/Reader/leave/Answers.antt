use Rattle.seize_versions.proofs.reader.Reader.leave.Goals as goal

pub returns : goal.returns
returns g c = (c.leave.new.pass, c.leave.ensures.leaves)
