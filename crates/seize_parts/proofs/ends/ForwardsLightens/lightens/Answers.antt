use Rattle.seize_parts.proofs.Lighter.{all_light}
use Rattle.seize_parts.proofs.ends.ForwardsLightens.lightens.Goals as goal

pub returns : goal.returns
returns g c = all_light g.row.T.coded.code g.R.Puts.weight g.R.Puts.puts g.R.Puts.lighter c.args.self.now.ends.had c.requires.1
