use Rattle.seize_parts.proofs.Behind.{none_light}
use Rattle.seize_parts.proofs.alone.apart.ApartForwardsLightens.lightens.Goals as goal

pub returns : goal.returns
returns g c = none_light c.args.self.now.forwards.ends.had
