use Rattle.seize_parts.proofs.Behind.{all_nothing}
use Rattle.seize_parts.proofs.alone.apart.ApartForwardsLightens.weigh.Goals as goal

pub returns : goal.returns
returns g c = all_nothing c.args._permit.codes
