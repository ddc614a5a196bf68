use Rattle.std.proofs.Common.{sym, ◌∙◌}
use Rattle.seize_parts.proofs.Lighter.{all_weighed}
use Rattle.seize_parts.proofs.ends.ForwardsLightens.weigh.Goals as goal

pub check-requires : goal.check-requires
check-requires g c = c.requires.1 ∙ sym c.requires.0.0.0

pub returns : goal.returns
returns g c = all_weighed g.row.T.coded.code g.R.Puts.weight g.R.Puts.puts g.R.Puts.lighter _ c.args.permit.codes c.check.ensures
