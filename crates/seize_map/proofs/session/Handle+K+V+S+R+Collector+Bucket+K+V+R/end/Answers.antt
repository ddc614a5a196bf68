use Rattle.std.proofs.Common.{subst}
use Rattle.seize.specs.Collectors.{IsNewPassOf}
use Rattle.seize_map.proofs.session.Handle+K+V+S+R+Collector+Bucket+K+V+R.end.Goals as goal

-- the pass that it makes is new
pub returns : goal.returns
returns g c = (c.pass-pass.result, c.end.new.pass, subst (λ collector. IsNewPassOf collector c.pass-pass.result) c.collector.ensures c.pass-pass.ensures, c.end.ensures.ends)
