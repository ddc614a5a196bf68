use Rattle.std.proofs.Common.{◌≡◌, Option, None, Some, Bor, is_some, refl, ◌∙◌}
use Rattle.std.specs.Prelude.{option_copied}
use Rattle.seize_map.proofs.map.HashMap.contains_key.Goals as goal

copied : {X : Type 0} (o : Option (Bor X)) → is_some o ≡ is_some (option_copied o)
copied (Some x) = refl
copied None = refl

pub returns-clause-reads : goal.returns-clause-reads
returns-clause-reads g c = (option_copied c.get.result, c.get.ensures.reads, c.is_some.ensures ∙ copied c.get.result)
