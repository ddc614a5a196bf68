-- What a name of a value says, for good: the value. Whoever knows the name, and not the type, can say that two values are one.
--     means R n x     the name n means the value x of a type with the row R
use Rattle.std.specs.Prelude.{ℕ}
use base.Stored.{gnil, gcons}
use base.Fml.{Fml, fres}
use denote.RattleType.{RattleType}

abbrev pub means : (R : RattleType) → ℕ → R.Denot → Fml
means R name value = fres name (gcons gnil (R.coded.code value))
