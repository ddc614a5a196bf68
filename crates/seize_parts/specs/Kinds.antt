-- Slots of one caller's, by whether they are owned.
--     kind_if_owned owned     the kind of an owned slot, or of a registered one
use Rattle.std.specs.Prelude.{Bool, true, false}
use Rattle.seize_model.specs.declared.kind.Kind.{Kind}
use Rattle.seize_model.specs.declared.kind.Kind.TheVariants.{Owned, Registered}

abbrev pub kind_if_owned : Bool → Kind
kind_if_owned true = Owned
kind_if_owned false = Registered
