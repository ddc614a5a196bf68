-- The rule of versions.
use Rattle.std.proofs.Common.{◌≡◌, Option, Some, None, IfSome, refl, arith}
use Rattle.seize_uses.specs.Versions.{GrowsTo}
use Rattle.seize_uses.specs.declared.versions.Version.{Version}

-- what is no less than a version, and what may follow that, is no less
pub grows_on : (v : Version) (x y : Option Version) → GrowsTo (Some v) x → GrowsTo x y → GrowsTo (Some v) y
grows_on v (Some x) (Some y) one two = omega (arith, one, two)
grows_on v (Some x) None one two = absurd two
grows_on v None y one two = absurd one

-- what is known of what was read
pub if_read : (P : Version → Type 0) (read : Option Version) → ((v : Version) → read ≡ Some v → P v) → IfSome read P
if_read P (Some v) known = known v refl
if_read P None known = tt

pub in_order : (P : Version → Type 0) (one other : Option Version) → IfSome one P → ((v : Version) → P v → GrowsTo (Some v) other) → GrowsTo one other
in_order P (Some v) other reached no_less = no_less v reached
in_order P None other reached no_less = tt
