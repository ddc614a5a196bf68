-- The machine value of a `Family`. Assumes `Logic`.
use Rattle.std.proofs.Common.{[], ◌∷◌, refl}
use seplogic.Ra.Ura.{Ura}
use base.Logic.{ent, emp}
use base.Fml.{Fml}
use mir.Val.{vstruct, vnil}
use types.Logic.{Logic, sem}
use denote.Shadow.{makes_shadow}
use denote.Struct.Struct.{Struct}
use denote.Struct.Owning.{shape}
use Rattle.seize_store.proofs.Tokens.{token}
use Rattle.seize_store.specs.contracts.family.Family as family

abbrev pub Data : Fml
Data = (Struct (shape family.the_type)).own_val (tt, tt) (token ∷ [])

module _ {M : Type 1} {𝓤 : Ura M} (𝓛 : Logic 𝓤) where
  pub family_made : ent 𝓤 (emp 𝓤) (sem 𝓛 Data)
  family_made = makes_shadow 𝓛 Data (λ vss. (tt, ((λ uss. (tt, tt)), tt))) ((vstruct vnil ∷ [], tt), (refl, ((tt, (refl, tt)), tt)))
