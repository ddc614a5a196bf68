-- A `&` to units of an activation lends shares of its lifetime's token. Assumes `Logic`.
use mathlib.Core.List.{[], ◌∷◌}
use base.Fml.{flft}
use denote.Builtin.{unit}
use denote.Param.Shared.{copy_shared}
use denote.SharingLaws.{one_shr_laws}
use denote.Struct.Laws.{field_copy}
use denote.Struct.Lending.{of_Lends}
use Rattle.core.specs.contracts.marker.PhantomData as marker
use Rattle.seize_words.specs.contracts.activation.Activation as C
use Rattle.seize_words.proofs.Units.{Lends-units}
use Rattle.seize_words.proofs.activation.Activation.TheLaw.Statement.{statement}

pub shares : statement
shares = of_Lends C.struct (C.the_codes (marker.the_row unit).coded) C.the_heap C.the_lent
    (λ d p. one_shr_laws (λ q. flft (d.life ∷ []) q)) (copy_shared (marker.the_field unit) (field_copy (marker.the_type unit) tt), tt)
    (λ M 𝓤 𝓛 d p. Lends-units 𝓛 d.life d.units C.the_row.lives)
