-- A `&` to a pool lends shares of its token. Assumes `Logic`.
use denote.Builtin.{unit}
use denote.Param.Shared.{copy_shared}
use denote.Struct.Laws.{field_copy}
use denote.Struct.Lending.{of_Lends}
use Rattle.core.specs.contracts.marker.PhantomData as marker
use Rattle.seize_content.specs.contracts.loan.Pool as C
use Rattle.seize_content.proofs.Sharing.{pool_laws, pool_lends}
use Rattle.seize_content.proofs.loan.Pool.TheLaw.Statement.{statement}

pub shares : statement
shares = of_Lends C.struct (C.the_codes (marker.the_row unit).coded) C.the_heap C.the_lent
    (λ d p. pool_laws d.name d.life d.value) (copy_shared (marker.the_field unit) (field_copy (marker.the_type unit) tt), tt)
    (λ M 𝓤 𝓛 d p. pool_lends d.name d.life d.value 𝓛 C.the_row.lives)
