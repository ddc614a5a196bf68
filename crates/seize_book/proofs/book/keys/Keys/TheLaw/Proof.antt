-- A `&` to keys lends what they show. Assumes `Logic`.
use denote.Builtin.{unit}
use denote.Param.Shared.{copy_shared}
use denote.Struct.Laws.{field_copy}
use denote.Struct.Lending.{of_Lends}
use Rattle.core.specs.contracts.marker.PhantomData as marker
use Rattle.seize_book.specs.contracts.book.keys.Keys as C
use Rattle.seize_book.proofs.Peeks.{Lends-keys, keys_laws}
use Rattle.seize_book.proofs.book.keys.Keys.TheLaw.Statement.{statement}

pub shares : statement
shares = of_Lends C.struct (C.the_codes (marker.the_row unit).coded) C.the_heap C.the_lent
    (λ d p. keys_laws d.name d.held) (copy_shared (marker.the_field unit) (field_copy (marker.the_type unit) tt), tt)
    (λ M 𝓤 𝓛 d p. Lends-keys 𝓛 d.name C.the_row.lives d.held)
