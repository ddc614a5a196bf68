-- A `&` to a cell's token lends nothing. Assumes `Logic`.
use denote.Builtin.{unit}
use denote.Param.Shared.{copy_shared}
use denote.SharingLaws.{nothing_shr_laws}
use denote.Struct.Laws.{field_copy}
use denote.Struct.Lending.{of_Lends, Lends-nothing}
use Rattle.core.specs.contracts.marker.PhantomData as marker
use Rattle.seize_content.specs.Cells.{cell_token}
use Rattle.seize_content.specs.contracts.token_cell.CellToken as C
use Rattle.seize_content.proofs.token_cell.CellToken.TheLaw.Statement.{statement}

pub shares : statement
shares = of_Lends C.struct (C.the_codes (marker.the_row unit).coded) C.the_heap C.the_lent
    (λ d p. nothing_shr_laws) (copy_shared (marker.the_field unit) (field_copy (marker.the_type unit) tt), tt)
    (λ M 𝓤 𝓛 d p. Lends-nothing 𝓛 (cell_token d.name d.value) C.the_row.lives)
