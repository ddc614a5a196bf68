-- A `&` to a lender. Assumes `Logic`.
use denote.Builtin.{RawPtr}
use denote.RattleType.{RattleType}
use denote.Param.Laws.{Laws}
use denote.Param.Shared.{copy_shared}
use denote.Struct.Laws.{field_copy}
use denote.Struct.Lending.{of_Lends}
use Rattle.core.specs.contracts.marker.PhantomData as marker
use Rattle.seize_content.proofs.Sharing.{place_laws, place_lends}
use Rattle.seize_table.specs.declared.labelled.Labelled.{Ghosts}
use Rattle.seize_table.specs.Pairs.{right_of}
use Rattle.seize_store.specs.Lending.{block_at}
use Rattle.seize_store.specs.contracts.lender.Lender as C
use Rattle.seize_store.proofs.lender.Lender.TheLaw.Statement.{statement}

pub shares : (X U T : RattleType) (g : Ghosts U.Denot) (LX : Laws X) (LU : Laws U) (L : Laws T) → statement X U T g LX LU L
shares X U T g LX LU L = of_Lends (C.struct X U T g) (C.the_codes X.Denot U.Denot T.Denot X.coded U.coded T.coded (marker.the_row RawPtr).coded) (C.the_heap X U T g) (C.the_lent X U T g)
    (λ d p. place_laws (block_at X U T g.label d.at d.tag) (right_of d.tag)) (copy_shared (marker.the_field RawPtr) (field_copy (marker.the_type RawPtr) tt), tt)
    (λ M 𝓤 𝓛 d p. place_lends (block_at X U T g.label d.at d.tag) (right_of d.tag) 𝓛 (C.the_row X U T g).lives)
