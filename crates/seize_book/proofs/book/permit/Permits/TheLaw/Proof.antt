-- A `&` to a list of permits lends what it owns, which can be had twice. Assumes `Logic`.
use base.Logic.{snd∗}
use base.Before.{before}
use types.Logic.{sem}
use denote.RattleType.{RattleType}
use denote.Param.Laws.{Laws}
use denote.Param.Shared.{copy_shared}
use denote.Struct.Laws.{field_copy}
use denote.Struct.Lending.{of_Lends}
use Rattle.core.specs.contracts.marker.PhantomData as marker
use Rattle.seize_book.specs.Permits.{knows_permits}
use Rattle.seize_book.specs.declared.book.permit.Condition.{Ghosts}
use Rattle.seize_book.specs.contracts.book.permit.Permits as C
use Rattle.seize_book.proofs.Permits.{list_twice}
use Rattle.seize_book.proofs.Sharing.{lends_twice}
use Rattle.seize_book.proofs.book.permit.Permits.TheLaw.Statement.{statement}

pub shares : (T : RattleType) (g : Ghosts T.Denot) (L : Laws T) → statement T g L
shares T g L = of_Lends (C.struct T g) (C.the_codes T.Denot T.coded (marker.the_row T).coded) (C.the_heap T g) (C.the_lent T g)
    (λ d p. record { contraction = λ M 𝓤 𝓛 κ. list_twice 𝓛 (g.holds d.store) d.list; mono = λ M 𝓤 𝓛 κ' κ. snd∗ 𝓤 (sem 𝓛 (before κ' κ)) (sem 𝓛 (knows_permits (g.holds d.store) d.list)) })
    (copy_shared (marker.the_field T) (field_copy (marker.the_type T) tt), tt)
    (λ M 𝓤 𝓛 d p. lends_twice 𝓛 (knows_permits (g.holds d.store) d.list) (list_twice 𝓛 (g.holds d.store) d.list) (C.the_row T g).lives)
