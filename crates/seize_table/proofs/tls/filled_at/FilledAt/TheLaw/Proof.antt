-- A `&` to a token holds what it says, which can be had twice. Assumes `Logic`.
use base.Before.{before}
use denote.Param.Shared.{copy_shared}
use denote.Struct.Laws.{field_copy}
use denote.Struct.Lending.{of_Lends}
use Rattle.core.specs.contracts.marker.PhantomData as marker
use Rattle.seize_table.proofs.Kit.{snd∗, sem, unit}
use Rattle.seize_table.proofs.Entries.{filled_twice}
use Rattle.seize_table.proofs.Sharing.{lends_twice}
use Rattle.seize_table.specs.Filled.{filled_at}
use Rattle.seize_table.specs.contracts.tls.filled_at.FilledAt as C
use Rattle.seize_table.proofs.tls.filled_at.FilledAt.TheLaw.Statement.{statement}

pub shares : statement
shares = of_Lends C.struct (C.the_codes (marker.the_row unit).coded) C.the_heap C.the_lent
    (λ d p. record { contraction = λ M 𝓤 𝓛 κ. filled_twice 𝓛 d.table d.number d.label; mono = λ M 𝓤 𝓛 κ' κ. snd∗ 𝓤 (sem 𝓛 (before κ' κ)) (sem 𝓛 (filled_at d.table d.number d.label)) })
    (copy_shared (marker.the_field unit) (field_copy (marker.the_type unit) tt), tt)
    (λ M 𝓤 𝓛 d p. lends_twice 𝓛 (filled_at d.table d.number d.label) (filled_twice 𝓛 d.table d.number d.label) C.the_row.lives)
