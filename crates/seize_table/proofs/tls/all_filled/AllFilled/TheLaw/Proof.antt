-- A `&` to a token holds what it says, which can be had twice. Assumes `Logic`.
use base.Before.{before}
use denote.Param.Shared.{copy_shared}
use denote.Struct.Laws.{field_copy}
use denote.Struct.Lending.{of_Lends}
use Rattle.core.specs.contracts.marker.PhantomData as marker
use Rattle.seize_table.proofs.Kit.{snd∗, sem, unit}
use Rattle.seize_table.proofs.AllEntries.{all_twice}
use Rattle.seize_table.proofs.Sharing.{lends_twice}
use Rattle.seize_table.specs.Filled.{all_filled}
use Rattle.seize_table.specs.contracts.tls.all_filled.AllFilled as C
use Rattle.seize_table.proofs.tls.all_filled.AllFilled.TheLaw.Statement.{statement}

pub shares : statement
shares = of_Lends C.struct (C.the_codes (marker.the_row unit).coded) C.the_heap C.the_lent
    (λ d p. record { contraction = λ M 𝓤 𝓛 κ. all_twice 𝓛 d.table 0 d.labels; mono = λ M 𝓤 𝓛 κ' κ. snd∗ 𝓤 (sem 𝓛 (before κ' κ)) (sem 𝓛 (all_filled d.table d.labels)) })
    (copy_shared (marker.the_field unit) (field_copy (marker.the_type unit) tt), tt)
    (λ M 𝓤 𝓛 d p. lends_twice 𝓛 (all_filled d.table d.labels) (all_twice 𝓛 d.table 0 d.labels) C.the_row.lives)
