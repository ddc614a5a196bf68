-- A `&` to a token holds what it says, which can be had twice. Assumes `Logic`.
use base.Before.{before}
use denote.Param.Laws.{Laws}
use denote.Param.Shared.{copy_shared}
use denote.Struct.Laws.{field_copy}
use denote.Struct.Lending.{of_Lends}
use Rattle.core.specs.contracts.marker.PhantomData as marker
use Rattle.seize_table.proofs.Kit.{snd∗, sem, RawPtr, RattleType}
use Rattle.seize_table.proofs.Meanings.{means_twice}
use Rattle.seize_table.proofs.Sharing.{lends_twice}
use Rattle.seize_table.specs.Meaning.{means}
use Rattle.seize_table.specs.contracts.tls.meaning.Meaning as C
use Rattle.seize_table.proofs.tls.meaning.Meaning.TheLaw.Statement.{statement}

pub shares : (T : RattleType) (L : Laws T) → statement T L
shares T L = of_Lends (C.struct T) (C.the_codes T.Denot T.coded (marker.the_row RawPtr).coded) (C.the_heap T) (C.the_lent T)
    (λ d p. record { contraction = λ M 𝓤 𝓛 κ. means_twice 𝓛 T d.name d.value; mono = λ M 𝓤 𝓛 κ' κ. snd∗ 𝓤 (sem 𝓛 (before κ' κ)) (sem 𝓛 (means T d.name d.value)) })
    (copy_shared (marker.the_field RawPtr) (field_copy (marker.the_type RawPtr) tt), tt)
    (λ M 𝓤 𝓛 d p. lends_twice 𝓛 (means T d.name d.value) (means_twice 𝓛 T d.name d.value) (C.the_row T).lives)
