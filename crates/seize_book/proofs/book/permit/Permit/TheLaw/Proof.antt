-- A `&` to a permit lends what it owns, which can be had twice. Assumes `Logic`.
use base.Logic.{snd∗}
use base.Before.{before}
use types.Logic.{sem}
use denote.Builtin.{unit}
use denote.Param.Shared.{copy_shared}
use denote.Struct.Laws.{field_copy}
use denote.Struct.Lending.{of_Lends}
use Rattle.core.specs.contracts.marker.PhantomData as marker
use Rattle.seize_book.specs.Permits.{all_permitted}
use Rattle.seize_book.specs.contracts.book.permit.Permit as C
use Rattle.seize_book.proofs.Pairs.{permits_twice}
use Rattle.seize_book.proofs.Sharing.{lends_twice}
use Rattle.seize_book.proofs.book.permit.Permit.TheLaw.Statement.{statement}

pub shares : statement
shares = of_Lends C.struct (C.the_codes (marker.the_row unit).coded) C.the_heap C.the_lent
    (λ d p. record { contraction = λ M 𝓤 𝓛 κ. permits_twice 𝓛 d.list d.codes; mono = λ M 𝓤 𝓛 κ' κ. snd∗ 𝓤 (sem 𝓛 (before κ' κ)) (sem 𝓛 (all_permitted d.list d.codes)) })
    (copy_shared (marker.the_field unit) (field_copy (marker.the_type unit) tt), tt)
    (λ M 𝓤 𝓛 d p. lends_twice 𝓛 (all_permitted d.list d.codes) (permits_twice 𝓛 d.list d.codes) C.the_row.lives)
