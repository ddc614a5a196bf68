-- A `&` to a porter is a share of its period's token. Assumes `Logic`.
use base.Before.{before}
use base.Fml.{Fml}
use base.Logic.{snd∗}
use types.Logic.{sem}
use denote.Builtin.{unit}
use denote.Param.Shared.{copy_shared}
use denote.Sharing.{said}
use denote.SharingLaws.{beside_shr_laws}
use denote.Struct.Laws.{field_copy}
use denote.Struct.Lending.{Lends-both, of_Lends}
use Rattle.core.specs.contracts.marker.PhantomData as marker
use Rattle.seize_book.specs.Bounds.{had_size}
use Rattle.seize_book.specs.Shared.{porter_has, porter_shares}
use Rattle.seize_book.specs.contracts.book.porter.Porter as C
use Rattle.seize_book.proofs.Bounds.{had_twice}
use Rattle.seize_book.proofs.Sharing.{lends_twice}
use Rattle.seize_book.proofs.Shares.{Lends-porter, porter_laws}
use Rattle.seize_book.proofs.book.porter.Porter.TheLaw.Statement.{statement}

-- that its size is one that the book had
abbrev H : C.the_row.Denot → Fml
H d = had_size d.name.gate.sizes d.size

pub shares : statement
shares = of_Lends C.struct (C.the_codes (marker.the_row unit).coded) C.the_heap C.the_lent
    (λ d p. beside_shr_laws (said (H d)) (porter_shares d.name d.home d.seen) (record { contraction = λ M 𝓤 𝓛 κ. had_twice 𝓛 d.name.gate.sizes d.size; mono = λ M 𝓤 𝓛 κ' κ. snd∗ 𝓤 (sem 𝓛 (before κ' κ)) (sem 𝓛 (H d)) }) (porter_laws d.name d.home d.seen))
    (copy_shared (marker.the_field unit) (field_copy (marker.the_type unit) tt), tt)
    (λ M 𝓤 𝓛 d p. Lends-both 𝓛 (H d) (porter_has d.name d.home d.seen) (said (H d)) (porter_shares d.name d.home d.seen) C.the_row.lives
    (lends_twice 𝓛 (H d) (had_twice 𝓛 d.name.gate.sizes d.size) C.the_row.lives) (Lends-porter 𝓛 d.name d.seen d.home C.the_row.lives))
