-- A `&` to what shows that an activation lasts shows it too. Assumes `Logic`.
use base.Logic.{snd∗}
use base.Before.{before}
use types.Logic.{sem}
use denote.Builtin.{unit}
use denote.Ref.{NamedLft, ShrRef}
use denote.Param.Shared.{copy_shared}
use denote.Struct.Laws.{field_copy}
use denote.Struct.Lending.{of_Lends}
use Rattle.core.specs.contracts.marker.PhantomData as marker
use Rattle.seize_words.specs.Lasts.{lasting}
use Rattle.seize_words.specs.contracts.lasting.Lasting as C
use Rattle.seize_words.proofs.Lasted.{lasting_twice}
use Rattle.seize_book.proofs.Sharing.{lends_twice}
use Rattle.seize_words.proofs.lasting.Lasting.TheLaw.Statement.{statement}

pub shares : (a : NamedLft) → statement a
shares a = of_Lends (C.struct a) (C.the_codes (marker.the_row (ShrRef a.mir a.lft unit)).coded) (C.the_heap a.lft) (C.the_lent a.lft)
    (λ d p. record { contraction = λ M 𝓤 𝓛 κ. lasting_twice 𝓛 a.lft d.name d.life d.seen; mono = λ M 𝓤 𝓛 κ' κ. snd∗ 𝓤 (sem 𝓛 (before κ' κ)) (sem 𝓛 (lasting a.lft d.name d.life d.seen)) })
    (copy_shared (marker.the_field (ShrRef a.mir a.lft unit)) (field_copy (marker.the_type (ShrRef a.mir a.lft unit)) tt), tt)
    (λ M 𝓤 𝓛 d p. lends_twice 𝓛 (lasting a.lft d.name d.life d.seen) (lasting_twice 𝓛 a.lft d.name d.life d.seen) (C.the_row a).lives)
