-- A `&` to a book lends what it owns, which can be had twice. Assumes `Logic`.
use base.Logic.{snd∗}
use base.Before.{before}
use types.Logic.{sem}
use denote.Builtin.{unit}
use denote.Param.Shared.{copy_shared}
use denote.Struct.Laws.{field_copy}
use denote.Struct.Lending.{of_Lends}
use Rattle.core.specs.contracts.marker.PhantomData as marker
use Rattle.seize_book.specs.Begin.{book_owns}
use Rattle.seize_book.specs.contracts.book.seen.Seen as C
use Rattle.seize_book.proofs.Books.{book_twice}
use Rattle.seize_book.proofs.Sharing.{lends_twice}
use Rattle.seize_book.proofs.book.seen.Seen.TheLaw.Statement.{statement}

pub shares : statement
shares = of_Lends C.struct (C.the_codes (marker.the_row unit).coded) C.the_heap C.the_lent
    (λ d p. record { contraction = λ M 𝓤 𝓛 κ. book_twice 𝓛 d.name d.seen; mono = λ M 𝓤 𝓛 κ' κ. snd∗ 𝓤 (sem 𝓛 (before κ' κ)) (sem 𝓛 (book_owns d.name d.seen)) })
    (copy_shared (marker.the_field unit) (field_copy (marker.the_type unit) tt), tt)
    (λ M 𝓤 𝓛 d p. lends_twice 𝓛 (book_owns d.name d.seen) (book_twice 𝓛 d.name d.seen) C.the_row.lives)
