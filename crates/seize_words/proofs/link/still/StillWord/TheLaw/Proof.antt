-- A `&` to a word that stands still lends what its keys show. Assumes `Logic`.
use denote.Param.Shared.{copy_shared}
use denote.Struct.Field.{u64-field}
use denote.Struct.Laws.{u64-copy}
use denote.Struct.Lending.{of_Lends}
use Rattle.seize_book.proofs.Peeks.{Lends-keys, keys_laws}
use Rattle.seize_words.specs.contracts.link.still.StillWord as C
use Rattle.seize_words.proofs.link.still.StillWord.TheLaw.Statement.{statement}

pub shares : statement
shares = of_Lends C.struct C.the_codes C.the_heap C.the_lent
    (λ d p. keys_laws d.name d.held) (copy_shared u64-field u64-copy, tt)
    (λ M 𝓤 𝓛 d p. Lends-keys 𝓛 d.name C.the_row.lives d.held)
