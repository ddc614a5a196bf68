-- The words in which the contracts of links that stand still speak.
--     IsSharedLink link       threads share it
--     IsSameLink link link'   it is the same link of the same book
--     Stands link held        it stands still and holds this value, with which something is lent, or none
--     LeadsToBlock n held word row glimpse     the word is that of the value, with which something is lent, and this is seen of it; and
--                             this is the row where the value lies, in the store of book n
use Rattle.std.specs.Prelude.{◌≡◌, ℕ, List, drop, Option, IfSome}
use Rattle.seize_book.specs.Blocks.{link_word}
use Rattle.seize_book.specs.Lending.{IsRowAt}
use Rattle.seize_book.specs.Loans.{CarriesOne}
use Rattle.seize_book.specs.Tokens.{Name}
use Rattle.seize_store.specs.declared.row_token.RowToken.{RowToken}
use Rattle.seize_words.specs.LinkSites.{IsShared, KeyRow, StandsWith, keys_of_rows}
use Rattle.seize_words.specs.LinkWords.{link_book, link_number}
use Rattle.seize_words.specs.Links.{value_in}
use Rattle.seize_words.specs.declared.glimpse.Glimpse.{Glimpse}
use Rattle.seize_words.specs.declared.link.Link.{Link}

abbrev pub IsSharedLink : Link → Type 0
IsSharedLink link = IsShared link.word

abbrev pub IsSameLink : Link → Link → Type 0
IsSameLink link link' = (link_book link' ≡ link_book link) × (link_number link' ≡ link_number link)

pub record Stands (link : Link) (held : Option ℕ) : Type 0 where
  pub keys : ℕ × List KeyRow
  pub stands : StandsWith link.word keys
  pub holds : value_in (drop 1 (keys_of_rows keys.1)) ≡ held
  pub lent : IfSome held CarriesOne

abbrev pub LeadsToBlock : Name → Option ℕ → ℕ → RowToken → Glimpse → Type 0
LeadsToBlock n held word row glimpse =
    (word ≡ link_word held) × (glimpse.value ≡ held) × IfSome held (λ v. IsRowAt n v row × CarriesOne v)
