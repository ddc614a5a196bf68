-- The words in which contracts speak of what the holder of a value's key sees by a `&` to it.
--     MaySee keys         there is one key of a block, with whose value something is lent
--     SightBy keys s      the sight is of what is lent with this value;  SightWith value s     with this one
use Rattle.std.specs.Prelude.{◌≡◌, true}
use Rattle.seize_content.specs.declared.loan.Sight.{Sight}
use Rattle.seize_book.specs.Book.{blocks}
use Rattle.seize_book.specs.Loans.{Carries, CarriesNone}
use Rattle.seize_book.specs.Others.{value_of}
use Rattle.seize_book.specs.Private.{is_one, label_of}
use Rattle.seize_book.specs.declared.book.keys.Keys.{Keys}
use Rattle.seize_book.specs.declared.book.value_key.ValueKey.{ValueKey}

abbrev pub MaySee : Keys → Type 0
MaySee keys = (is_one blocks keys.held ≡ true) × (¬ (CarriesNone (label_of keys.held)))

abbrev pub SightBy : Keys → Sight → Type 0
SightBy keys s = Carries (label_of keys.held) s.name s.value

abbrev pub SightWith : ValueKey → Sight → Type 0
SightWith value s = Carries (value_of value) s.name s.value
