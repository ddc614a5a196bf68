-- What contracts see of what links hold, and of what came out of them. `code` is the code of the collector's element type.
--     shared_name shared        what the list calls the value that was found;  shared_value shared     the value
--     found_name found             what the list calls what was found, if there is anything
--     shared_book shared        the list of its collector
--     IsSharedIn code n shared  it is of the collector of list n, its value is what its name says, and it was found in the activation that
--                               it knows to last;  IsSharedOf code c shared     so it is, of this collector
--     shared_block shared       which block it is: the list of its collector, and the word that a link shows for it
--     ShowsIn n code held shared     what was found is what the link held, of the collector of list n; or there is neither
--     Shows c code held shared  so it is, of this collector
--     unlinked_name u           what the list calls the value that is in no link;  IsUnlinkedOf c u   it keeps the words of this collector
--     ComesOut held u           what came out is what the link held, or there is neither
use Rattle.std.specs.Prelude.{◌≡◌, ℕ, Option, None, Some}
use base.Stored.{Gv}
use Rattle.seize_book.specs.Blocks.{link_word}
use Rattle.seize_book.specs.Laws.{Reader}
use Rattle.seize_book.specs.Tokens.{Name, start}
use Rattle.seize_words.specs.Chunks.{IsFoundAs}
use Rattle.seize_words.specs.Joined.{words_book}
use Rattle.seize_calls.specs.Slots.{its_value}
use Rattle.seize_guards.specs.declared.block.shared.Shared.{Shared}
use Rattle.seize_guards.specs.declared.block.unlinked.Unlinked.{Unlinked}
use Rattle.seize_words.specs.declared.words.Words.{Words}

abbrev pub shared_name : {T : Type 0} → Shared T → Option ℕ
shared_name shared = shared.glimpse.value

abbrev pub found_name : {T : Type 0} → Option (Shared T) → Option ℕ
found_name (Some shared) = shared_name shared
found_name None = None

abbrev pub shared_value : {T : Type 0} → Shared T → T
shared_value shared = shared.value.now

abbrev pub shared_book : {T : Type 0} → Shared T → Name
shared_book shared = shared.lasting.name

abbrev pub shared_block : {T : Type 0} → Shared T → Name × ℕ
shared_block shared = (shared_book shared, link_word (shared_name shared))

abbrev pub IsSharedIn : {T : Type 0} → (T → Gv) → Name → Shared T → Type 0
IsSharedIn code n shared =
    (shared_book shared ≡ n) × IsFoundAs (shared_name shared) (code (shared_value shared))
    × ((v : ℕ) → shared_name shared ≡ Some v → Reader (start n) shared.lasting.seen v shared.lasting.life)

abbrev pub IsSharedOf : {T : Type 0} → (T → Gv) → Words T → Shared T → Type 0
IsSharedOf code collector shared = IsSharedIn code (words_book collector) shared

abbrev pub unlinked_name : {T : Type 0} → Unlinked T → ℕ
unlinked_name unlinked = its_value unlinked.loose

abbrev pub IsUnlinkedOf : {T : Type 0} → Words T → Unlinked T → Type 0
IsUnlinkedOf collector unlinked = unlinked.words.now ≡ collector

abbrev pub ShowsIn : {T : Type 0} → Name → (T → Gv) → Option ℕ → Option (Shared T) → Type 0
ShowsIn n code held (Some shared) = (shared_name shared ≡ held) × IsSharedIn code n shared
ShowsIn n code held None = held ≡ None

abbrev pub Shows : {T : Type 0} → Words T → (T → Gv) → Option ℕ → Option (Shared T) → Type 0
Shows collector code held shared = ShowsIn (words_book collector) code held shared

abbrev pub ComesOut : {T : Type 0} → Option ℕ → Option (Unlinked T) → Type 0
ComesOut held (Some unlinked) = held ≡ Some (unlinked_name unlinked)
ComesOut held None = held ≡ None
