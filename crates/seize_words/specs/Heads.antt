-- The words in which the contracts of heads speak.
--     IsHead word                 it is the word of a head
--     reads slot m                the slot's call reads the head of slot m next: it marks, or is about to insert its batch there
--     IsMade word list            the slot of the head is there
--     IsTrying key m seen block   the slot's call is about to insert its batch at slot m, with this block, and saw this word there
--     found_end seen v            whether an insertion is won that found this word
use Rattle.std.specs.Prelude.{◌≡◌, ℕ, ◌<◌, ◌==◌, Bool, false, if◌then◌else◌, List, length, Option, Some, None, unwrap_or}
use Rattle.seize_machine.specs.Machine.State.{State, Slot, Place, Mark, Look, Try, slot_at}
use Rattle.seize_machine.specs.Machine.Next.{of_call, is_due}
use Rattle.seize_machine.specs.declared.machine.event.Try.{Try as Insertion}
use Rattle.seize_machine.specs.declared.machine.event.Try.TheVariants.{Won, Lost}
use Rattle.seize_book.specs.Blocks.{block_for, list_word}
use Rattle.seize_book.specs.Book.{after, heads}
use Rattle.seize_book.specs.Entry.{Entry}
use Rattle.seize_book.specs.Tokens.{start}
use Rattle.seize_words.specs.Words.{Site}

abbrev pub IsHead : Site → Type 0
IsHead word = word.kind ≡ heads

abbrev pub reads_at : ℕ → Place → List ℕ → Option Bool
reads_at m (Mark n note marks) queue = Some (is_due n note m)
reads_at m (Look b won k later) queue = Some (m == k)
reads_at m _ queue = None

abbrev pub reads : Slot → ℕ → Bool
reads slot m = unwrap_or (of_call (reads_at m) slot.call) false

abbrev pub IsMade : Site → List Entry → Type 0
IsMade word list = word.number < length (after (start word.name) list).slots

-- where the list was `own` at the last entry of slot s
pub record IsTrying (st : State) (s : ℕ) (own : List Entry) (m seen block : ℕ) : Type 0 where
  pub batch : ℕ
  pub won : ℕ
  pub later : List ℕ
  pub saw : List ℕ
  pub queue : List ℕ
  pub trying : (slot_at (after st own) s).call ≡ Some (record { place = Try batch won m later saw; queue = queue })
  pub is_seen : seen ≡ list_word (λ b. block_for st own b m) saw
  pub is_block : block ≡ block_for st own batch m

abbrev pub found_end : ℕ → ℕ → Insertion
found_end seen v = if v == seen then Won else Lost
