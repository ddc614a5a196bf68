-- Values that are in no link can be read: those that came out of one, with which something is lent since they were named, and those that
-- were never named and were lent.
use Rattle.std.proofs.Common.{◌≡◌, ℕ, Option, sym, ◌∙◌}
use base.Stored.{Gv}
use Rattle.seize_machine.specs.Machine.Event.{ExchangeLink}
use Rattle.seize_machine.specs.declared.machine.event.Exchange.TheVariants.{Compare, Swap}
use Rattle.seize_book.specs.Blocks.{link_word}
use Rattle.seize_book.specs.Lending.{IsLentKey}
use Rattle.seize_book.specs.Others.{value_of}
use Rattle.seize_book.specs.declared.book.pass.Pass.{Pass}
use Rattle.seize_book.specs.declared.book.value_key.ValueKey.{ValueKey}
use Rattle.seize_words.specs.Chunks.{LendsIn}
use Rattle.seize_words.specs.LinkWords.{CompareExchanges, Swaps, link_number, value_held}
use Rattle.seize_words.specs.declared.activation.Activation.{Activation}
use Rattle.seize_words.specs.declared.glimpse.Glimpse.{Glimpse}
use Rattle.seize_words.specs.declared.link.Link.{Link}
use Rattle.seize_words.specs.declared.link.MaybeKey.{MaybeKey}
use Rattle.seize_words.specs.declared.words.Words.{Words}
use Rattle.seize_words.proofs.Facts.{held_lent, is_lent}
use Rattle.seize_calls.specs.Slots.{IsLooseIn, IsReadable, its_value}
use Rattle.seize_calls.specs.declared.slot.Loose.{Loose}

-- what an exchange took out
pub swapped_readable : (link : Link) (a : Activation) (key : MaybeKey) (pass : Pass) (key' : MaybeKey) (pass' : Pass) (v : ℕ) (loose : Loose) → Swaps link a key pass key' pass' v → IsLooseIn key' loose → IsReadable loose
swapped_readable link a key pass key' pass' v loose t is =
    held_lent link a pass pass' (ExchangeLink a.slot (link_number link) (Swap (value_held key))) v (its_value loose) t.0 (sym t.2 ∙ is.1)

-- and what a compare and exchange took out that was won
pub compared_readable : (link : Link) (a : Activation) (key : MaybeKey) (pass : Pass) (current : Option ℕ) (key' : MaybeKey) (pass' : Pass) (v : ℕ) (glimpse : Glimpse) (loose : Loose)
    → CompareExchanges link a key pass current key' pass' v glimpse → v ≡ link_word current → IsLooseIn key' loose → IsReadable loose
compared_readable link a key pass current key' pass' v glimpse loose t won is =
    held_lent link a pass pass' (ExchangeLink a.slot (link_number link) (Compare current (value_held key))) v (its_value loose) t.0 (sym (t.2 won).1 ∙ is.1)

-- with a value that was lent something is lent, as `Loose::new` asks
pub lends_key : {T : Type 0} (words : Words T) (key : ValueKey) (number : ℕ) (g : Gv) → LendsIn words.blocks key number g → IsLentKey key
lends_key words key number g lends = is_lent (value_of key) g lends.code
