-- The words in which the contracts of links speak.
--     IsNone key pass, IsKeyIn value key     it is none, of the pass's book;  it is the value's block's, in its name
--     link_number link            which link it is;  link_book link     its book
--     value_held key, IsSomeKey key    the value whose key it is, if it is one;  and it is one
--     IsLinkFor link activation pass   all are of one book, the activation has begun, as the pass has seen, and the link is one of the
--                                      book's
--     IsNewFor link key new       the key is that of a value that was never named, whose block is vacant, and with which something is lent;
--                                 or none; this is its word
--     IsPermittedSwap, IsPermittedExchange    the permit covers what the exchange does to the link
--     WasFoundIn lasting o pass   where o is a value, it was found in a link in the activation that lasts, as the pass has seen
--     IsLoose key                 the value was named, and it is loose, as its key knows
--     HasNextLink left, IsNext left link left'     a link is left to make;  it was made
--     ActsOnLink                  the event was made with the pass, during the activation;  IsDuring activation name list
--     Reads, Swaps, CompareExchanges     what the event is, in which state it was made, and what is had afterwards
--     IsStepOn slot number event  the event is this slot's on this link
--     WasFound a v pass           v was found in a link in this activation, as the pass has seen
--     Sees                        it is a read, and the glimpse is of what the link held
--     Finds                       it is a read, and the pass looked at the list since
use Rattle.std.specs.Prelude.{◌≡◌, ◌≢◌, ℕ, suc, List, [], Option, Some, None, true, is_some, drop}
use Rattle.seize_machine.specs.Machine.State.{head_at, is_active, link_at, has}
use Rattle.seize_machine.specs.Machine.Event.{Event, ReadLink, ExchangeLink}
use Rattle.seize_machine.specs.declared.machine.event.Exchange.TheVariants.{Swap, Compare}
use Rattle.seize_book.specs.Adding.{private}
use Rattle.seize_book.specs.Begin.{first_links}
use Rattle.seize_book.specs.Blocks.{link_word}
use Rattle.seize_book.specs.Book.{after}
use Rattle.seize_book.specs.Entry.{Entry, Made}
use Rattle.seize_book.specs.Laws.{IsAmong, Reader, ended_lives, life}
use Rattle.seize_book.specs.Ledger.{with_list}
use Rattle.seize_words.specs.Links.{IsNewIn, IsPairAllowed, IsWithin, value_in}
use Rattle.seize_book.specs.Others.{state_of}
use Rattle.seize_book.specs.Passes.{IsSamePass, LooksOn}
use Rattle.seize_book.specs.Private.{key_of}
use Rattle.seize_book.specs.Tokens.{AddsEntry, Name, start}
use Rattle.seize_words.specs.declared.activation.Activation.{Activation}
use Rattle.seize_book.specs.declared.book.link_keys.LinkKeys.{LinkKeys}
use Rattle.seize_book.specs.declared.book.pass.Pass.{Pass}
use Rattle.seize_book.specs.declared.book.permit.Permit.{Permit}
use Rattle.seize_book.specs.declared.book.value_key.ValueKey.{ValueKey}
use Rattle.seize_words.specs.declared.glimpse.Glimpse.{Glimpse}
use Rattle.seize_words.specs.declared.lasting.Lasting.{Lasting}
use Rattle.seize_words.specs.declared.link.Link.{Link}
use Rattle.seize_words.specs.declared.link.MaybeKey.{MaybeKey}

abbrev pub IsNone : MaybeKey → Pass → Type 0
IsNone key pass = (key.keys.name ≡ pass.name) × (key.keys.held ≡ [])

abbrev pub IsKeyIn : ValueKey → MaybeKey → Type 0
IsKeyIn value key = key.keys ≡ value.keys

abbrev pub link_number : Link → ℕ
link_number link = link.word.number

abbrev pub link_book : Link → Name
link_book link = link.word.name

abbrev pub value_held : MaybeKey → Option ℕ
value_held key = value_in key.keys.held

pub record IsLinkFor (link : Link) (activation : Activation) (pass : Pass) : Type 0 where
  pub book : (link_book link ≡ pass.name) × (activation.name ≡ pass.name)
  pub within : IsWithin pass.name activation.slot activation.life activation.since pass.seen (link_number link)

abbrev pub IsNewFor : Link → MaybeKey → ℕ → Type 0
IsNewFor link key new =
    (key.keys.name ≡ link_book link) × IsNewIn (link_book link) (value_held key) key.keys.held × (new ≡ link_word (value_held key))

abbrev pub WasFound : Activation → ℕ → Pass → Type 0
WasFound a v pass = Reader (start pass.name) pass.seen v a.life

-- Where threads may exchange links beside each other, what is put in may follow what the link holds: the permit covers it whatever that is;
abbrev pub IsPermittedSwap : ℕ → MaybeKey → Pass → Permit → Type 0
IsPermittedSwap l key pass permit =
    (permit.list ≡ pass.name.pairs)
    × ((old : Option ℕ) → IsPairAllowed permit.codes pass.id l old (value_held key))

-- and of an exchange that compares, where it holds what the caller takes it to hold
abbrev pub IsPermittedExchange : ℕ → MaybeKey → Pass → Option ℕ → Permit → Type 0
IsPermittedExchange l key pass current permit =
    (permit.list ≡ pass.name.pairs) × IsPairAllowed permit.codes pass.id l current (value_held key)

-- that was found in an activation which lasts
abbrev pub WasFoundIn : Lasting → Option ℕ → Pass → Type 0
WasFoundIn lasting o pass = (v : ℕ) → o ≡ Some v → Reader (start pass.name) pass.seen v lasting.life

abbrev pub IsSomeKey : MaybeKey → Type 0
IsSomeKey key = is_some (value_held key) ≡ true

-- the activation's slot was active when the list was this, and in this activation, which had not ended
abbrev pub IsDuring : Activation → Name → List Entry → Type 0
IsDuring a n list =
    (is_active (head_at (after (start n) list) a.slot) ≡ true) × (life a.slot list ≡ a.life) × ¬ (IsAmong (ended_lives list) a.life)

-- The pass added the event, during the activation, where the link held this, and this was its word.
pub record ActsOnLink (link : Link) (a : Activation) (pass pass' : Pass) (event : Event) (v : ℕ) : Type 0 where
  pub same : IsSamePass pass pass'
  pub before : List Entry
  pub noted : AddsEntry pass.name pass.id pass.seen pass'.seen (Made (private pass event))
  pub is_before : noted.before ≡ before
  pub during : IsDuring a pass.name before
  pub found : v ≡ link_word (link_at (after (start pass.name) before) (link_number link))

-- what the link held
abbrev pub held_before : {link : Link} {a : Activation} {pass pass' : Pass} {event : Event} {v : ℕ}
    → ActsOnLink link a pass pass' event v → Option ℕ
held_before {link} {a} {pass} t = link_at (after (start pass.name) t.before) (link_number link)

abbrev pub IsStepOn : ℕ → ℕ → Event → Type 0
IsStepOn s l (ReadLink i k) = (i ≡ s) × (k ≡ l)
IsStepOn s l (ExchangeLink i k exchange) = (i ≡ s) × (k ≡ l)
IsStepOn s l _ = ⊥

abbrev pub Reads : Link → Activation → Pass → Pass → ℕ → Type 0
Reads link activation pass pass' v = ActsOnLink link activation pass pass' (ReadLink activation.slot (link_number link)) v

abbrev pub Sees : Link → Activation → Pass → Pass → ℕ → Glimpse → Type 0
Sees link activation pass pass' v glimpse = (t : Reads link activation pass pass' v) × (glimpse.value ≡ held_before t)

-- the link was read, and the pass may have looked at the list since
pub record Finds (link : Link) (a : Activation) (pass pass' : Pass) (v : ℕ) : Type 0 where
  pub mid : Pass
  pub reads : Reads link a pass mid v
  pub looks : LooksOn mid pass'

-- the key knows all that the pass has seen
abbrev pub KnowsAll : MaybeKey → Pass → Type 0
KnowsAll key pass = key.keys.held ≡ with_list key.keys.held pass.seen

-- what its key is of was named, and is loose
abbrev pub IsLoose : MaybeKey → Type 0
IsLoose key =
    (v : ℕ) → value_held key ≡ Some v
    → (has v (state_of key.keys).named ≡ true) × (has v (state_of key.keys).loose ≡ true)

-- the key of what the link held came out
abbrev pub Swaps : Link → Activation → MaybeKey → Pass → MaybeKey → Pass → ℕ → Type 0
Swaps link activation key pass key' pass' v =
    (t : ActsOnLink link activation pass pass' (ExchangeLink activation.slot (link_number link) (Swap (value_held key))) v)
    × (key'.keys.name ≡ key.keys.name) × (value_held key' ≡ held_before t) × IsLoose key' × KnowsAll key' pass'

-- and here where that is what was taken to be there; else it is the same key, its value may be named still, and the glimpse is of what the
-- link held
abbrev pub CompareExchanges : Link → Activation → MaybeKey → Pass → Option ℕ → MaybeKey → Pass → ℕ → Glimpse → Type 0
CompareExchanges link activation key pass current key' pass' v glimpse =
    (t : ActsOnLink link activation pass pass' (ExchangeLink activation.slot (link_number link) (Compare current (value_held key))) v)
    × (key'.keys.name ≡ key.keys.name)
    × (v ≡ link_word current → (held_before t ≡ current) × (value_held key' ≡ held_before t) × IsLoose key' × (glimpse.value ≡ None))
    × (v ≢ link_word current →
    (value_held key' ≡ value_held key) × IsNewIn key'.keys.name (value_held key') key'.keys.held × (glimpse.value ≡ held_before t))
    × KnowsAll key' pass'

-- Links are made of the keys that their book begins with.

-- there is one left, which is empty at the book's beginning
abbrev pub HasNextLink : LinkKeys → Type 0
HasNextLink left = (l many : ℕ) × (left.keys.held ≡ first_links l (suc many)) × (link_at (start left.keys.name) l ≡ None)

abbrev pub IsNext : LinkKeys → Link → LinkKeys → Type 0
IsNext left link left' =
    (link_book link ≡ left.keys.name) × (link_number link ≡ key_of left.keys.held)
    × (left'.keys.name ≡ left.keys.name) × (left'.keys.held ≡ drop 1 left.keys.held)
