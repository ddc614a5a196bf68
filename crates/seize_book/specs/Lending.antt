-- The words in which contracts speak of contents that are lent with values: before a value is named, when it was reclaimed, and where it
-- was never named and is not to be.
--     ArePermitsOf n permits            the list of permits is that of book n, and of the store where its blocks lie
--     IsPermitFor n g permit            the permit is for this code, in the list of book n
--     IsPermitForAll pass permit        it is for what is lent with each value that was ever named, as the pass has seen
--     ArePairsPermitted pass permit     it is for codes that cover the pairs of all won exchanges that the pass has seen (see `Pairs`)
--     IsPermitOf n vs permit            it is for what is lent with each of these values of book n
--     MayLend keys ticket pool permit   there is one key of a block, with whose value nothing is lent; the ticket is that of the pool, and
--                                       the permit for it
--     IsOfPlace v ticket                the ticket is of the content that the block of the value v has in the store
--     Lends keys pool keys'             the first key's label is another value of its block, which was never named, as it knows, and with
--                                       which the pool's content is lent
--     IsHandedBy n held                 there are two keys: one of a block, with whose value something is lent, and one of a slot, whose
--                                       call is about to hand this value;  MayRedeem keys pass   these are such, of the pass's book
--     Redeems keys keys' ticket pool    the ticket is that of the pool, which is of what was lent with the first key's value (see Renames)
--     MayWithdraw keys pass             there is one key of a block, of the pass's book; something is lent with its value, which was never
--                                       named, as it knows
--     IsRowAt n v known                 it is the row of the value's number, in the store where the blocks of book n lie; and the chunk of
--                                       that number has the label of the value's home and cell, and the content that is the value's place
--     IsInBlockOf value value'          it is of a value in the same block of the same book, with the same cell
--     GoesWith value pool               the pool's content is lent with the value
--     IsFreeKey value, IsLentKey value  nothing is lent with it;  something is
use Rattle.std.specs.Prelude.{◌≡◌, ℕ, List, [], ◌∷◌, map, Some, true, false}
use base.Stored.{Gv}
use Rattle.seize_content.specs.Loans.{IsLent}
use Rattle.seize_content.specs.declared.loan.Pool.{Pool}
use Rattle.seize_content.specs.declared.ticket.Ticket.{Ticket}
use Rattle.seize_machine.specs.Machine.State.{has, slot_at}
use Rattle.seize_store.specs.RowTokens.{content_in, entry_of, label_in}
use Rattle.seize_store.specs.Named.{IsRowOf}
use Rattle.seize_store.specs.declared.row_token.RowToken.{RowToken}
use Rattle.seize_book.specs.Blocks.{block_number}
use Rattle.seize_book.specs.Book.{after, blocks, slots}
use Rattle.seize_book.specs.Entry.{Entry}
use Rattle.seize_book.specs.Homes.{home_of}
use Rattle.seize_book.specs.Homesteads.{state_seen}
use Rattle.seize_book.specs.Ledger.{HeldKey}
use Rattle.seize_book.specs.Loans.{Carries, CarriesNone, cell_of, loan_number, loan_of, place_of, CarriesOne}
use Rattle.seize_book.specs.Others.{Renames, book_of, state_of, value_of, with_label}
use Rattle.seize_book.specs.Pairs.{AreCovered, pairs_in}
use Rattle.seize_book.specs.Private.{is_one, key_of, label_of}
use Rattle.seize_book.specs.Slots.{hands_next}
use Rattle.seize_book.specs.Tokens.{Name, chunk_label, start}
use Rattle.seize_book.specs.declared.book.keys.Keys.{Keys}
use Rattle.seize_book.specs.declared.book.pass.Pass.{Pass}
use Rattle.seize_book.specs.declared.book.permit.Permit.{Permit}
use Rattle.seize_book.specs.declared.book.permit.Permits.{Permits}
use Rattle.seize_book.specs.declared.book.value_key.ValueKey.{ValueKey}

abbrev pub IsOfPlace : ℕ → Ticket → Type 0
IsOfPlace v ticket = place_of v ≡ ticket.name

abbrev pub ArePermitsOf : {C : Type 0} → Name → Permits C → Type 0
ArePermitsOf n permits = (permits.list ≡ n.permits) × (permits.store ≡ n.store)

-- the list of the pairs, before and after, that its links may go through
abbrev pub ArePairsOf : {C : Type 0} → Name → Permits C → Type 0
ArePairsOf n pairs = (pairs.list ≡ n.pairs) × (pairs.store ≡ n.store)

abbrev pub IsPermitFor : Name → Gv → Permit → Type 0
IsPermitFor n g permit = (permit.list ≡ n.permits) × (permit.codes ≡ loan_number g ∷ [])

abbrev pub IsPermitOf : Name → List ℕ → Permit → Type 0
IsPermitOf n vs permit = (permit.list ≡ n.permits) × (permit.codes ≡ map loan_of vs)

abbrev pub IsPermitForAll : Pass → Permit → Type 0
IsPermitForAll pass permit = IsPermitOf pass.name (state_seen pass).named permit

abbrev pub ArePairsPermitted : Pass → Permit → Type 0
ArePairsPermitted pass permit = (permit.list ≡ pass.name.pairs) × AreCovered permit.codes (pairs_in (start pass.name) pass.seen)

abbrev pub MayLend : Keys → Ticket → Pool → Permit → Type 0
MayLend keys ticket pool permit =
    (is_one blocks keys.held ≡ true) × CarriesNone (label_of keys.held) × IsLent ticket pool
    × IsOfPlace (label_of keys.held) ticket × IsPermitFor keys.name pool.value permit

pub record Lends (keys : Keys) (pool : Pool) (keys' : Keys) : Type 0 where
  pub value : ℕ
  pub book : keys'.name ≡ keys.name
  pub held : keys'.held ≡ with_label value keys.held
  pub home : home_of value ≡ home_of (label_of keys.held)
  pub numbered : block_number value ≡ block_number (label_of keys.held)
  pub unnamed : has value (state_of keys).named ≡ false
  pub cell : cell_of value ≡ cell_of (label_of keys.held)
  pub carries : Carries value pool.name pool.value

abbrev pub IsHandedBy : Name → List (HeldKey Entry) → Type 0
IsHandedBy n (h ∷ k ∷ []) =
    (is_one blocks (h ∷ []) ≡ true) × (is_one slots (k ∷ []) ≡ true) × CarriesOne h.label
    × (hands_next (slot_at (after (start n) k.own) k.key) ≡ Some h.label)
IsHandedBy n _ = ⊥

abbrev pub MayRedeem : Keys → Pass → Type 0
MayRedeem keys pass = (keys.name ≡ pass.name) × IsHandedBy pass.name keys.held

abbrev pub Redeems : Keys → Keys → Ticket → Pool → Type 0
Redeems keys keys' ticket pool = Renames keys keys' × IsLent ticket pool × Carries (label_of keys.held) pool.name pool.value

abbrev pub MayWithdraw : Keys → Pass → Type 0
MayWithdraw keys pass =
    (keys.name ≡ pass.name) × (is_one blocks keys.held ≡ true) × (key_of keys.held ≡ home_of (label_of keys.held))
    × CarriesOne (label_of keys.held) × (has (label_of keys.held) (state_of keys).named ≡ false)

abbrev pub IsRowAt : Name → ℕ → RowToken → Type 0
IsRowAt n v known =
    (known.store ≡ n.store) × IsRowOf known (block_number v)
    × (label_in known.chunks (entry_of (block_number v)) ≡ chunk_label n (home_of v) (cell_of v))
    × (content_in known.chunks (entry_of (block_number v)) ≡ place_of v)

abbrev pub GoesWith : ValueKey → Pool → Type 0
GoesWith value pool = Carries (value_of value) pool.name pool.value

abbrev pub IsInBlockOf : ValueKey → ValueKey → Type 0
IsInBlockOf value value' =
    (book_of value' ≡ book_of value) × (home_of (value_of value') ≡ home_of (value_of value))
    × (cell_of (value_of value') ≡ cell_of (value_of value))

abbrev pub IsFreeKey : ValueKey → Type 0
IsFreeKey value = CarriesNone (value_of value)

abbrev pub IsLentKey : ValueKey → Type 0
IsLentKey value = CarriesOne (value_of value)
