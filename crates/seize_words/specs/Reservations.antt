-- The words in which the contracts of heads speak.
--     slot head                   the slot of the head;  IsHeadOfBook head pass     it is of the pass's book
--     MayRead key head pass       the slot's call reads this head next, and the pass has seen that its slot is there
--     ShowsHead head list v       the list says that the head's word is v
--     FoundBefore head pass' v    all that the pass has seen shows v, without its last event
--     TriesAt key head seen block     the slot's call is about to insert its batch here: see IsTrying. The block leads on
--                                 to what the slot saw, and to its batch's first block. The block's number fits beside 2
--     IsOwnHead head key, IsOut key stays     it is the slot's own head;  the slot's call is about to swap it out
--     WalksFrom head key' v queue         the slot's call walks the batches that the word v of the head shows, and goes on with this queue
--     IsOfSlot key a                      it is an activation of the key's slot, with all units
--     IsLastOf key a                      and the slot's last one;  IsActivationOf key a     and it has begun with what the key knows last
--     head_known key                      the head, as its key knows;  IsHeadOf head key     it is that of the key
use Rattle.std.specs.Prelude.{◌≡◌, ℕ, ◌+◌, ◌<◌, ◌^◌, Bool, true, List, [], ◌∷◌, ◌++◌, Some}
use Rattle.seize_machine.specs.Machine.Event.{Event}
use Rattle.seize_machine.specs.Machine.State.{Head as MachineHead, Out, Rest, head_at, is_active}
use Rattle.seize_book.specs.Blocks.{block_for, head_word, list_word}
use Rattle.seize_book.specs.Book.{after}
use Rattle.seize_book.specs.Entry.{Entry, Deed}
use Rattle.seize_words.specs.Activations.{IsActivationFor}
use Rattle.seize_words.specs.Headers.{HasWritten}
use Rattle.seize_words.specs.Heads.{IsMade, IsTrying, reads}
use Rattle.seize_book.specs.Laws.{life}
use Rattle.seize_book.specs.Others.{state_of}
use Rattle.seize_book.specs.Private.{key_of}
use Rattle.seize_book.specs.Slots.{life_of, own_list, slot_number, slot_of, start_of}
use Rattle.seize_book.specs.Tokens.{start}
use Rattle.seize_words.specs.declared.activation.Activation.{Activation}
use Rattle.seize_book.specs.declared.book.head_key.HeadKey.{HeadKey}
use Rattle.seize_book.specs.declared.book.pass.Pass.{Pass}
use Rattle.seize_book.specs.declared.book.slot_key.SlotKey.{SlotKey}
use Rattle.seize_words.specs.declared.reservation.Head.{Head}

abbrev pub slot : Head → ℕ
slot head = head.word.number

abbrev pub IsHeadOfBook : Head → Pass → Type 0
IsHeadOfBook head pass = head.word.name ≡ pass.name

abbrev pub MayRead : SlotKey → Head → Pass → Type 0
MayRead key head pass = (reads (slot_of key) (slot head) ≡ true) × IsMade head.word pass.seen

abbrev pub ShowsHead : Head → List Entry → ℕ → Type 0
ShowsHead head list v = v ≡ head_word (start head.word.name) list (slot head)

abbrev pub FoundBefore : Head → Pass → ℕ → Type 0
FoundBefore head pass' v = (before : List Entry) × (last : Entry) × (pass'.seen ≡ before ++ last ∷ []) × ShowsHead head before v

abbrev pub TriesAt : SlotKey → Head → ℕ → ℕ → Type 0
TriesAt key head seen block =
    (t : IsTrying (start_of key) (slot_number key) (own_list key) (slot head) seen block) × HasWritten key seen t.batch
    × (block + 2 < 2 ^ 64)

-- Activations.

abbrev pub IsOwnHead : Head → SlotKey → Type 0
IsOwnHead head key = slot head ≡ slot_number key

-- the slot's call is about to swap its head out, and then the slot stays active or not
abbrev pub IsOut : SlotKey → Bool → Type 0
IsOut key stays = (queue : List ℕ) × ((slot_of key).call ≡ Some (record { place = Out stays; queue = queue }))

-- where the slot's call goes on that has swapped its head out, which had this word
abbrev pub WalksFrom : Head → SlotKey → ℕ → List ℕ → Type 0
WalksFrom head key' v queue =
    (walk : List ℕ) × ((slot_of key').call ≡ Some (record { place = Rest [] walk; queue = queue }))
    × (v ≡ list_word (λ b. block_for (start_of key') (own_list key') b (slot head)) walk)

abbrev pub IsOfSlot : SlotKey → Activation → Type 0
IsOfSlot key a = IsActivationFor key.keys a

abbrev pub IsLastOf : SlotKey → Activation → Type 0
IsLastOf key a = IsOfSlot key a × (a.life ≡ life_of key)

-- the entry of an event that begins an activation with this lifetime
abbrev pub beginning : Pass → ℕ → Event → Deed
beginning pass life event = record { pass = pass.id; size = pass.size; event = event; life = life; kepts = [] }

-- it has begun with what the key knows last
pub record IsActivationOf (key : SlotKey) (a : Activation) : Type 0 where
  pub of_slot : IsOfSlot key a
  pub since : a.since ≡ own_list key
  pub active : is_active (head_at (after (start a.name) a.since) a.slot) ≡ true
  pub its : life a.slot a.since ≡ a.life

-- Heads are made.

abbrev pub head_known : HeadKey → MachineHead
head_known key = head_at (state_of key.keys) (key_of key.keys.held)

abbrev pub IsHeadOf : Head → HeadKey → Type 0
IsHeadOf head key = (head.word.name ≡ key.keys.name) × (slot head ≡ key_of key.keys.held)
