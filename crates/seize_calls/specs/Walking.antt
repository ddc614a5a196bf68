-- How a call walks what came out of its own head, and hands what is given up to it.
--     countings pass s counts    slot s counted batches down with the pass, and these were the counts then;  hands pass s handed     it
--                                handed these values to their reclaimers, each of which put those beside it
--     ContinuesAndKnows key pass key' pass'   as Continues, and the key knows all that it knew
--     IsAtWalk key word          the slot's call has nothing to hand, and walks some batches, to which this word leads;  walk_at   these
--     IsGiven key pass values front     these values were given up to the slot's call, which is to hand them next: their keys know all
--                                that the pass has seen, and that all others that lay in their blocks were reclaimed. This is the number
--                                of the first one's block; each leads on to the next, and the last to none
--     WalksTo at pass key' pass' values' ends    it counted batches down: all of the walk, and none was given up; or the last was, and it
--                                has still to walk the others
--     HandsOne key pass v queue key' pass' queue'     it handed this value, and nothing else was made; it has still to hand what came after
--                                it, and what the reclaimer put came to its queue, last
--     HandsAll given queue key' pass' values' queue'     it handed them all, in order, and nothing else was made; what their reclaimers put
--                                came to its queue
--     steps pass s walked        it counted batches down, which came to these counts, and after each it handed these values
--     handed_in walked           the values that it handed, each with those that its reclaimer put
--     WalksAll at pass queue had key' pass' queue' had'     it counted down each batch of the walk once, in order, and after each it handed
--                                what was given up, which the reclaimer had (HasHad); what was put came to its queue
use Rattle.std.specs.Prelude.{◌≡◌, ℕ, ℤ, true, false, List, [], ◌∷◌, ◌++◌, length, Some}
use mathlib.Core.List.{IsPrefix}
use Rattle.seize_machine.specs.Machine.Event.{Hand, SubCount}
use Rattle.seize_machine.specs.Machine.History.{first_or_none}
use Rattle.seize_machine.specs.Machine.Next.{is_zero}
use Rattle.seize_machine.specs.Machine.State.{Rest}
use Rattle.seize_machine.specs.declared.machine.event.Answer.{Answer}
use Rattle.seize_machine.specs.declared.machine.event.Answer.TheVariants.{Count, Handed}
use Rattle.seize_book.specs.Adding.{deed_with_words, private}
use Rattle.seize_book.specs.Blocks.{block_number}
use Rattle.seize_book.specs.Kept.{AllTold, AreTold}
use Rattle.seize_book.specs.Values.{AreClosed, AreLast, AreOfBook, FollowsValues, IsEmpty, values_of}
use Rattle.seize_book.specs.Entry.{Deed}
use Rattle.seize_book.specs.Passes.{events_by}
use Rattle.seize_book.specs.Slots.{own_list, slot_number, slot_of}
use Rattle.seize_words.specs.Walks.{word_for}
use Rattle.seize_book.specs.declared.book.pass.Pass.{Pass}
use Rattle.seize_book.specs.declared.book.slot_key.SlotKey.{SlotKey}
use Rattle.seize_book.specs.declared.book.value_keys.ValueKeys.{ValueKeys}
use Rattle.seize_calls.specs.Handing.{Had, Handings, HasHad, Queues, values_handed, values_put, words_put}
use Rattle.seize_calls.specs.Inserts.{Continues}
use Rattle.seize_calls.specs.declared.walking.WalkOutcome.{WalkOutcome}
use Rattle.seize_calls.specs.declared.walking.WalkOutcome.TheVariants.{GivesUp, Over}

abbrev pub counting : Pass → ℕ → ℤ → Deed × Answer
counting pass s count = (private pass (SubCount s), Count count)

abbrev pub countings : Pass → ℕ → List ℤ → List (Deed × Answer)
countings pass s [] = []
countings pass s (count ∷ counts) = counting pass s count ∷ countings pass s counts

abbrev pub handing : Pass → ℕ → ℕ × List ℕ × List ℕ → Deed × Answer
handing pass s one = (deed_with_words pass (Hand s one.1) one.2, Handed one.0)

abbrev pub hands : Pass → ℕ → Handings → List (Deed × Answer)
hands pass s [] = []
hands pass s (one ∷ handed) = handing pass s one ∷ hands pass s handed

abbrev pub ContinuesAndKnows : SlotKey → Pass → SlotKey → Pass → Type 0
ContinuesAndKnows key pass key' pass' = Continues key pass key' pass' × IsPrefix (own_list key) (own_list key')

pub record IsAtWalk (key : SlotKey) (word : ℕ) : Type 0 where
  pub walk : List ℕ
  pub queue : List ℕ
  pub walking : (slot_of key).call ≡ Some (record { place = Rest [] walk; queue = queue })
  pub leads : word ≡ word_for key walk

pub record IsGiven (key : SlotKey) (pass : Pass) (values : ValueKeys) (front : ℕ) : Type 0 where
  pub walk : List ℕ
  pub queue : List ℕ
  pub given_up : (slot_of key).call ≡ Some (record { place = Rest (values_of values) walk; queue = queue })
  pub first : ℕ
  pub is_first : first_or_none (values_of values) ≡ Some first
  pub its_block : front ≡ block_number first
  pub book : AreOfBook values pass
  pub keys : FollowsValues values pass values
  pub last : AreLast values pass
  pub closed : AreClosed values
  pub told : AreTold values pass

-- none of them is 0
abbrev pub AreHeld : List ℤ → Type 0
AreHeld [] = Unit {0}
AreHeld (count ∷ counts) = (is_zero count ≡ false) × AreHeld counts

-- after these counts, none of which was 0
pub record EndsWalk {key : SlotKey} {word : ℕ} (at : IsAtWalk key word) (held : List ℤ) (pass : Pass) (key' : SlotKey) (pass' : Pass)
    (values' : ValueKeys) : Type 0 where
  pub each : length held ≡ length at.walk
  pub made : events_by pass' ≡ events_by pass ++ countings pass (slot_number key) held
  pub over : (slot_of key').call ≡ Some (record { place = Rest [] []; queue = at.queue })
  pub none : IsEmpty values' pass'

-- and then one of 0
pub record Stops {key : SlotKey} {word : ℕ} (at : IsAtWalk key word) (held : List ℤ) (pass : Pass) (key' : SlotKey) (pass' : Pass)
    (values' : ValueKeys) (front rest : ℕ) : Type 0 where
  pub zero : ℤ
  pub is_zero_last : is_zero zero ≡ true
  pub made : events_by pass' ≡ events_by pass ++ countings pass (slot_number key) (held ++ zero ∷ [])
  pub gives : IsGiven key' pass' values' front
  pub leads : rest ≡ word_for key' gives.walk
  pub done : List ℕ
  pub each : length done ≡ length (held ++ zero ∷ [])
  pub walked : at.walk ≡ done ++ gives.walk
  pub same_queue : gives.queue ≡ at.queue

abbrev pub EndsSo : {key : SlotKey} {word : ℕ} → IsAtWalk key word → List ℤ → Pass → SlotKey → Pass → ValueKeys → WalkOutcome → Type 0
EndsSo at held pass key' pass' values' Over = EndsWalk at held pass key' pass' values'
EndsSo at held pass key' pass' values' (GivesUp front rest) = Stops at held pass key' pass' values' front rest

pub record WalksTo {key : SlotKey} {word : ℕ} (at : IsAtWalk key word) (pass : Pass) (key' : SlotKey) (pass' : Pass) (values' : ValueKeys)
    (ends : WalkOutcome) : Type 0 where
  pub goes_on : ContinuesAndKnows key pass key' pass'
  pub held : List ℤ
  pub above : AreHeld held
  pub ends_so : EndsSo at held pass key' pass' values' ends

-- Values are handed.

pub record HandsOne (key : SlotKey) (pass : Pass) (v : ℕ) (queue : ValueKeys) (key' : SlotKey) (pass' : Pass)
    (queue' : ValueKeys) : Type 0 where
  pub goes_on : ContinuesAndKnows key pass key' pass'
  pub puts : List ℕ
  pub words : List ℕ
  pub made : events_by pass' ≡ events_by pass ++ hands pass (slot_number key) ((v, puts, words) ∷ [])
  pub stands : (given walk waits : List ℕ) → (slot_of key).call ≡ Some (record { place = Rest (v ∷ given) walk; queue = waits })
      → (slot_of key').call ≡ Some (record { place = Rest given walk; queue = waits ++ puts })
  pub queued : Queues queue puts words queue'

pub record HandsAll {key : SlotKey} {pass : Pass} {values : ValueKeys} {front : ℕ} (given : IsGiven key pass values front)
    (queue : ValueKeys) (key' : SlotKey) (pass' : Pass) (values' queue' : ValueKeys) : Type 0 where
  pub goes_on : ContinuesAndKnows key pass key' pass'
  pub handed : Handings
  pub which : values_handed handed ≡ values_of values
  pub made : events_by pass' ≡ events_by pass ++ hands pass (slot_number key) handed
  pub walks_on : (slot_of key').call ≡ Some (record { place = Rest [] given.walk; queue = given.queue ++ values_put handed })
  pub none : IsEmpty values' pass'
  pub queued : Queues queue (values_put handed) (words_put handed) queue'

abbrev pub steps : Pass → ℕ → List (ℤ × Handings) → List (Deed × Answer)
steps pass s [] = []
steps pass s (step ∷ walked) = (counting pass s step.0 ∷ hands pass s step.1) ++ steps pass s walked

abbrev pub handed_in : List (ℤ × Handings) → Handings
handed_in [] = []
handed_in (step ∷ walked) = step.1 ++ handed_in walked

pub record WalksAll {key : SlotKey} {word : ℕ} (at : IsAtWalk key word) (pass : Pass) (queue : ValueKeys) (had : Had) (key' : SlotKey)
    (pass' : Pass) (queue' : ValueKeys) (had' : Had) : Type 0 where
  pub goes_on : ContinuesAndKnows key pass key' pass'
  pub walked : List (ℤ × Handings)
  pub kepts : List ℕ
  pub has_had : HasHad (handed_in walked) kepts had had'
  pub told : AllTold pass'.seen (values_handed (handed_in walked)) kepts
  pub each : length walked ≡ length at.walk
  pub made : events_by pass' ≡ events_by pass ++ steps pass (slot_number key) walked
  pub over : (slot_of key').call ≡ Some (record { place = Rest [] []; queue = at.queue ++ values_put (handed_in walked) })
  pub queued : let handed = handed_in walked in Queues queue (values_put handed) (words_put handed) queue'
