-- One value goes to its reclaimer, out of its block.
use Rattle.std.proofs.Common.{◌≡◌, ℕ, List, [], ◌∷◌, ◌++◌, get_or, Some, refl, sym, ap, ◌∙◌, append_assoc, append-nil}
use Rattle.std.proofs.lemmas.List.{get_or-set_same}
use Rattle.seize_machine.specs.Machine.State.{Head, Inactive, Slot, State, is_active, no_slot, slot_at}
use Rattle.seize_machine.specs.Machine.Event.{Event, Hand}
use Rattle.seize_machine.specs.Machine.Next.{handing_at, of_call}
use Rattle.seize_machine.specs.declared.machine.event.Answer.{Answer}
use Rattle.seize_machine.specs.declared.machine.event.Answer.TheVariants.{Handed}
use Rattle.seize_machine.proofs.Facts.{Step, some_is}
use Rattle.seize_book.specs.Adding.{deed_with_words}
use Rattle.seize_book.specs.Entry.{Deed}
use Rattle.seize_book.specs.Kept.{kepts_of}
use Rattle.seize_book.specs.Lending.{IsLentKey}
use Rattle.seize_book.specs.Others.{IsValueOf, value_of}
use Rattle.seize_book.specs.Passes.{LooksOn, events_by}
use Rattle.seize_book.specs.Slots.{AddsDeed, IsKeyOfBook, hands_next, slot_number, slot_of}
use Rattle.seize_words.specs.Walks.{Knows}
use Rattle.seize_book.specs.Values.{values_of}
use Rattle.seize_book.specs.declared.book.pass.Pass.{Pass}
use Rattle.seize_book.specs.declared.book.slot_key.SlotKey.{SlotKey}
use Rattle.seize_book.specs.declared.book.value_key.ValueKey.{ValueKey}
use Rattle.seize_words.proofs.Facts.{deeds_grew, hand_leaves, handing_named, knows_still, named_lent}
use Rattle.seize_book.specs.declared.book.value_keys.ValueKeys.{ValueKeys}
use Rattle.seize_calls.specs.Handing.{AreTheirs, Had, Handings, HasHad, Queues, values_handed, values_put, words_put}
use Rattle.seize_calls.specs.Walking.{ContinuesAndKnows, HandsOne}
use Rattle.seize_calls.proofs.Keeps.{keeps_from, keeps_looked, keeps_twice, looked_same, outcome, own_grows, same_telling, state_before, step_noted}
use Rattle.seize_calls.proofs.Marks.{within}

-- the machine hands a value whose reclaimer puts these
after_hand : (size : ℕ) (st : State) (s v : ℕ) (puts : List ℕ) (d : State × Answer) → Step size st (Hand s puts) d → hands_next (slot_at st s) ≡ Some v
    → ((slot_at d.0 s).batch ≡ (slot_at st s).batch) × ((slot_at d.0 s).used ≡ (slot_at st s).used) × (d.0.heads ≡ st.heads) × (d.1 ≡ Handed v)
after_hand size st _ v _ _ (Step.handed s w puts given walk queue stands fresh) next =
    let same = get_or-set_same st.slots s _ no_slot (within st s _ stands) in (
      ap (λ (z : Slot). z.batch) same,
      ap (λ (z : Slot). z.used) same,
      refl,
      ap (λ (u : ℕ). Handed u) (some_is w v (sym (ap (of_call handing_at) stands) ∙ next)),
    )

-- The event, with the looks before and after it.
module _ (key key' : SlotKey) (pass looked handed pass' : Pass) (v : ℕ) (puts words : List ℕ) (before : LooksOn pass looked) (notes : AddsDeed key looked key' handed (deed_with_words looked (Hand (slot_number key) puts) words)) (behind : LooksOn handed pass') (soon : hands_next (slot_of key) ≡ Some v) where
  abbrev event : Event
  event = Hand (slot_number key) puts

  pub so : ((slot_at (outcome key key' looked handed event words notes).0 (slot_number key)).batch ≡ (slot_at (state_before key key' looked handed event words notes) (slot_number key)).batch)
      × ((slot_at (outcome key key' looked handed event words notes).0 (slot_number key)).used ≡ (slot_at (state_before key key' looked handed event words notes) (slot_number key)).used)
      × ((outcome key key' looked handed event words notes).0.heads ≡ (state_before key key' looked handed event words notes).heads) × ((outcome key key' looked handed event words notes).1 ≡ Handed v)
  so =
      after_hand looked.size (state_before key key' looked handed event words notes) (slot_number key) v puts (outcome key key' looked handed event words notes) (step_noted key key' looked handed event words notes)
      (ap hands_next notes.2.1.was ∙ soon)

  pub goes_on : ContinuesAndKnows key pass key' pass'
  goes_on = (
    keeps_twice key key key' pass looked pass' (keeps_looked key pass looked before)
        (keeps_twice key key' key' looked handed pass' (keeps_from key key' looked handed event words notes so.0 so.1 (ap (λ (hs : List Head). is_active (get_or hs (slot_number key) Inactive)) so.2) refl) (keeps_looked key' handed pass' behind)),
    own_grows key key' looked handed event words notes,
  )

  abbrev pub hands_so : (queue queue' : ValueKeys) → Queues queue puts words queue' → HandsOne key pass v queue key' pass' queue'
  hands_so queue queue' queued = record {
    goes_on = goes_on;
    puts = puts;
    words = words;
    queued = queued;
    made =
        looked_same handed pass' behind ∙ deeds_grew looked handed (deed_with_words looked event words) notes.0 notes.2.0
        ∙ ap (λ (a : Answer). events_by looked ++ (deed_with_words looked event words, a) ∷ []) so.3
        ∙ ap (λ (log : List (Deed × Answer)). log ++ (deed_with_words looked event words, Handed v) ∷ []) (looked_same pass looked before)
        ∙ ap (λ (d : Deed). events_by pass ++ (d, Handed v) ∷ []) (same_telling pass looked before.same event words);
    stands = λ given walk waits is. hand_leaves key key' looked handed puts words given walk waits v notes is;
  }

-- with a value that is about to be handed something is lent
pub soon_lent : (value : ValueKey) (key : SlotKey) (pass pass' : Pass) → IsValueOf value pass' → IsKeyOfBook key pass → Knows key pass → LooksOn pass pass'
    → hands_next (slot_of key) ≡ Some (value_of value) → IsLentKey value
soon_lent value key pass pass' its book knows looks soon =
    named_lent value pass pass' looks its (handing_named key pass' (book ∙ sym looks.same.0) (knows_still key pass pass' knows looks) (value_of value) soon)

-- What was had of some values, and of more.

theirs_append : (a b : Handings) (k l : List ℕ) (x y : Had) → AreTheirs a k x → AreTheirs b l y → AreTheirs (a ++ b) (k ++ l) (x ++ y)
theirs_append [] b [] l [] y one two = two
theirs_append [] b [] l (first ∷ x) y one two = absurd one
theirs_append [] b (kept ∷ k) l x y one two = absurd one
theirs_append (h ∷ a) b [] l x y one two = absurd one
theirs_append (h ∷ a) b (kept ∷ k) l [] y one two = absurd one
theirs_append (h ∷ a) b (kept ∷ k) l (first ∷ x) y one two = (one.0, theirs_append a b k l x y one.1 two)

abbrev pub had_none : (had : Had) → HasHad [] [] had had
had_none had = record { more = []; theirs = tt; after = sym (append-nil had) }

pub had_more : (a b : Handings) (k l : List ℕ) (had had1 had2 : Had) → HasHad a k had had1 → HasHad b l had1 had2 → HasHad (a ++ b) (k ++ l) had had2
had_more a b k l had had1 had2 one two = record {
  more = one.more ++ two.more;
  theirs = theirs_append a b k l one.more two.more one.theirs two.theirs;
  after = two.after ∙ (ap (λ (log : Had). log ++ two.more) one.after ∙ append_assoc had one.more two.more);
}

-- What was handed, and more.

pub handed_append : (one two : Handings) → values_handed (one ++ two) ≡ values_handed one ++ values_handed two
handed_append [] two = refl
handed_append (first ∷ one) two = ap (λ (vs : List ℕ). first.0 ∷ vs) (handed_append one two)

pub put_append : (one two : Handings) → values_put (one ++ two) ≡ values_put one ++ values_put two
put_append [] two = refl
put_append (first ∷ one) two = ap (λ (vs : List ℕ). first.1 ++ vs) (put_append one two) ∙ sym (append_assoc first.1 (values_put one) (values_put two))

-- and what came to the queue

pub queues_none : (queue : ValueKeys) → Queues queue [] [] queue
queues_none queue = (refl, sym (append-nil (values_of queue)), sym (append-nil (kepts_of queue)))

pub words_append : (one two : Handings) → words_put (one ++ two) ≡ words_put one ++ words_put two
words_append [] two = refl
words_append (first ∷ one) two = ap (λ (ks : List ℕ). first.2 ++ ks) (words_append one two) ∙ sym (append_assoc first.2 (words_put one) (words_put two))

pub queues_more : (queue queue1 queue2 : ValueKeys) (one two : Handings) → Queues queue (values_put one) (words_put one) queue1 → Queues queue1 (values_put two) (words_put two) queue2
    → Queues queue (values_put (one ++ two)) (words_put (one ++ two)) queue2
queues_more queue queue1 queue2 one two first second = (
  second.0 ∙ first.0,
  second.1 ∙ (ap (λ (vs : List ℕ). vs ++ values_put two) first.1 ∙ (append_assoc (values_of queue) (values_put one) (values_put two) ∙ ap (λ (vs : List ℕ). values_of queue ++ vs) (sym (put_append one two)))),
  second.2 ∙ (ap (λ (ks : List ℕ). ks ++ words_put two) first.2 ∙ (append_assoc (kepts_of queue) (words_put one) (words_put two) ∙ ap (λ (ks : List ℕ). kepts_of queue ++ ks) (sym (words_append one two)))),
)
