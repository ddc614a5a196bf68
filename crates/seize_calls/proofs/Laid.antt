-- Which chunks came to a list of spots, by what was made meanwhile.
use Rattle.std.proofs.Common.{◌≡◌, ℕ, zero, suc, ℤ, Bool, true, false, List, [], ◌∷◌, ◌++◌, map, refl, sym, ap, subst, ◌∙◌, append_assoc, append-nil}
use Rattle.std.proofs.lemmas.List.{map-append}
use Rattle.seize_machine.specs.Machine.Event.{AddCount, Detach}
use Rattle.seize_machine.specs.declared.machine.event.Answer.{Answer}
use Rattle.seize_machine.specs.declared.machine.event.Answer.TheVariants.{Count}
use Rattle.seize_store.specs.Named.{hollow_number, hollow_title, titles_of, titles_with}
use Rattle.seize_store.specs.declared.hollow.Hollow.{Hollow}
use Rattle.seize_store.specs.declared.row_token.Title.{Title}
use Rattle.seize_store.specs.declared.spot.Spots.{Spots}
use Rattle.seize_book.specs.Adding.{private}
use Rattle.seize_book.specs.Blocks.{block_number}
use Rattle.seize_book.specs.Entry.{Deed}
use Rattle.seize_book.specs.Passes.{MadeNone, events_by, events_in}
use Rattle.seize_book.specs.Slots.{AddsDeed, slot_number}
use Rattle.seize_book.specs.declared.book.pass.Pass.{Pass}
use Rattle.seize_book.specs.declared.book.slot_key.SlotKey.{SlotKey}
use Rattle.seize_book.specs.declared.book.value_keys.ValueKeys.{ValueKeys}
use Rattle.seize_words.specs.declared.chunk.Header.{Header}
use Rattle.seize_words.specs.declared.chunk.Part.{Part}
use Rattle.seize_words.proofs.Facts.{deeds_grew}
use Rattle.seize_calls.specs.Attempts.{Retires}
use Rattle.seize_calls.specs.Handing.{GainsSpot}
use Rattle.seize_calls.specs.Inserts.{InsertTries, all_insert_events, insert_events, last_at, losses}
use Rattle.seize_calls.specs.Laying.{Lays, handed_by, handed_with, lay_all}
use Rattle.seize_calls.specs.Marks.{BeginsToMark, EndsMarks, actives, readings}
use Rattle.seize_calls.specs.Settling.{done_event}
use Rattle.seize_calls.specs.Walking.{HandsOne, IsAtWalk, WalksTo, countings}
use Rattle.seize_calls.specs.declared.marking.MarkOutcome.TheVariants.{TooMany}
use Rattle.seize_calls.specs.declared.walking.WalkOutcome.{WalkOutcome}
use Rattle.seize_calls.specs.declared.walking.WalkOutcome.TheVariants.{GivesUp, Over}

-- What some events handed, and more.

pub handed_append : (one two : List (Deed × Answer)) → handed_by (one ++ two) ≡ handed_by one ++ handed_by two
handed_append [] two = refl
handed_append (first ∷ one) two =
    ap (λ (vs : List ℕ). handed_with first.0.event first.1 ++ vs) (handed_append one two) ∙ sym (append_assoc (handed_with first.0.event first.1) (handed_by one) (handed_by two))

-- events that hand nothing, after others
pub quiet_after : (log made : List (Deed × Answer)) → handed_by made ≡ [] → handed_by (log ++ made) ≡ handed_by log
quiet_after log made none = handed_append log made ∙ ap (λ (vs : List ℕ). handed_by log ++ vs) none ∙ append-nil (handed_by log)

pub quiet_readings : (pass : Pass) (s n : ℕ) (finds : List Bool) → handed_by (readings pass s n finds) ≡ []
quiet_readings pass s n [] = refl
quiet_readings pass s n (found ∷ finds) = quiet_readings pass s (suc n) finds

quiet_losses : (pass : Pass) (s m lost : ℕ) → handed_by (losses pass s m lost) ≡ []
quiet_losses pass s m zero = refl
quiet_losses pass s m (suc lost) = quiet_after (losses pass s m lost) _ refl ∙ quiet_losses pass s m lost

quiet_last : (pass : Pass) (s m : ℕ) (won : Bool) → handed_by (last_at pass s m won) ≡ []
quiet_last pass s m true = refl
quiet_last pass s m false = refl

quiet_turn : (pass : Pass) (s m : ℕ) (turn : InsertTries) → handed_by (insert_events pass s m turn) ≡ []
quiet_turn pass s m turn = quiet_after (losses pass s m turn.lost) (last_at pass s m turn.won) (quiet_last pass s m turn.won) ∙ quiet_losses pass s m turn.lost

pub quiet_inserts : (pass : Pass) (s : ℕ) (ms : List ℕ) (turns : List InsertTries) → handed_by (all_insert_events pass s ms turns) ≡ []
quiet_inserts pass s [] turns = refl
quiet_inserts pass s (m ∷ ms) [] = refl
quiet_inserts pass s (m ∷ ms) (turn ∷ turns) =
    quiet_after (insert_events pass s m turn) (all_insert_events pass s ms turns) (quiet_inserts pass s ms turns) ∙ quiet_turn pass s m turn

pub quiet_countings : (pass : Pass) (s : ℕ) (counts : List ℤ) → handed_by (countings pass s counts) ≡ []
quiet_countings pass s [] = refl
quiet_countings pass s (count ∷ counts) = quiet_countings pass s counts

-- The list is as it was where nothing was handed.

pub lays_quiet : {T : Type 0} (pass pass' : Pass) (spots : Spots Header Part T) → handed_by (events_by pass') ≡ handed_by (events_by pass) → Lays pass spots pass' spots
lays_quiet pass pass' spots same = record { values = []; handed = same ∙ sym (append-nil (handed_by (events_by pass))); laid = []; theirs = refl; last = refl }

pub lays_none : {T : Type 0} (pass pass' : Pass) (spots : Spots Header Part T) (made : List (Deed × Answer)) → events_by pass' ≡ events_by pass ++ made → handed_by made ≡ [] → Lays pass spots pass' spots
lays_none pass pass' spots made is none = lays_quiet pass pass' spots (ap handed_by is ∙ quiet_after (events_by pass) made none)

pub lays_same : {T : Type 0} (pass pass' : Pass) (spots : Spots Header Part T) → MadeNone pass pass' → Lays pass spots pass' spots
lays_same pass pass' spots none = lays_quiet pass pass' spots (ap (λ made. handed_by (events_in made)) none)

-- an event that hands nothing, whatever its answer is
pub lays_deed : {T : Type 0} (key key' : SlotKey) (pass pass' : Pass) (d : Deed) (spots : Spots Header Part T) → AddsDeed key pass key' pass' d → ((answer : Answer) → handed_with d.event answer ≡ []) → Lays pass spots pass' spots
lays_deed key key' pass pass' d spots notes quiet =
    lays_none pass pass' spots ((d, notes.2.0.answer) ∷ []) (deeds_grew pass pass' d notes.0 notes.2.0) (ap (λ (vs : List ℕ). vs ++ []) (quiet notes.2.0.answer))

-- a batch that stays, or is retired
pub lays_marked : {T : Type 0} {key : SlotKey} (at : BeginsToMark key) (pass : Pass) (key' : SlotKey) (pass' : Pass) (spots : Spots Header Part T) → EndsMarks at pass key' pass' [] TooMany → Lays pass spots pass' spots
lays_marked {key = key} at pass key' pass' spots ends = lays_none pass pass' spots (readings pass (slot_number key) 0 ends.finds) ends.made (quiet_readings pass (slot_number key) 0 ends.finds)

pub lays_retired : {T : Type 0} {key : SlotKey} (at : BeginsToMark key) (pass : Pass) (values : ValueKeys) (key' : SlotKey) (pass' : Pass) (values' : ValueKeys) (gone : Bool) (spots : Spots Header Part T) → Retires at pass values key' pass' values' gone
    → Lays pass spots pass' spots
lays_retired {key = key} at pass values key' pass' values' gone spots r =
    let s = slot_number key in let read = readings pass s 0 r.finds in let detach = done_event pass (Detach s) in let insert = all_insert_events pass s (actives 0 r.finds) r.turns in
    let add : List (Deed × Answer) = (private pass (AddCount s), Count r.count) ∷ [] in
    lays_quiet pass pass' spots
    (ap handed_by r.made
    ∙ quiet_after (((events_by pass ++ read) ++ detach) ++ insert) add refl
    ∙ quiet_after ((events_by pass ++ read) ++ detach) insert (quiet_inserts pass s (actives 0 r.finds) r.turns)
    ∙ quiet_after (events_by pass ++ read) detach refl
    ∙ quiet_after (events_by pass) read (quiet_readings pass s 0 r.finds))

-- batches that are counted down
pub lays_walked : {T : Type 0} {key : SlotKey} {word : ℕ} (at : IsAtWalk key word) (pass : Pass) (key' : SlotKey) (pass' : Pass) (values' : ValueKeys) (ends : WalkOutcome) (spots : Spots Header Part T) → WalksTo at pass key' pass' values' ends
    → Lays pass spots pass' spots
lays_walked {key = key} at pass key' pass' values' Over spots w =
    lays_none pass pass' spots (countings pass (slot_number key) w.held) w.ends_so.made (quiet_countings pass (slot_number key) w.held)
lays_walked {key = key} at pass key' pass' values' (GivesUp front rest) spots w =
    let counts = w.held ++ w.ends_so.zero ∷ [] in
    lays_none pass pass' spots (countings pass (slot_number key) counts) w.ends_so.made (quiet_countings pass (slot_number key) counts)

-- A value was handed, and its chunk came to the list.

pub lays_one : {T : Type 0} (key : SlotKey) (pass : Pass) (v : ℕ) (queue : ValueKeys) (key' : SlotKey) (pass' : Pass) (queue' : ValueKeys) (spots spots' : Spots Header Part T) (number : ℕ)
    → HandsOne key pass v queue key' pass' queue' → block_number v ≡ number → GainsSpot spots spots' number → Lays pass spots pass' spots'
lays_one key pass v queue key' pass' queue' spots spots' number hand its gains = record {
  values = v ∷ [];
  handed = ap handed_by hand.made ∙ handed_append (events_by pass) _;
  laid = gains.hollow ∷ [];
  theirs = ap (λ (n : ℕ). n ∷ []) (gains.its ∙ sym its);
  last = gains.last;
}

-- More came to it then.

lay_more : {T : Type 0} (one two : List (Hollow Header Part T)) (titles : List Title) → lay_all titles (one ++ two) ≡ lay_all (lay_all titles one) two
lay_more [] two titles = refl
lay_more (hollow ∷ one) two titles = lay_more one two (titles_with titles (hollow_title hollow))

map_more : {T : Type 0} (one two : List (Hollow Header Part T)) (vs ws : List ℕ) → map hollow_number one ≡ map block_number vs → map hollow_number two ≡ map block_number ws → map hollow_number (one ++ two) ≡ map block_number (vs ++ ws)
map_more one two vs ws first second = map-append hollow_number one two ∙ (λ i. first i ++ second i) ∙ sym (map-append block_number vs ws)

pub lays_twice : {T : Type 0} (pass mid pass' : Pass) (spots spots1 spots' : Spots Header Part T) → Lays pass spots mid spots1 → Lays mid spots1 pass' spots' → Lays pass spots pass' spots'
lays_twice pass mid pass' spots spots1 spots' first second = record {
  values = first.values ++ second.values;
  handed = second.handed ∙ ap (λ (vs : List ℕ). vs ++ second.values) first.handed ∙ append_assoc (handed_by (events_by pass)) first.values second.values;
  laid = first.laid ++ second.laid;
  theirs = map_more first.laid second.laid first.values second.values first.theirs second.theirs;
  last = second.last ∙ ap (λ (titles : List Title). lay_all titles second.laid) first.last ∙ sym (lay_more first.laid second.laid (titles_of spots));
}

-- The pass of a call learned first what the slot had seen.
pub lays_ready : {T : Type 0} (pass ready pass1 pass' : Pass) (spots spots' : Spots Header Part T) → MadeNone pass ready → Lays ready spots pass1 spots' → pass' ≡ pass1 → Lays pass spots pass' spots'
lays_ready pass ready pass1 pass' spots spots' none lays same = lays_twice pass ready pass' spots spots spots' (lays_same pass ready spots none) (subst (λ (p : Pass). Lays ready spots p spots') (sym same) lays)
