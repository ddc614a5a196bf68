-- What was made with a pass, as users see it, from what the calls below say.
use Rattle.std.proofs.Common.{◌≡◌, ℕ, map, List, [], ◌∷◌, ◌++◌, refl, sym, ap, subst, ◌∙◌, append_assoc, append-nil}
use Rattle.std.proofs.lemmas.List.{map-append}
use base.Growing.{prefix_trans}
use Rattle.seize_machine.specs.Machine.State.{State}
use Rattle.seize_machine.specs.Machine.Event.{Begin, Enter, Event, Give, Take}
use Rattle.seize_machine.specs.declared.machine.event.Answer.{Answer}
use Rattle.seize_machine.specs.declared.machine.event.Answer.TheVariants.{Done}
use Rattle.seize_machine.specs.declared.machine.event.Job.{Job}
use Rattle.seize_machine.proofs.Facts.{Step, step_of}
use Rattle.seize_book.specs.Adding.{private}
use Rattle.seize_book.specs.Book.{IsLegalList, after}
use Rattle.seize_book.specs.Books.{Learns}
use Rattle.seize_book.specs.Entry.{Deed, Made}
use Rattle.seize_book.specs.Passes.{IsSamePass, LooksOn, MadeNone, events_by, events_in}
use Rattle.seize_book.specs.Slots.{AddsDeed, AddsEvent, slot_number}
use Rattle.seize_book.specs.Tokens.{AddsEntry, Name, start}
use Rattle.seize_book.specs.declared.book.numbers_key.NumbersKey.{NumbersKey}
use Rattle.seize_book.specs.declared.book.pass.Pass.{Pass}
use Rattle.seize_book.specs.declared.book.seen.Seen.{Seen}
use Rattle.seize_book.specs.declared.book.slot_key.SlotKey.{SlotKey}
use Rattle.seize_book.proofs.Facts.{same_twice}
use Rattle.seize_words.specs.Reservations.{beginning}
use Rattle.seize_words.specs.Reserved.{MakesNextSlot}
use Rattle.seize_words.specs.declared.activation.Activation.{Activation}
use Rattle.seize_words.specs.declared.slots.next.NextSlot.{NextSlot}
use Rattle.seize_words.proofs.Facts.{deeds_grew, seen_grows}
use Rattle.seize_calls.specs.Slots.{CallsWith, MakesOneSlot, Prepares, SlotEnters, SlotGives, SlotTakes, its_number}
use Rattle.seize_calls.specs.declared.slot.Slot.{Slot}
use Rattle.seize_calls.proofs.Slots.{longer_left}
use Rattle.seize_parts.specs.Makes.{Makes, MakesNone, MakesOne, Undivided, made_with}

-- an event of the list, as users see it
abbrev pub as_made : Deed × Answer → Event × Answer
as_made made = (made.0.event, made.1)

-- what was made with a pass has grown by these events, or by none
pub made_grew : (pass pass' : Pass) (es : List (Deed × Answer)) → events_by pass' ≡ events_by pass ++ es → made_with pass' ≡ made_with pass ++ map as_made es
made_grew pass pass' es grew = ap (map as_made) grew ∙ map-append as_made (events_by pass) es

made_same : (pass pass' : Pass) → MadeNone pass pass' → made_with pass' ≡ made_with pass ++ []
made_same pass pass' none = ap (λ made. map as_made (events_in made)) none ∙ sym (append-nil (made_with pass))

-- a list that is legal for a pass is so for the same pass later
pub legal_same : (pass pass' : Pass) → IsSamePass pass pass' → IsLegalList (start pass.name) pass'.seen → IsLegalList (start pass'.name) pass'.seen
legal_same pass pass' same legal = subst (λ (n : Name). IsLegalList (start n) pass'.seen) (sym same.0) legal

-- One after the other.

-- some events, and then some more
pub makes_then : {p q r : Pass} {es fs : List (Event × Answer)} → Makes p q es → Makes q r fs → Makes p r (es ++ fs)
makes_then {p} {q} {r} {es} {fs} one two = record {
  same = same_twice p q r one.same two.same;
  grows = prefix_trans p.seen q.seen r.seen one.grows two.grows;
  legal = two.legal;
  made = two.made ∙ ap (λ (made : List (Event × Answer)). made ++ fs) one.made ∙ append_assoc (made_with p) es fs;
}

-- none, and then some
pub none_then : {p q r : Pass} {es : List (Event × Answer)} → MakesNone p q → Makes q r es → Makes p r es
none_then none some = makes_then none some

-- some, and then none
pub then_none : {p q r : Pass} {es : List (Event × Answer)} → Makes p q es → MakesNone q r → Makes p r es
then_none {p} {q} {r} {es} some none = subst (Makes p r) (append-nil es) (makes_then some none)

-- What a slot made between two moments is all that it made, also where the pass saw more before or after, and made nothing.

pub undivided_after : {s : ℕ} {p q r : Pass} {events : List (Event × Answer)} → MakesNone p q → Undivided s q r events → Undivided s p r events
undivided_after none own =
    record { begun = own.begun; before = none_then none own.before; ended = own.ended; between = own.between; goes_on = own.goes_on; only = own.only; after = own.after }

pub undivided_then : {s : ℕ} {p q r : Pass} {events : List (Event × Answer)} → Undivided s p q events → MakesNone q r → Undivided s p r events
undivided_then own none =
    record { begun = own.begun; before = own.before; ended = own.ended; between = own.between; goes_on = own.goes_on; only = own.only; after = none_then own.after none }

-- Nothing is made at all,
pub none_at : (pass : Pass) → IsLegalList (start pass.name) pass.seen → MakesNone pass pass
none_at pass legal = record { same = (refl, refl, refl); grows = ([], append-nil pass.seen); legal = legal; made = sym (append-nil (made_with pass)) }

-- or where a pass learns, looks at the list, or is prepared for a call.

pub none_learned : (pass : Pass) (book : Seen) (pass' : Pass) → Learns pass book pass' → MakesNone pass pass'
none_learned pass book pass' learns = record {
  same = learns.0;
  grows = longer_left pass.seen book.seen pass'.seen learns.2;
  legal = legal_same pass pass' learns.0 learns.4;
  made = made_same pass pass' learns.1;
}

pub none_looked : (pass pass' : Pass) → LooksOn pass pass' → MakesNone pass pass'
none_looked pass pass' looks = record {
  same = looks.same;
  grows = looks.grows;
  legal = legal_same pass pass' looks.same looks.legal;
  made = made_same pass pass' looks.none_made;
}

pub none_prepared : {T : Type 0} (slot : Slot T) (pass ready : Pass) → Prepares slot pass ready → MakesNone pass ready
none_prepared slot pass ready prepares = record {
  same = prepares.same;
  grows = prepares.grows.0;
  legal = prepares.legal;
  made = made_same pass ready prepares.none_made;
}

-- One event is made.

-- an entry that the pass added, with the answer that it has
pub one_added : (pass pass' : Pass) (d : Deed) → IsSamePass pass pass' → (noted : AddsEntry pass.name pass.id pass.seen pass'.seen (Made d)) → MakesOne pass pass' d.event noted.answer
one_added pass pass' d same noted = record {
  same = same;
  grows = seen_grows pass.name pass.id pass.seen pass'.seen (Made d) noted;
  legal = legal_same pass pass' same noted.legal;
  made = made_grew pass pass' ((d, noted.answer) ∷ []) (deeds_grew pass pass' d same noted);
}

-- and with this answer, where it is known
pub one_known : (pass pass' : Pass) (d : Deed) (answer : Answer) → IsSamePass pass pass' → (noted : AddsEntry pass.name pass.id pass.seen pass'.seen (Made d)) → noted.answer ≡ answer → MakesOne pass pass' d.event answer
one_known pass pass' d answer same noted known = subst (MakesOne pass pass' d.event) known (one_added pass pass' d same noted)

-- it is a step of the machine
pub step_added : (pass pass' : Pass) (d : Deed) (noted : AddsEntry pass.name pass.id pass.seen pass'.seen (Made d)) → Step d.size (after (start pass.name) noted.before) d.event (noted.later, noted.answer)
step_added pass pass' d noted = step_of d.size (after (start pass.name) noted.before) d.event (noted.later, noted.answer) noted.does

-- an event that the machine answers so there
pub one_answered_there : (pass pass' : Pass) (d : Deed) (answer : Answer) → IsSamePass pass pass' → (noted : AddsEntry pass.name pass.id pass.seen pass'.seen (Made d))
    → ((o : State × Answer) → Step d.size (after (start pass.name) noted.before) d.event o → o.1 ≡ answer) → MakesOne pass pass' d.event answer
one_answered_there pass pass' d answer same noted there =
    one_known pass pass' d answer same noted (there (noted.later, noted.answer) (step_added pass pass' d noted))

-- and one that it answers so wherever it is legal
pub one_answered : (pass pass' : Pass) (d : Deed) (answer : Answer) → IsSamePass pass pass' → AddsEntry pass.name pass.id pass.seen pass'.seen (Made d)
    → ((st : State) (o : State × Answer) → Step d.size st d.event o → o.1 ≡ answer) → MakesOne pass pass' d.event answer
one_answered pass pass' d answer same noted always = one_answered_there pass pass' d answer same noted (always (after (start pass.name) noted.before))

take_done : (size s : ℕ) (st : State) (o : State × Answer) → Step size st (Take s) o → o.1 ≡ Done
take_done size s st _ (Step.took_new _ _ _) = refl
take_done size s st _ (Step.took_old _ _ _ _) = refl

give_done : (size s : ℕ) (st : State) (o : State × Answer) → Step size st (Give s) o → o.1 ≡ Done
give_done size s st _ (Step.gave _ _ _ _) = refl

enter_done : (size s : ℕ) (st : State) (o : State × Answer) → Step size st (Enter s) o → o.1 ≡ Done
enter_done size s st _ (Step.entered _ _ _) = refl

begin_done : (size s : ℕ) (job : Job) (st : State) (o : State × Answer) → Step size st (Begin s job) o → o.1 ≡ Done
begin_done size s job st _ (Step.gathered _ _ _ _ _) = refl
begin_done size s job st _ (Step.begun_retire _ _ _ _) = refl
begin_done size s job st _ (Step.begun_other _ _ _ _ _ _) = refl

-- a number is taken or goes back, and a slot enters
pub one_taken : (pass pass' : Pass) (s : ℕ) → IsSamePass pass pass' → AddsEntry pass.name pass.id pass.seen pass'.seen (Made (private pass (Take s))) → MakesOne pass pass' (Take s) Done
one_taken pass pass' s same noted = one_answered pass pass' (private pass (Take s)) Done same noted (take_done pass.size s)

pub one_given : (pass pass' : Pass) (s : ℕ) → IsSamePass pass pass' → AddsEntry pass.name pass.id pass.seen pass'.seen (Made (private pass (Give s))) → MakesOne pass pass' (Give s) Done
one_given pass pass' s same noted = one_answered pass pass' (private pass (Give s)) Done same noted (give_done pass.size s)

pub one_entered : (pass pass' : Pass) (life s : ℕ) → IsSamePass pass pass' → AddsEntry pass.name pass.id pass.seen pass'.seen (Made (beginning pass life (Enter s))) → MakesOne pass pass' (Enter s) Done
one_entered pass pass' life s same noted = one_answered pass pass' (beginning pass life (Enter s)) Done same noted (enter_done pass.size s)

-- the same, added with a slot's key
pub key_takes : (key : SlotKey) (pass : Pass) (key' : SlotKey) (pass' : Pass) (s : ℕ) → AddsEvent key pass key' pass' (Take s) → MakesOne pass pass' (Take s) Done
key_takes key pass key' pass' s notes = one_taken pass pass' s notes.0 notes.2.0

pub key_gives : (key : SlotKey) (pass : Pass) (key' : SlotKey) (pass' : Pass) (s : ℕ) → AddsEvent key pass key' pass' (Give s) → MakesOne pass pass' (Give s) Done
key_gives key pass key' pass' s notes = one_given pass pass' s notes.0 notes.2.0

pub key_begins : (key : SlotKey) (pass : Pass) (key' : SlotKey) (pass' : Pass) (s : ℕ) (job : Job) → AddsEvent key pass key' pass' (Begin s job) → MakesOne pass pass' (Begin s job) Done
key_begins key pass key' pass' s job notes = one_answered pass pass' (private pass (Begin s job)) Done notes.0 notes.2.0 (begin_done pass.size s job)

pub key_enters : (key : SlotKey) (pass : Pass) (key' : SlotKey) (pass' : Pass) (life s : ℕ) → AddsDeed key pass key' pass' (beginning pass life (Enter s)) → MakesOne pass pass' (Enter s) Done
key_enters key pass key' pass' life s notes = one_entered pass pass' life s notes.0 notes.2.0

-- A slot's number is taken, when it is made and when it was free, and goes back; and the slot enters.

pub makes_next : (numbers : NumbersKey) (left : NextSlot) (pass : Pass) (numbers' : NumbersKey) (key : SlotKey) (left' : NextSlot) (pass' : Pass) → MakesNextSlot numbers left pass numbers' key left' pass'
    → MakesOne pass pass' (Take (slot_number key)) Done
makes_next numbers left pass numbers' key left' pass' makes =
    subst (λ (s : ℕ). MakesOne pass pass' (Take s) Done) (sym makes.made.seen_by.1) (one_taken pass pass' _ makes.made.same makes.made.noted)

pub makes_slot : {T : Type 0} (numbers : NumbersKey) (left : NextSlot) (pass : Pass) (numbers' : NumbersKey) (slot : Slot T) (left' : NextSlot) (pass' : Pass) → MakesOneSlot numbers left pass numbers' slot left' pass'
    → MakesOne pass pass' (Take (its_number slot)) Done
makes_slot numbers left pass numbers' slot left' pass' makes =
    subst (λ (s : ℕ). MakesOne pass pass' (Take s) Done) slot.together.numbered (makes_next numbers left pass numbers' slot.holder.key left' pass' makes.0)

module _ {T : Type 0} (slot : Slot T) (pass : Pass) (slot' : Slot T) (pass' : Pass) where
  -- a call makes what is made once the pass is ready for it
  pub makes_ready : (Does : Pass → Type 0) (es : List (Event × Answer)) → ((ready : Pass) → Does ready → Makes ready pass' es) → CallsWith slot pass slot' pass' Does → Makes pass pass' es
  makes_ready Does es made calls = none_then (none_prepared slot pass calls.ready calls.prepares) (made calls.ready calls.does)

  pub slot_enters : (a : Activation) → SlotEnters slot pass a slot' pass' → MakesOne pass pass' (Enter (its_number slot)) Done
  slot_enters a enters =
      makes_ready (λ p. AddsDeed slot.holder.key p slot'.holder.key pass' (beginning p a.life (Enter (its_number slot)))) ((Enter (its_number slot), Done) ∷ [])
      (λ ready does. key_enters slot.holder.key ready slot'.holder.key pass' a.life (its_number slot) does) enters

  pub slot_gives : SlotGives slot pass slot' pass' → MakesOne pass pass' (Give (its_number slot)) Done
  slot_gives gives =
      makes_ready (λ p. AddsEvent slot.holder.key p slot'.holder.key pass' (Give (its_number slot))) ((Give (its_number slot), Done) ∷ [])
      (λ ready does. key_gives slot.holder.key ready slot'.holder.key pass' (its_number slot) does) gives

  pub slot_takes : SlotTakes slot pass slot' pass' → MakesOne pass pass' (Take (its_number slot)) Done
  slot_takes takes =
      makes_ready (λ p. AddsEvent slot.holder.key p slot'.holder.key pass' (Take (its_number slot))) ((Take (its_number slot), Done) ∷ [])
      (λ ready does. key_takes slot.holder.key ready slot'.holder.key pass' (its_number slot) does) takes
