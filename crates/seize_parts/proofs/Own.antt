-- What a slot made in a whole call: where all that was added to its own entries was made with the pass, its events in the list that the pass
-- has seen since are those that were made with the pass, if these are all of the slot.
use Rattle.std.proofs.Common.{◌≡◌, ℕ, ◌==◌, Bool, true, false, cond, List, [], ◌∷◌, ◌++◌, filter, map, refl, sym, ap, subst, ◌∙◌, append_assoc}
use Rattle.std.proofs.lemmas.Bool.{false≢true}
use Rattle.std.proofs.lemmas.List.{append_cancel_left, map-append}
use Rattle.std.proofs.lemmas.List.Elements.{filter-append}
use mathlib.Core.List.{IsPrefix}
use Rattle.seize_machine.specs.Machine.Event.{AddCount, Begin, Detach, Enter, Event, ExchangeLink, Give, Hand, Insert, Put, ReadHead, ReadLink, Return, SubCount, SwapOut, Take}
use Rattle.seize_machine.specs.Machine.Frames.{changes_slot}
use Rattle.seize_machine.specs.Machine.History.{done_by}
use Rattle.seize_machine.specs.Machine.Next.{next}
use Rattle.seize_machine.specs.Machine.State.{State}
use Rattle.seize_machine.specs.declared.machine.event.Answer.{Answer}
use Rattle.seize_machine.specs.declared.machine.event.Answer.TheVariants.{Count, Done, Handed, Head, Illegal, Link}
use Rattle.seize_book.specs.Book.{IsLegalList, acts, after, by_slot, mine, with_answers}
use Rattle.seize_book.specs.Entry.{Deed, Entry, Made, Used, maker, timed_deed}
use Rattle.seize_book.specs.Homesteads.{state_seen}
use Rattle.seize_book.specs.Passes.{IsSamePass, events_in, mine_of}
use Rattle.seize_book.specs.Slots.{acts_of, own_list, slot_number, start_of}
use Rattle.seize_book.specs.Tokens.{Name, start}
use Rattle.seize_book.specs.declared.book.pass.Pass.{Pass}
use Rattle.seize_book.specs.declared.book.slot_key.SlotKey.{SlotKey}
use Rattle.seize_book.proofs.Facts.{equal}
use Rattle.seize_calls.specs.Alone.{AddsOwn, AllMadeBy}
use Rattle.seize_calls.proofs.Alone.{answered_append, events_append}
use Rattle.seize_parts.specs.Makes.{AreStepsOf, IsStepOf, Undivided, made_by, made_with, whole_call}
use Rattle.seize_parts.proofs.Made.{as_made, none_at}

-- All entries of the slot in what the pass has seen since were made with it.

abbrev OnlyBy : ℕ → ℕ → List Entry → Type 0
OnlyBy s p [] = Unit {0}
OnlyBy s p (e ∷ log) = (acts s e ≡ true → maker e ≡ p) × OnlyBy s p log

only_one : (b : Bool) (p : ℕ) (e : Entry) (answer : Answer) (acts : List (Entry × Answer)) → AllMadeBy p (cond b ((e, answer) ∷ acts) acts) → (b ≡ true → maker e ≡ p) × AllMadeBy p acts
only_one true p e answer acts all = (λ on. all.0, all.1)
only_one false p e answer acts all = (λ on. absurd (false≢true on), all)

only_by : (st : State) (s p : ℕ) (log : List Entry) → AllMadeBy p (by_slot st s log) → OnlyBy s p log
only_by st s p [] all = tt
only_by st s p (Made d ∷ log) all =
    let now = (done_by next st (timed_deed d)) in let one = only_one (acts s (Made d)) p (Made d) now.1 (by_slot now.0 s log) all in (one.0, only_by now.0 s p log one.1)
only_by st s p (Used u ∷ log) all = let one = only_one (acts s (Used u)) p (Used u) Done (by_slot st s log) all in (one.0, only_by st s p log one.1)

by_slot_append : (st : State) (s : ℕ) (a b : List Entry) → by_slot st s (a ++ b) ≡ by_slot st s a ++ by_slot (after st a) s b
by_slot_append st s a b = ap (filter (λ act. acts s act.0)) (answered_append st a b) ∙ filter-append (λ act. acts s act.0) (with_answers st a) (with_answers (after st a) b)

made_last : (p : ℕ) (a b : List (Entry × Answer)) → AllMadeBy p (a ++ b) → AllMadeBy p b
made_last p [] b all = all
made_last p (act ∷ a) b all = made_last p a b all.1

module _ (key key' : SlotKey) (pass pass' : Pass) (knew : IsPrefix (own_list key) pass.seen) (grows : IsPrefix pass.seen pass'.seen) (sees : own_list key' ≡ pass'.seen) (its : (key'.keys.name ≡ key.keys.name) × (slot_number key' ≡ slot_number key))
    (own : AddsOwn key pass key') where
  abbrev st : State
  st = start_of key

  abbrev s : ℕ
  s = slot_number key

  -- its entries that the key did not know, and those since
  abbrev unknown : List (Entry × Answer)
  unknown = by_slot (after st (own_list key)) s knew.0

  abbrev since : List (Entry × Answer)
  since = by_slot (after st pass.seen) s grows.0

  grown : acts_of key' ≡ acts_of key ++ (unknown ++ since)
  grown =
      (λ j. by_slot (start (its.0 j)) (its.1 j) (sees j)) ∙ ap (by_slot st s) (sym grows.1) ∙ by_slot_append st s pass.seen grows.0
      ∙ ap (λ (acts : List (Entry × Answer)). acts ++ since) (ap (by_slot st s) (sym knew.1) ∙ by_slot_append st s (own_list key) knew.0)
      ∙ append_assoc (acts_of key) unknown since

  own_only : OnlyBy s pass.id grows.0
  own_only = only_by (after st pass.seen) s pass.id grows.0 (made_last pass.id unknown since (subst (AllMadeBy pass.id) (append_cancel_left (acts_of key) own.0 _ (sym own.1 ∙ grown)) own.2))

-- Where all that was made with the pass is of the slot, the two choose the same events of a list.

abbrev pub AllOf : ℕ → List (Event × Answer) → Type 0
AllOf s [] = Unit {0}
AllOf s (e ∷ events) = (changes_slot s e.0 ≡ true) × AllOf s events

used_out : (b : Bool) (u : Entry × Answer) (acts : List (Entry × Answer)) → events_in (u ∷ acts) ≡ events_in acts → events_in (cond b (u ∷ acts) acts) ≡ events_in acts
used_out true u acts out = out
used_out false u acts out = refl

-- an event of the list, where so it is of what comes after it
same_event : (s p : ℕ) (d : Deed) (now : State × Answer) (log : List Entry) (events : List (Event × Answer)) → (acts s (Made d) ≡ true → d.pass ≡ p)
    → ((more : List (Event × Answer)) → map as_made (events_in (mine now.0 p log)) ≡ more → AllOf s more → made_by s now.0 log ≡ more)
    → map as_made (events_in (cond (d.pass == p) ((Made d, now.1) ∷ mine now.0 p log) (mine now.0 p log))) ≡ events → AllOf s events
    → map as_made (events_in (cond (changes_slot s d.event) ((Made d, now.1) ∷ by_slot now.0 s log) (by_slot now.0 s log))) ≡ events
same_event s p d now log events only later made all = go (d.pass == p) refl (changes_slot s d.event) refl
  where
    theirs : List (Event × Answer)
    theirs = map as_made (events_in (mine now.0 p log))

    by_maker : Bool → List (Event × Answer)
    by_maker b = map as_made (events_in (cond b ((Made d, now.1) ∷ mine now.0 p log) (mine now.0 p log)))

    by_number : Bool → List (Event × Answer)
    by_number b = map as_made (events_in (cond b ((Made d, now.1) ∷ by_slot now.0 s log) (by_slot now.0 s log)))

    go : (b : Bool) → (d.pass == p) ≡ b → (c : Bool) → changes_slot s d.event ≡ c → by_number (changes_slot s d.event) ≡ events
    go true its c of =
        let is : (d.event, now.1) ∷ theirs ≡ events = sym (ap by_maker its) ∙ made in let parts = subst (AllOf s) (sym is) all in
        ap by_number parts.0 ∙ ap (λ (es : List (Event × Answer)). (d.event, now.1) ∷ es) (later theirs refl parts.1) ∙ is
    go false differs true of = absurd (false≢true (sym differs ∙ equal d.pass p (only of)))
    go false differs false of = ap by_number of ∙ later events (sym (ap by_maker differs) ∙ made) all

same_made : (s p : ℕ) (base : State) (log : List Entry) (events : List (Event × Answer)) → OnlyBy s p log → map as_made (events_in (mine base p log)) ≡ events → AllOf s events → made_by s base log ≡ events
same_made s p base [] events only made all = made
same_made s p base (Used u ∷ log) events only made all =
    ap (map as_made) (used_out (acts s (Used u)) (Used u, Done) (by_slot base s log) refl)
    ∙ same_made s p base log events only.1 (ap (map as_made) (sym (used_out (maker (Used u) == p) (Used u, Done) (mine base p log) refl)) ∙ made) all
same_made s p base (Made d ∷ log) events only made all =
    let now = done_by next base (timed_deed d) in same_event s p d now log events only.0 (λ more is of. same_made s p now.0 log more only.1 is of) made all

-- So it is in a whole call.

of_step : (IsPut : ℕ → List ℕ → Type 0) (s : ℕ) (event : Event) (answer : Answer) → IsStepOf IsPut s (event, answer) → changes_slot s event ≡ true
of_step IsPut s (Put k) answer is = equal k s is
of_step IsPut s (ReadHead k n) answer is = equal k s is
of_step IsPut s (Detach k) answer is = equal k s is
of_step IsPut s (Insert k n end) answer is = equal k s is
of_step IsPut s (AddCount k) answer is = equal k s is
of_step IsPut s (SwapOut k) answer is = equal k s is
of_step IsPut s (SubCount k) answer is = equal k s is
of_step IsPut s (Hand k vs) (Handed v) is = equal k s is.0
of_step IsPut s (Hand k vs) Done is = absurd is
of_step IsPut s (Hand k vs) (Head h) is = absurd is
of_step IsPut s (Hand k vs) (Count c) is = absurd is
of_step IsPut s (Hand k vs) (Link l) is = absurd is
of_step IsPut s (Hand k vs) Illegal is = absurd is
of_step IsPut s (Take k) answer is = absurd is
of_step IsPut s (Give k) answer is = absurd is
of_step IsPut s (Enter k) answer is = absurd is
of_step IsPut s (Begin k job) answer is = absurd is
of_step IsPut s (Return k) answer is = absurd is
of_step IsPut s (ReadLink k l) answer is = absurd is
of_step IsPut s (ExchangeLink k l exchange) answer is = absurd is

of_steps : (IsPut : ℕ → List ℕ → Type 0) (s : ℕ) (steps : List (Event × Answer)) → AreStepsOf IsPut s steps → AllOf s (steps ++ (Return s, Done) ∷ [])
of_steps IsPut n [] are = (equal n n refl, tt)
of_steps IsPut n (step ∷ steps) are = (of_step IsPut n step.0 step.1 are.0, of_steps IsPut n steps are.1)

-- what a call of this slot made with the pass is all that the slot made
abbrev pub MadeAll : ℕ → Pass → Pass → Type 0
MadeAll s pass pass' = (events : List (Event × Answer)) → made_with pass' ≡ made_with pass ++ events → AllOf s events → Undivided s pass pass' events

pub undivided_call : {s : ℕ} {pass pass' : Pass} → MadeAll s pass pass' → (IsPut : ℕ → List ℕ → Type 0) (first : Event) → changes_slot s first ≡ true → (steps : List (Event × Answer)) → AreStepsOf IsPut s steps
    → made_with pass' ≡ made_with pass ++ whole_call s first steps → Undivided s pass pass' (whole_call s first steps)
undivided_call {s} may IsPut first its steps are made = may (whole_call s first steps) made (its, of_steps IsPut s steps are)

pub own_undivided : (key key' : SlotKey) (pass pass' : Pass) → IsSamePass pass pass' → IsLegalList (start pass.name) pass.seen → IsLegalList (start pass'.name) pass'.seen → IsPrefix (own_list key) pass.seen → IsPrefix pass.seen pass'.seen
    → own_list key' ≡ pass'.seen → (key'.keys.name ≡ key.keys.name) × (slot_number key' ≡ slot_number key) → AddsOwn key pass key' → MadeAll (slot_number key) pass pass'
own_undivided key key' pass pass' same legal legal' knew grows sees its own events made all = record {
  begun = pass;
  before = none_at pass legal;
  ended = pass';
  between = grows.0;
  goes_on = sym grows.1;
  only = same_made (slot_number key) pass.id (state_seen pass) grows.0 events (own_only key key' pass pass' knew grows sees its own) since all;
  after = none_at pass' legal';
}
  where
    added : List (Entry × Answer)
    added = mine (state_seen pass) pass.id grows.0

    mine_now : mine_of pass' ≡ mine_of pass ++ added
    mine_now =
        ap (λ (t : Name × ℕ). mine (start t.0) t.1 pass'.seen) (λ i. (same.0 i, same.1 i)) ∙ ap (λ (log : List Entry). mine (start pass.name) pass.id log) (sym grows.1)
        ∙ ap (filter (λ a. maker a.0 == pass.id)) (answered_append (start pass.name) pass.seen grows.0)
        ∙ filter-append (λ a. maker a.0 == pass.id) (with_answers (start pass.name) pass.seen) (with_answers (state_seen pass) grows.0)

    since : map as_made (events_in added) ≡ events
    since = append_cancel_left (made_with pass) _ events
        (sym (map-append as_made (events_in (mine_of pass)) (events_in added)) ∙ ap (map as_made) (sym (events_append (mine_of pass) added)) ∙ sym (ap (λ acts. map as_made (events_in acts)) mine_now) ∙ made)
