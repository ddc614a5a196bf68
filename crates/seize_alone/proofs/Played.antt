-- What is made alone is played by the machine.
use Rattle.std.proofs.Common.{◌≡◌, ℕ, List, [], ◌∷◌, ◌++◌, map, take, drop, length, Some, refl, sym, ap, subst, ◌∙◌}
use Rattle.std.proofs.lemmas.List.{map-append}
use Rattle.seize_machine.specs.Machine.State.{State}
use Rattle.seize_machine.specs.Machine.Next.{next}
use Rattle.seize_machine.specs.Machine.History.{Legal, Timed, answers_of, at_size, done_by}
use Rattle.seize_machine.specs.declared.machine.event.Answer.{Answer}
use Rattle.seize_machine.proofs.Facts.{taken_apart}
use Rattle.seize_model.specs.Agreement.Play.{play}
use Rattle.seize_model.proofs.Simulation.Plays.{plays_are_legal}
use Rattle.seize_book.specs.Book.{IsLegalList, after, with_answers, moments}
use Rattle.seize_book.specs.Entry.{Deed, Entry, Made, Used, deeds, events_of, timed_deed}
use Rattle.seize_book.specs.Passes.{IsSamePass, events_by, events_in}
use Rattle.seize_book.specs.Tokens.{IsSole, start}
use Rattle.seize_book.specs.declared.book.pass.Pass.{Pass}
use Rattle.seize_book.proofs.Facts.{as_legal, deeds_append}
use Rattle.seize_calls.specs.Alone.{AddsAlone, AllBy}
use Rattle.seize_calls.proofs.Alone.{made_there}
use Rattle.seize_alone.proofs.Work.{AllSized, answers_made, events_made}

answers_same : (st : State) (log : List Entry) → answers_of (moments st log) ≡ answers_made (events_in (with_answers st log))
answers_same st [] = refl
answers_same st (Made d ∷ log) = ap (λ (rest : List Answer). (done_by next st (timed_deed d)).1 ∷ rest) (answers_same (done_by next st (timed_deed d)).0 log)
answers_same st (Used u ∷ log) = answers_same st log

events_same : (size : ℕ) (st : State) (log : List Entry) → AllSized size (events_in (with_answers st log)) → events_of log ≡ at_size size (events_made (events_in (with_answers st log)))
events_same size st [] sized = refl
events_same size st (Made d ∷ log) sized = λ i. record { size = sized.0 i; event = d.event } ∷ events_same size (done_by next st (timed_deed d)).0 log sized.1 i
events_same size st (Used u ∷ log) sized = events_same size st log sized

pub play_alone : (pass pass' : Pass) (made : List (Deed × Answer)) (size : ℕ) → IsSamePass pass pass' → AddsAlone pass pass' → IsSole pass.id → events_by pass' ≡ events_by pass ++ made
    → IsLegalList (start pass'.name) pass'.seen → AllSized size made
    → play size (after (start pass.name) pass.seen) (events_made made) ≡ Some (after (start pass'.name) pass'.seen, answers_made made)
play_alone pass pass' made size same adds sole events legal sized =
    subst (λ (m : List (Deed × Answer)). play size mid (events_made m) ≡ Some (after (start pass'.name) pass'.seen, answers_made m)) there played
  where
    st : State
    st = start pass.name

    mid : State
    mid = after st pass.seen

    more : (added : List Entry) × (pass'.seen ≡ pass.seen ++ added) × AllBy pass.id added
    more = adds sole

    there : events_in (with_answers mid more.0) ≡ made
    there = made_there pass pass' made same adds sole events

    its_list : (start pass'.name ≡ st) × (pass'.seen ≡ pass.seen ++ more.0)
    its_list = (ap start same.0, more.1)

    whole : IsLegalList st (pass.seen ++ more.0)
    whole = subst (λ (t : State × List Entry). IsLegalList t.0 t.1) (λ i. (its_list.0 i, its_list.1 i)) legal

    parts : events_of (pass.seen ++ more.0) ≡ events_of pass.seen ++ events_of more.0
    parts = ap (map timed_deed) (deeds_append pass.seen more.0) ∙ map-append timed_deed (deeds pass.seen) (deeds more.0)

    later : State
    later = after st (pass.seen ++ more.0)

    answers : List Answer
    answers = answers_of (moments st (pass.seen ++ more.0))

    apart : (now : State) × Legal next st (events_of pass.seen) (take (length (events_of pass.seen)) answers) now × Legal next now (events_of more.0) (drop (length (events_of pass.seen)) answers) later
    apart = taken_apart st later (events_of pass.seen) (events_of more.0) answers (subst (λ (ts : List Timed). Legal next st ts answers later) parts (as_legal st (pass.seen ++ more.0) whole))

    second : Legal next mid (events_of more.0) (drop (length (events_of pass.seen)) answers) later
    second = subst (λ (now : State). Legal next now (events_of more.0) (drop (length (events_of pass.seen)) answers) later) (sym apart.1.end_is) apart.2

    its_end : later ≡ after (start pass'.name) pass'.seen
    its_end = λ i. after (sym its_list.0 i) (sym its_list.1 i)

    played : play size mid (events_made (events_in (with_answers mid more.0))) ≡ Some (after (start pass'.name) pass'.seen, answers_made (events_in (with_answers mid more.0)))
    played =
        (plays_are_legal size mid later (events_made (events_in (with_answers mid more.0))) (drop (length (events_of pass.seen)) answers)).1
        (subst (λ (ts : List Timed). Legal next mid ts (drop (length (events_of pass.seen)) answers) later) (events_same size mid more.0 (subst (AllSized size) (sym there) sized)) second)
        ∙ (λ i. Some (its_end i, (sym second.answers_are ∙ answers_same mid more.0) i))
