-- What was found in a link stands while an activation lasts in which it was found.
use Rattle.std.proofs.Common.{◌≡◌, ℕ, zero, suc, ◌%◌, ◌^◌, ◌<◌, true, false, List, [], ◌∷◌, ◌++◌, Option, Some, refl, sym, ap, ◌∙◌, subst, arith}
use mathlib.Core.List.{IsPrefix}
use Rattle.seize_machine.specs.Machine.State.{State, are_distinct, has, link_at, linked_values}
use Rattle.seize_machine.specs.Machine.Event.{Event}
use Rattle.seize_machine.specs.Machine.History.{is_link_event, linked_value}
use Rattle.seize_machine.specs.declared.machine.event.Answer.{Answer}
use Rattle.seize_machine.proofs.Facts.{Step, step_of}
use Rattle.seize_book.specs.Adding.{private}
use Rattle.seize_book.specs.Blocks.{link_word}
use Rattle.seize_book.specs.Book.{Does, IsLegalList, after}
use Rattle.seize_book.specs.Entry.{Deed, Entry, Made}
use Rattle.seize_book.specs.Laws.{Reader, life}
use Rattle.seize_book.specs.Tokens.{Name, start}
use Rattle.seize_book.proofs.Facts.{equal, reached_after}
use Rattle.seize_book.proofs.Loans.{found_now, reader_later}
use Rattle.seize_book.proofs.Facts as facts
use Rattle.seize_words.specs.Activations.{IsLasting}
use Rattle.seize_book.specs.Homesteads.{state_seen}
use Rattle.seize_words.specs.LinkWords.{ActsOnLink, IsStepOn, WasFound, held_before, link_number}
use Rattle.seize_words.specs.Links.{value_with}
use Rattle.seize_words.specs.declared.activation.Activation.{Activation}
use Rattle.seize_book.specs.declared.book.pass.Pass.{Pass}
use Rattle.seize_words.specs.declared.link.Link.{Link}

-- a step on a link answers what the link held
answers : (s l size : ℕ) (st : State) (event : Event) (d : State × Answer) → Step size st event d → IsStepOn s l event → (is_link_event s event ≡ true) × (linked_value d.1 ≡ link_at st l)
answers s l size st _ _ (Step.read i k can) on = (equal i s on.0, ap (link_at st) on.1)
answers s l size st _ _ (Step.exchanged i k exchange new can fresh stores) on = (equal i s on.0, ap (link_at st) on.1)
answers s l size st _ _ (Step.compared i k exchange can exact) on = (equal i s on.0, ap (link_at st) on.1)
answers s l size st _ _ _ on = absurd (on)

-- so whoever makes it finds that
pub was_found : (link : Link) (a : Activation) (pass pass' : Pass) (event : Event) (v w : ℕ) (t : ActsOnLink link a pass pass' event v) → IsStepOn a.slot (link_number link) event → held_before t ≡ Some w → WasFound a w pass'
was_found link a pass pass' event v w t on is =
    let st : State = start pass.name in let noted = t.noted in let log : List Entry = t.before in let old : Option ℕ = link_at (after st log) (link_number link) in
    let e : Deed = private pass event in let d : State × Answer = (noted.later, noted.answer) in
    let does : Does st log (Made e) d = subst (λ (l : List Entry). Does st l (Made e) d) t.is_before noted.does in
    let appended : pass'.seen ≡ log ++ Made e ∷ [] = noted.appended ∙ ap (λ (l : List Entry). l ++ Made e ∷ []) t.is_before in
    let told = answers a.slot (link_number link) e.size (after st log) event d (step_of _ _ _ _ does) on in
    subst (λ (n : Name). Reader (start n) pass'.seen w a.life) (sym t.same.0)
    (subst (Reader st pass'.seen w) t.during.1 (subst (λ (l : List Entry). Reader st l w (life a.slot log)) (sym appended) (found_now st log e d a.slot w does told.0 (told.1 ∙ is))))

-- What was found was found, whatever the pass has seen since.
pub found_later : (a : Activation) (v : ℕ) (pass pass' : Pass) → pass'.name ≡ pass.name → IsPrefix pass.seen pass'.seen → WasFound a v pass → WasFound a v pass'
found_later a v pass pass' name grows found =
    subst (λ (n : Name). Reader (start n) pass'.seen v a.life) (sym name) (reader_later (start pass.name) pass.seen pass'.seen v a.life grows found)

-- It stands where the activation has not ended, as a pass that looks at the list knows.
pub found_stands : (a : Activation) (v : ℕ) (pass : Pass) → are_distinct (linked_values pass.name.links) ≡ true → IsLegalList (start pass.name) pass.seen → IsLasting a pass → WasFound a v pass → has v (state_seen pass).gone ≡ false
found_stands a v pass distinct legal lasts found = facts.found_stands pass.name pass.seen distinct legal v a.life found lasts

-- Each word of a link is that of a value, or of none.
pub word_back : (w : ℕ) → w < 2 ^ 64 → link_word (value_with w) ≡ w
word_back zero fits = refl
word_back (suc w) fits = let small : w % 2 ^ 64 ≡ w = omega (arith, fits) in omega (arith, small)
