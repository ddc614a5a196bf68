-- What reads and exchanges of links make: one event, whose answer is what the link held.
use Rattle.std.proofs.Common.{◌≡◌, ℕ, List, Option, refl, ap, ◌∙◌}
use Rattle.seize_machine.specs.Machine.State.{State, link_at}
use Rattle.seize_machine.specs.Machine.Event.{Event, ExchangeLink, ReadLink}
use Rattle.seize_machine.specs.declared.machine.event.Answer.{Answer}
use Rattle.seize_machine.specs.declared.machine.event.Answer.TheVariants.{Link as Held}
use Rattle.seize_machine.specs.declared.machine.event.Exchange.TheVariants.{Compare, Swap}
use Rattle.seize_machine.proofs.Facts.{Step}
use Rattle.seize_book.specs.Adding.{private}
use Rattle.seize_book.specs.Book.{after}
use Rattle.seize_book.specs.Entry.{Deed, Entry}
use Rattle.seize_book.specs.Tokens.{start}
use Rattle.seize_book.specs.declared.book.pass.Pass.{Pass}
use Rattle.seize_words.specs.LinkWords.{ActsOnLink, CompareExchanges, Finds, IsStepOn, Reads, Swaps, held_before, link_number, value_held}
use Rattle.seize_words.specs.declared.activation.Activation.{Activation}
use Rattle.seize_words.specs.declared.glimpse.Glimpse.{Glimpse}
use Rattle.seize_words.specs.declared.link.Link.{Link}
use Rattle.seize_words.specs.declared.link.MaybeKey.{MaybeKey}
use Rattle.seize_parts.specs.Makes.{MakesOne}
use Rattle.seize_parts.proofs.Made.{none_looked, one_answered_there, then_none}

-- the machine answers each event on a link with what the link held
link_answer : (s l size : ℕ) (st : State) (event : Event) (o : State × Answer) → IsStepOn s l event → Step size st event o → o.1 ≡ Held (link_at st l)
link_answer s l size st event _ is (Step.read _ k _) = ap (λ (j : ℕ). Held (link_at st j)) is.1
link_answer s l size st event _ is (Step.exchanged _ k _ _ _ _ _) = ap (λ (j : ℕ). Held (link_at st j)) is.1
link_answer s l size st event _ is (Step.compared _ k _ _ _) = ap (λ (j : ℕ). Held (link_at st j)) is.1
link_answer s l size st event _ is _ = absurd is

-- a step on a link
pub acts_on : (link : Link) (a : Activation) (pass pass' : Pass) (event : Event) (v : ℕ) → IsStepOn a.slot (link_number link) event → (t : ActsOnLink link a pass pass' event v)
    → MakesOne pass pass' event (Held (held_before t))
acts_on link a pass pass' event v on t =
    let l = link_number link in let d : Deed = private pass event in
    one_answered_there pass pass' d (Held (held_before t)) t.same t.noted
    (λ o step. link_answer a.slot l d.size (after (start pass.name) t.noted.before) d.event o on step ∙ ap (λ (log : List Entry). Held (link_at (after (start pass.name) log) l)) t.is_before)

-- a read
pub link_reads : (link : Link) (a : Activation) (pass pass' : Pass) (v : ℕ) (t : Reads link a pass pass' v) → MakesOne pass pass' (ReadLink a.slot (link_number link)) (Held (held_before t))
link_reads link a pass pass' v t = acts_on link a pass pass' (ReadLink a.slot (link_number link)) v (refl, refl) t

-- a read, and a look at the list
pub link_finds : (link : Link) (a : Activation) (pass pass' : Pass) (v : ℕ) (t : Finds link a pass pass' v) → MakesOne pass pass' (ReadLink a.slot (link_number link)) (Held (held_before t.reads))
link_finds link a pass pass' v t = then_none (link_reads link a pass t.mid v t.reads) (none_looked t.mid pass' t.looks)

-- an exchange
pub link_swaps : (link : Link) (a : Activation) (key : MaybeKey) (pass : Pass) (key' : MaybeKey) (pass' : Pass) (v : ℕ) (t : Swaps link a key pass key' pass' v)
    → MakesOne pass pass' (ExchangeLink a.slot (link_number link) (Swap (value_held key))) (Held (held_before t.0))
link_swaps link a key pass key' pass' v t = acts_on link a pass pass' (ExchangeLink a.slot (link_number link) (Swap (value_held key))) v (refl, refl) t.0

-- a compare and exchange, whether it was won or lost
pub link_compares : (link : Link) (a : Activation) (key : MaybeKey) (pass : Pass) (current : Option ℕ) (key' : MaybeKey) (pass' : Pass) (v : ℕ) (glimpse : Glimpse)
    (t : CompareExchanges link a key pass current key' pass' v glimpse)
    → MakesOne pass pass' (ExchangeLink a.slot (link_number link) (Compare current (value_held key))) (Held (held_before t.0))
link_compares link a key pass current key' pass' v glimpse t =
    acts_on link a pass pass' (ExchangeLink a.slot (link_number link) (Compare current (value_held key))) v (refl, refl) t.0
