-- What was made stays made as the pass sees more.
use Rattle.std.proofs.Common.{ℕ, List, [], ◌∷◌, inl, inr}
use base.Stored.{Gv}
use mathlib.Core.List.{IsPrefix}
use Rattle.seize_machine.specs.Machine.Event.{AddCount, Begin, Detach, Enter, Event, ExchangeLink, Give, Hand, Insert, Put, ReadHead, ReadLink, Return, SubCount, SwapOut, Take}
use Rattle.seize_machine.specs.declared.machine.event.Answer.{Answer}
use Rattle.seize_machine.specs.declared.machine.event.Answer.TheVariants.{Count, Done, Handed, Head, Illegal, Link}
use Rattle.seize_book.specs.declared.book.pass.Pass.{Pass}
use Rattle.seize_words.proofs.Facts.{told_later}
use Rattle.seize_parts.specs.Makes.{AreStepsOf, IsStepOf, MakesNone, MakesWhole, TakesNumber}
use Rattle.seize_parts.specs.Puts.{PutBy}
use Rattle.seize_parts.proofs.Made.{then_none, undivided_then}

-- what the reclaimer put
put_later : {T : Type 0} (code : T → Gv) (puts : ℕ → T → List T) (p q : Pass) → IsPrefix p.seen q.seen → (v : ℕ) (vs : List ℕ) → PutBy code puts p v vs → PutBy code puts q v vs
put_later code puts p q grows v vs put = record {
  kind = put.kind;
  is_of_kind = told_later p.seen q.seen v put.kind grows put.is_of_kind;
  value = put.value;
  content = put.content;
  put = put.put;
  same_kind = λ k d less. told_later p.seen q.seen _ put.kind grows (put.same_kind k d less);
}

step_later : {P Q : ℕ → List ℕ → Type 0} → ((v : ℕ) (vs : List ℕ) → P v vs → Q v vs) → (s : ℕ) (step : Event × Answer) → IsStepOf P s step → IsStepOf Q s step
step_later more s (Put t, answer) is = is
step_later more s (ReadHead t n, answer) is = is
step_later more s (Detach t, answer) is = is
step_later more s (Insert t n end, answer) is = is
step_later more s (AddCount t, answer) is = is
step_later more s (SwapOut t, answer) is = is
step_later more s (SubCount t, answer) is = is
step_later more s (Hand t vs, Handed v) is = (is.0, more v vs is.1)
step_later more s (Hand t vs, Done) is = absurd is
step_later more s (Hand t vs, Head b) is = absurd is
step_later more s (Hand t vs, Count c) is = absurd is
step_later more s (Hand t vs, Link o) is = absurd is
step_later more s (Hand t vs, Illegal) is = absurd is
step_later more s (Take t, answer) is = absurd is
step_later more s (Give t, answer) is = absurd is
step_later more s (Enter t, answer) is = absurd is
step_later more s (Begin t job, answer) is = absurd is
step_later more s (Return t, answer) is = absurd is
step_later more s (ReadLink t l, answer) is = absurd is
step_later more s (ExchangeLink t l e, answer) is = absurd is

steps_later : {P Q : ℕ → List ℕ → Type 0} → ((v : ℕ) (vs : List ℕ) → P v vs → Q v vs) → (s : ℕ) (steps : List (Event × Answer)) → AreStepsOf P s steps → AreStepsOf Q s steps
steps_later more s [] are = tt
steps_later more s (step ∷ steps) are = (step_later more s step are.0, steps_later more s steps are.1)

-- a whole call whose reclaimer put blocks
whole_later : {T : Type 0} (code : T → Gv) (puts : ℕ → T → List T) (s : ℕ) (first : Event) {p q r : Pass} → MakesWhole (PutBy code puts) s first p q → MakesNone q r → MakesWhole (PutBy code puts) s first p r
whole_later code puts s first {p} {q} {r} whole none = record {
  steps = whole.steps;
  its = steps_later (put_later code puts q r none.grows) s whole.steps whole.its;
  made = then_none whole.made none;
  undivided = undivided_then whole.undivided none;
}

-- the taking of a number
pub takes_later : {T : Type 0} (code : T → Gv) (puts : ℕ → T → List T) (s : ℕ) {p q r : Pass} → TakesNumber (PutBy code puts) s p q → MakesNone q r → TakesNumber (PutBy code puts) s p r
takes_later code puts s (inl one) none = inl (then_none one none)
takes_later code puts s (inr whole) none = inr (whole_later code puts s (Take s) whole none)
