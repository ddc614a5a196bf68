-- A value is of the kind that its retirement said: the event with which that began stands in what the pass has seen.
use Rattle.std.proofs.Common.{◌≡◌, ℕ, Bool, true, false, cond, ◌==◌, List, [], ◌∷◌, ◌++◌, filter, inl, inr, refl, sym, ap, subst}
use base.Growing.{prefix_trans}
use mathlib.Core.List.{IsPrefix}
use Rattle.seize_machine.specs.Machine.History.{or_illegal}
use Rattle.seize_machine.specs.Machine.Next.{next}
use Rattle.seize_machine.specs.Machine.State.{State}
use Rattle.seize_machine.specs.declared.machine.event.Answer.{Answer}
use Rattle.seize_machine.specs.declared.machine.event.Answer.TheVariants.{Done}
use Rattle.seize_book.specs.Book.{with_answers}
use Rattle.seize_book.specs.Entry.{Deed, Entry, Made, Use, Used, maker}
use Rattle.seize_book.specs.Kept.{IsTold, SaysKept, retires_by}
use Rattle.seize_book.specs.Passes.{events_by, events_in}
use Rattle.seize_book.specs.Tokens.{start}
use Rattle.seize_book.specs.declared.book.pass.Pass.{Pass}
use Rattle.seize_book.specs.declared.book.slot_key.SlotKey.{SlotKey}
use Rattle.seize_book.specs.declared.book.value_keys.ValueKeys.{ValueKeys}
use Rattle.seize_words.proofs.Facts.{told_later}
use Rattle.seize_calls.specs.Calls.{RetiresOne}
use Rattle.seize_calls.specs.Handing.{Had}
use Rattle.seize_calls.proofs.Onwards.{round_on}
use Rattle.seize_parts.proofs.Stands.{rest_of}

-- Where an event is picked from the list that says something of a value, the list says it.

abbrev first_or : {A : Type 0} → A → List A → A
first_or x [] = x
first_or x (y ∷ ys) = y

unused : (b : Bool) (u : Use) (a : Answer) (es : List (Entry × Answer)) (xs : List (Deed × Answer)) → events_in (cond b ((Used u, a) ∷ es) es) ≡ xs → events_in es ≡ xs
unused true u a es xs is = is
unused false u a es xs is = is

told_here : (b : Bool) (e : Deed) (answer : Answer) (log : List Entry) (es : List (Entry × Answer)) (before after : List (Deed × Answer)) (d : Deed) (a : Answer) (v k : ℕ) → SaysKept (retires_by d.event) d.kepts v k
    → ((sooner : List (Deed × Answer)) → events_in es ≡ sooner ++ (d, a) ∷ after → IsTold log v k)
    → events_in (cond b ((Made e, answer) ∷ es) es) ≡ before ++ (d, a) ∷ after → IsTold (Made e ∷ log) v k
told_here false e answer log es before after d a v k says on is = inr (on before is)
told_here true e answer log es (x ∷ before) after d a v k says on is = inr (on before (ap rest_of is))
told_here true e answer log es [] after d a v k says on is =
    inl (subst (λ (x : Deed). SaysKept (retires_by x.event) x.kepts v k) (sym (ap (λ (xs : List (Deed × Answer)). (first_or (d, a) xs).0) is)) says)

pub told_at : (test : Entry × Answer → Bool) (st : State) (log : List Entry) (before after : List (Deed × Answer)) (d : Deed) (a : Answer) (v k : ℕ) → SaysKept (retires_by d.event) d.kepts v k
    → events_in (filter test (with_answers st log)) ≡ before ++ (d, a) ∷ after → IsTold log v k
told_at test st [] [] after d a v k says is = absurd (cc)
told_at test st [] (x ∷ before) after d a v k says is = absurd (cc)
told_at test st (Used u ∷ log) before after d a v k says is =
    told_at test st log before after d a v k says (unused (test (Used u, Done)) u Done (filter test (with_answers st log)) (before ++ (d, a) ∷ after) is)
told_at test st (Made e ∷ log) before after d a v k says is =
    let done = or_illegal st (next e.size st e.event) in
    told_here (test (Made e, done.1)) e done.1 log (filter test (with_answers done.0 log)) before after d a v k says (λ sooner so. told_at test done.0 log sooner after d a v k says so) is

-- **The kind of a retirement is what the list says of its value.**
pub kind_told : (key : SlotKey) (pass : Pass) (v kept : ℕ) (values : ValueKeys) (had : Had) (key' : SlotKey) (pass' : Pass) (values' : ValueKeys) (had' : Had) (retired : Bool)
    → RetiresOne key pass v kept values had key' pass' values' had' retired → IsTold pass'.seen v kept
kind_told key pass v kept values had key' pass' values' had' retired r = told_later begun.seen pass'.seen v kept grows told
  where
    begun : Pass
    begun = r.begun.pass

    grows : IsPrefix begun.seen pass'.seen
    grows =
        prefix_trans begun.seen r.ends.drained.pass.seen pass'.seen
        (prefix_trans begun.seen r.settled.pass.seen r.ends.drained.pass.seen (round_on r.begun v kept r.settled retired r.drains_one).grows r.ends.drains.on.grows)
        r.ends.returns.keeps.on.grows

    told : IsTold begun.seen v kept
    told = told_at (λ a. maker a.0 == begun.id) (start begun.name) begun.seen (events_by pass) [] _ Done v kept (inl (refl, refl)) r.begins.begins.made
