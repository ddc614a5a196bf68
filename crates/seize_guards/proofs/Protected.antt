-- What a guard found is not reclaimed while its activation lasts.
use Rattle.std.proofs.Common.{◌≡◌, ℕ, zero, suc, Bool, true, false, ◌==◌, ◌||◌, List, [], ◌∷◌, ◌++◌, option_to_list, Option, None, Some, refl, sym, ap, subst, ◌∙◌}
use Rattle.std.proofs.lemmas.Bool.{false≢true}
use Rattle.seize_machine.specs.Machine.History.{Moment, Reclaimed, answers_of, handed, handed_value}
use Rattle.seize_machine.specs.Machine.State.{are_distinct, has, linked_values}
use Rattle.seize_machine.proofs.Facts.{law_gone, some_is}
use Rattle.seize_book.specs.Book.{IsLegalList}
use Rattle.seize_book.specs.Entry.{events_of}
use Rattle.seize_book.specs.Homesteads.{state_seen}
use Rattle.seize_book.specs.Passes.{LooksOn}
use Rattle.seize_book.specs.Tokens.{Name, start}
use Rattle.seize_book.specs.declared.book.pass.Pass.{Pass}
use Rattle.seize_book.proofs.Facts.{as_legal, equal}
use Rattle.seize_words.specs.Activations.{IsLasting}
use Rattle.seize_words.specs.declared.activation.Activation.{Activation}
use Rattle.seize_words.proofs.Facts.{found_stands}
use Rattle.seize_guards.specs.Exchanges.{Protects}
use Rattle.seize_parts.specs.Laws.{moments_seen}

-- a value that an event handed is among those handed
first_handed : (v : ℕ) (o : Option ℕ) (more : List ℕ) → o ≡ Some v → has v (option_to_list o ++ more) ≡ true
first_handed v None more is = absurd (cc)
first_handed v (Some w) more is = ap (λ (b : Bool). b || has v more) (equal w v (some_is w v is))

later_handed : (v : ℕ) (o : Option ℕ) (more : List ℕ) → has v more ≡ true → has v (option_to_list o ++ more) ≡ true
later_handed v None more there = there
later_handed v (Some w) more there = go (w == v)
  where
    go : (b : Bool) → (b || has v more) ≡ true
    go true = refl
    go false = there

was_handed : (ms : List Moment) (v k : ℕ) → Reclaimed ms v k → has v (handed (answers_of ms)) ≡ true
was_handed [] v k gone = absurd (let none : Option.None ≡ Some gone.0 = gone.1 in cc)
was_handed (m ∷ ms) v zero gone = first_handed v (handed_value m.answer) (handed (answers_of ms)) (ap (λ (n : Moment). handed_value n.answer) (some_is m gone.0 gone.1) ∙ gone.2)
was_handed (m ∷ ms) v (suc k) gone = later_handed v (handed_value m.answer) (handed (answers_of ms)) (was_handed ms v k (gone.0, gone.1, gone.2))

pub protects : (a : Activation) (pass later : Pass) → LooksOn pass later → IsLasting a later → Protects a later
protects a pass later looks lasts v k found gone =
    let n = later.name in let distinct : are_distinct (linked_values n.links) ≡ true = ap (λ (m : Name). are_distinct (linked_values m.links)) looks.same.0 ∙ looks.distinct in
    let legal : IsLegalList (start n) later.seen = subst (λ (m : Name). IsLegalList (start m) later.seen) (sym looks.same.0) looks.legal in
    let stands : has v (state_seen later).gone ≡ false = found_stands a v later distinct legal lasts (found v refl) in
    let told : (state_seen later).gone ≡ handed (answers_of (moments_seen later)) = law_gone n.slots n.links (events_of later.seen) _ _ distinct (as_legal (start n) later.seen legal) in
    false≢true (sym stands ∙ ap (has v) told ∙ was_handed (moments_seen later) v k gone)
