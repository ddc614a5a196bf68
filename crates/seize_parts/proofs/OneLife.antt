-- Units of two activations of one slot are never out at once.
use Rattle.std.proofs.Common.{◌≡◌, ℕ, sym, ap, subst, ◌∙◌}
use Rattle.seize_book.specs.Book.{IsLegalList}
use Rattle.seize_book.specs.Books.{Learns}
use Rattle.seize_book.specs.Laws.{life}
use Rattle.seize_book.specs.Passes.{LooksOn}
use Rattle.seize_book.specs.Tokens.{Name, start}
use Rattle.seize_book.specs.declared.book.pass.Pass.{Pass}
use Rattle.seize_words.specs.Activations.{IsLasting, with_units}
use Rattle.seize_calls.proofs.Current.{is_current}
use Rattle.seize_calls.proofs.Slots.{begun_later, longer_left}
use Rattle.seize_calls.specs.Calls.{HasBegun}
use Rattle.seize_parts.specs.Shelves.{IsForgottenOf}
use Rattle.seize_parts.specs.declared.shelf.forgotten.Forgotten.{Forgotten}
use Rattle.seize_parts.proofs.Placed.{begun_learned}

-- the activation of what was forgotten has begun, as a pass has seen that learned so
pub forgotten_begun : (f : ℕ) (a : Forgotten) (pass pass' : Pass) → IsForgottenOf f a → Learns pass a.seen pass' → a.seen.name ≡ pass.name → HasBegun a.units pass'
forgotten_begun f a pass pass' of learns same =
    let begun = begun_learned a.seen.name a.number (with_units a.units 1) a.seen pass pass' of.1 learns same in
    record { book = begun.book; active = begun.active; its = begun.its; known = begun.known }

-- so two that are of one slot are of one life
pub one_life : (f : ℕ) (a b : Forgotten) (p0 p1 p1' p2 p3 : Pass) → IsForgottenOf f a → IsForgottenOf f b → a.number ≡ b.number → Learns p0 a.seen p1 → a.seen.name ≡ p0.name → p1' ≡ p1 → Learns p1' b.seen p2 → b.seen.name ≡ p1'.name
    → LooksOn p2 p3 → IsLasting a.units p3 → IsLasting b.units p3 → b.units.life ≡ a.units.life
one_life f a b p0 p1 p1' p2 p3 of of' number learns name same learns' name' looks lasts lasts' =
    let legal : IsLegalList (start p3.name) p3.seen = subst (λ (n : Name). IsLegalList (start n) p3.seen) (sym looks.same.0) looks.legal in
    let begun1 = subst (HasBegun a.units) (sym same) (forgotten_begun f a p0 p1 of learns name) in
    let begun2 = begun_later a.units p1' p2 learns'.0.0 (longer_left p1'.seen b.seen.seen p2.seen learns'.2) begun1 in
    let begun : HasBegun a.units p3 = begun_later a.units p2 p3 looks.same.0 looks.grows begun2 in
    let begun' : HasBegun b.units p3 = begun_later b.units p2 p3 looks.same.0 looks.grows (forgotten_begun f b p1' p2 of' learns' name') in
    sym (is_current b.units p3 begun' legal lasts').1 ∙ ap (λ (s : ℕ). life s p3.seen) (of'.1.0.slot ∙ sym number ∙ sym of.1.0.slot) ∙ (is_current a.units p3 begun legal lasts).1
