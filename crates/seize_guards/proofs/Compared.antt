-- What is had where an exchange that compares was lost.
use Rattle.std.proofs.Common.{◌≡◌, ◌⊎◌, inl, inr, ℕ, List, Option, None, Some, IfSome, sym, subst, ◌∙◌}
use base.Stored.{Coded}
use Rattle.seize_machine.specs.Machine.Event.{Event}
use Rattle.seize_machine.specs.declared.machine.event.Answer.{Answer}
use Rattle.seize_book.specs.Passes.{LooksOn}
use Rattle.seize_book.specs.declared.book.pass.Pass.{Pass}
use Rattle.seize_parts.specs.Blocks.{IsNamed, content}
use Rattle.seize_guards.specs.Collectors.{BelongsTo, IsBlockOf}
use Rattle.seize_guards.specs.Exchanges.{ComesBack}
use Rattle.seize_parts.specs.Makes.{Makes}
use Rattle.seize_parts.specs.declared.block.owned.Owned.{Owned}
use Rattle.seize_words.specs.declared.words.Words.{Words}
use Rattle.seize_guards.proofs.Allowing.{content_once}
use Rattle.seize_parts.proofs.Made.{none_looked, then_none}

-- a look at the list adds nothing to what was made
pub made_looked : {p q r : Pass} {es : List (Event × Answer)} → Makes p q es → (r ≡ q) ⊎ LooksOn q r → Makes p r es
made_looked {p} {q} {r} {es} makes (inl same) = subst (λ (z : Pass). Makes p z es) (sym same) makes
made_looked {p} {q} {r} makes (inr looks) = then_none makes (none_looked q r looks)

-- a block that comes back by its name has its content
pub comes_back : {T : Type 0} (coded : Coded T) (owners : T → List (List ℕ)) (collector : Words T) (o : Option ℕ) (new back : Option (Owned T)) → IsNamed coded.code new o → IsNamed coded.code back o
    → IfSome new (λ owned. BelongsTo owners collector owned) → IfSome back (λ owned. IsBlockOf collector owned) → ComesBack new back
comes_back coded owners collector (Some v) (Some new) (Some back) named again of its = (content_once coded v (content back) (content new) again named, its ∙ sym of.0)
comes_back coded owners collector (Some v) (Some new) None named again of its = absurd again
comes_back coded owners collector (Some v) None back named again of its = absurd named
comes_back coded owners collector None (Some new) back named again of its = absurd named
comes_back coded owners collector None None (Some back) named again of its = absurd again
comes_back coded owners collector None None None named again of its = tt
