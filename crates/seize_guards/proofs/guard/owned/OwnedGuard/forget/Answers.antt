use Rattle.std.proofs.Common.{ℕ, ap, sym, subst, ◌∙◌}
use Rattle.seize_book.specs.Tokens.{Name}
use Rattle.seize_words.specs.Joined.{words_book}
use Rattle.seize_parts.specs.Shelves.{IsForgottenOf}
use Rattle.seize_parts.proofs.Places.{in_place}
use Rattle.seize_guards.proofs.guard.owned.OwnedGuard.forget.Goals as goal

pub put-requires : goal.put-requires
put-requires g c =
    let self = c.args.self in let kept = c.into_value.ensures in let one = c.one-forgotten in (
      (kept.1, (in_place (words_book self.core.parts.now.words) self.core.number 1 c.into_value.result (kept.0 ∙ self.at)).0 ∙ sym self.shelved),
      subst (λ (f : ℕ). IsForgottenOf f one.result) (ap (λ (n : Name). n.family) self.core.its.book ∙ sym self.shelved) one.ensures,
    )
