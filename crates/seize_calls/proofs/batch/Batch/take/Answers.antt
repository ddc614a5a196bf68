use Rattle.std.proofs.Common.{◌≡◌, ℕ, true, List, [], refl, sym, ap, subst, ◌∙◌}
use Rattle.seize_book.specs.Private.{labels_of}
use Rattle.seize_book.specs.declared.book.value_keys.ValueKeys.{ValueKeys}
use Rattle.seize_words.proofs.Facts.{none_closed}
use Rattle.seize_calls.specs.Numbered.{ends_at, is_count_of, starts_at}
use Rattle.seize_calls.proofs.batch.Batch.take.Goals as goal

pub invariant_of-self : goal.invariant_of-self
invariant_of-self c =
    let values = c.replace.new.dest in let held : values.keys.held ≡ [] = ap (λ (v : ValueKeys). v.keys.held) c.replace.ensures.after ∙ c.none-none.ensures.1.1 in let none : labels_of values.keys.held ≡ [] = ap labels_of held in
    record {
      many = subst (λ (vs : List ℕ). is_count_of 0 vs ≡ true) (sym none) refl;
      front = subst (λ (vs : List ℕ). starts_at c.args.self.now.first vs ≡ true) (sym none) refl;
      back = subst (λ (vs : List ℕ). ends_at c.args.self.now.last vs ≡ true) (sym none) refl;
      closed = none_closed values held;
      fits = c.args.self.now.fits;
    }
