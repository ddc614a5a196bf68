use Rattle.std.proofs.Common.{◌≡◌, ℕ, ◌∙◌, ap, sym}
use Rattle.seize_table.specs.Pairs.{pair, right_of}
use Rattle.seize_table.proofs.Pairs.{right_pair}
use Rattle.seize_store.specs.Named.{label_by}
use Rattle.seize_store_rows.specs.declared.values.Tally.{Tally}
use Rattle.seize_store_rows.proofs.lookups.numbers_found.Goals as goal

-- one label is that of one number
one_number : (n k label : ℕ) → pair 0 n ≡ label → pair 0 k ≡ label → n ≡ k
one_number n k label one other = sym (right_pair 0 n) ∙ (ap right_of (one ∙ sym other) ∙ right_pair 0 k)

pub returns : goal.returns
returns c =
    let one = ap (λ (t : Tally). pair 0 t.number) c.header.ensures ∙ c.at-one.ensures.label in
    let other = ap (λ (t : Tally). pair 0 t.number) c.header-2.ensures ∙ (c.at-other.ensures.label ∙ ap (λ s. label_by s c.args.number) c.at-one.ensures.token) in
    record { token = c.at-other.ensures.token ∙ c.at-one.ensures.token; numbers = one_number c.header.result.now.number c.header-2.result.now.number _ one other }
