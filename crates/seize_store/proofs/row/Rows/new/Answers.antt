use Rattle.std.proofs.Common.{◌≡◌, ℕ, sym, ◌∙◌, ap, refl, arith, rules}
use Rattle.std.specs.declared.alloc.Global.{Global}
use Rattle.seize_store.specs.declared.family.Family.{Family}
use Rattle.seize_store.proofs.Cells.{all_made}
use Rattle.seize_store.proofs.row.Rows.new.Goals as goal

-- src/row.rt:137:5
pub invariant_of-result-clause-kin : goal.invariant_of-result-clause-kin
invariant_of-result-clause-kin g c k d less = let number : ℕ = c.args.family.now.number in let made = c.from_fn-cells.ensures.items in
    let all = all_made _ (λ f. f.1.now.number ≡ number) (λ (cell : ℕ × (Global × ℕ)). cell.0 ≡ number) (λ f q i y at called. search rules) _ c.from_fn-cells.result 53 refl made k d (let long = made.long in omega (arith, long, less)) in
    all ∙ sym (ap (λ (f : Family). f.number) c.again.ensures)
