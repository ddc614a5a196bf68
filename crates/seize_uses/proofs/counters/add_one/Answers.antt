use Rattle.std.proofs.Common.{rules, ◌≡◌, ◌+◌, ◌%◌, ◌^◌, ◌∙◌, ℕ, Option, ap, option_copied, option_map, subst}
use Rattle.std.proofs.lemmas.Result.{IfOk-weaker}
use base.Stored.{gnum}
use Rattle.seize.specs.Machine.State.{link_at}
use Rattle.seize.specs.Rules.{Says}
use Rattle.seize_atomic.proofs.Facts.{altered}
use Rattle.seize_uses.proofs.counters.add_one.Goals as goal

-- the moment of the update
pub returns-clause-adds : goal.returns-clause-adds
returns-clause-adds g c =
    IfOk-weaker c.update.result _ _ (λ _ t.
    let answered = t.2.2 in
    let is : t.2.1 ≡ option_map (λ (n : ℕ). (n + 1) % 2 ^ 64) (option_copied answered.0) = search rules in
    let next : t.2.1 ≡ option_map (λ (n : ℕ). (n + 1) % 2 ^ 64) t.2.0 = is ∙ ap (option_map (λ (n : ℕ). (n + 1) % 2 ^ 64)) answered.1 in
    (t.0, t.1, (t.2.0, t.2.3, subst (λ (y : Option ℕ). Says gnum (link_at t.0.after c.args.cell) y) next t.2.4)))
    (altered _ gnum _ _ _ _ _ _ c.update.result c.update.ensures.alters)
