use Rattle.std.proofs.Common.{◌≡◌, ◌↔◌, ◌-◌, true, not, nat_lt, sym, ◌∙◌, ap, subst, arith}
use Rattle.std.specs.FinSet as set
use Rattle.seize_table.proofs.FreeNumbers.{at_most}
use Rattle.seize_table.proofs.OtherNumbers.{Other, others-one, others-counted}
use Rattle.seize_table.proofs.thread_id.Numbers.others.Goals as goal

pub overflow_sub-in_use : goal.overflow_sub-in_use
overflow_sub-in_use c =
    let most = at_most _ _ _ c.self.invariant in
    let len = c.self.inside.free.data.ok.0 in
    omega (arith, most, len, c.len.ensures)

pub returns-then-in_use-eq1 : goal.returns-then-in_use-eq1
returns-then-in_use-eq1 c =
    let most = at_most _ _ _ c.self.invariant in
    let len = c.self.inside.free.data.ok.0 in
    subst (λ s. (not c.has.result ≡ true) ↔ Other s c.args.n) c.self.view_is
    (others-one _ _ c.args.n _ c.self.invariant c.has.result (omega (arith, most, len, c.len.ensures, c.if-in_use-eq1.true)) (c.has.ensures ∙ ap (λ s. set.contains s c.args.n) (sym c.self.view_is)))

pub returns-else-in_use-eq1 : goal.returns-else-in_use-eq1
returns-else-in_use-eq1 c =
    let len = c.self.inside.free.data.ok.0 in
    subst (λ s. (nat_lt 1 (c.self.inside.made - c.len.result) ≡ true) ↔ Other s c.args.n) c.self.view_is
    (others-counted _ _ c.args.n _ c.self.invariant (c.self.inside.made - c.len.result) (omega (arith, len, c.len.ensures)) c.if-in_use-eq1.false)
