use Rattle.std.proofs.Common.{◌≡◌, ℕ, refl, sym, subst}
use borrow.Rule.Reborrow.{re_v}
use Rattle.seize_book.specs.declared.book.pass.Pass.{Pass}
use Rattle.seize_parts.specs.Sweeps.{Sweeps}
use Rattle.seize.proofs.collector.SweepStayBool.stay.Goals as goal

pub returns : goal.returns
returns g c =
    let done = c.with_mut.ensures.done in let pass = c.args.pass.now in
    let sweeps = subst (λ (p : Pass). Sweeps pass p c.with_mut.result) (sym (c.pass-1.given.1 (sym done.gives.0))) done.gives.2 in
    (sweeps.same, (subst (λ (n : ℕ). re_v n c.args.self.now.numbers ≡ c.args.self.now.numbers) (sym c.with_mut.ensures.same) refl, refl, sweeps))
