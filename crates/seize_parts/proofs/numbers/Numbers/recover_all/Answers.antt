use Rattle.std.proofs.Common.{refl, ap, ◌∙◌, arith}
use Rattle.seize_parts.proofs.Keeping.{idle_none, idle_then}
use Rattle.seize_parts.proofs.Placed.{still_for}
use Rattle.seize_parts.proofs.Swept.{keeps_none, keeps_then, still_sole}
use Rattle.seize_parts.proofs.numbers.Numbers.recover_all.Goals as goal

pub loop-n-init : goal.loop-n-init
loop-n-init g c =
    let pass = c.args.pass.now in
    (c.requires.numbers.0, (refl, refl, λ i here. here), (refl, refl, refl), c.requires.pass.0, c.requires.pass.1, (keeps_none pass, (λ s off. off), idle_none pass), refl, c.requires.queue)

pub recover_at-requires : goal.recover_at-requires
recover_at-requires g c =
    let i = c.loop-n.invariant in (omega arith, ((i.0, ap (λ seen. seen.name) i.1.0 ∙ c.requires.numbers.1), ((i.3, i.4, c.requires.pass.2), i.7)))

pub loop-n-preserved : goal.loop-n-preserved
loop-n-preserved g c =
    let i = c.loop-n.invariant in let one = c.recover_at.ensures in let first = c.args.pass.now in let was = c.loop-n.pass in let now = c.recover_at.new.pass in let here = one.numbers.1 in let free = one.numbers.2 in let same = one.on.0.0 in (
      one.numbers.0,
      (here.0 ∙ i.1.0, here.1 ∙ i.1.1, λ t lies. here.2 t (i.1.2 t lies)),
      (free.0 ∙ i.2.0, free.1 ∙ i.2.1, free.2 ∙ i.2.2),
      still_for c.args.words.now was now i.3 same,
      still_sole was now same i.4,
      (keeps_then first was now i.5.0 one.on.0, (λ s off. one.on.1 s (i.5.1 s off)), idle_then first was now i.5.2 one.on.2),
      one.aside.0 ∙ i.6,
      one.aside.1,
    )

pub returns-clause-numbers : goal.returns-clause-numbers
returns-clause-numbers g c = let i = c.loop-n.invariant in (i.0, i.1, i.2)

pub returns-clause-on : goal.returns-clause-on
returns-clause-on g c = c.loop-n.invariant.5

pub returns-clause-aside : goal.returns-clause-aside
returns-clause-aside g c = let i = c.loop-n.invariant in (i.6, i.7)
