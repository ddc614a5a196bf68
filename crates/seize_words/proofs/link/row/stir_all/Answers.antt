use Rattle.std.proofs.Common.{ℕ, ◌+◌, ◌<◌, ◌≤◌, Option, length, subst, sym, ◌∙◌, arith}
use Rattle.std.proofs.lemmas.List.{length-set}
use Rattle.seize_words.specs.LinkRows.{IsLinkAt}
use Rattle.seize_words.specs.Stands.{IsSharedLink, Stands}
use Rattle.seize_words.specs.declared.link.Link.{Link}
use Rattle.seize_words.proofs.LinkRows.{set_at}
use Rattle.seize_words.proofs.link.row.stir_all.Goals as goal

pub loop-l-preserved : goal.loop-l-preserved
loop-l-preserved c =
    let row = c.loop-l.row.items in let at : ℕ = c.loop-l.l in let n = c.args._book.now.name in let i = c.loop-l.invariant in let stirred = c.stir.ensures.shared in let link = c.index_mut.result.now in
    let less : at < length row = (let test = c.loop-l-test.true in let many = c.len-l-end.ensures in let same = i.0 in omega (arith, test, many, same)) in let its = subst (λ (l : Link). IsLinkAt n at l) (sym c.index_mut.ensures.value) (i.1 at link less).0 in (
      length-set row at c.stir.new.self ∙ i.0,
      set_at (λ k l. IsLinkAt n k l × (k < at → IsSharedLink l) × (at ≤ k → (held : Option ℕ) × Stands l held)) (λ k l. IsLinkAt n k l × (k < at + 1 → IsSharedLink l) × (at + 1 ≤ k → (held : Option ℕ) × Stands l held))
          row at c.stir.new.self i.1 less ((stirred.1.0 ∙ its.0, stirred.1.1 ∙ its.1), (λ _. stirred.0), (λ past. absurd (omega (arith, past))))
          (λ k d other p. (p.0, (λ below. p.1 (omega (arith, below, other))), (λ past. p.2 (omega (arith, past))))),
    )
