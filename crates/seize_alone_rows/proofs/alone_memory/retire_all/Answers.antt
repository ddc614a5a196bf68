use Rattle.std.proofs.Common.{All, subst, ◌∙◌}
use Rattle.std.proofs.lemmas.List.Elements.{All-tail}
use Rattle.seize.specs.Blocks.{Belongs}
use Rattle.seize_uses.specs.Nests.{nest_owners}
use Rattle.seize_alone_rows.proofs.alone_memory.retire_all.Goals as goal

pub loop-block-preserved : goal.loop-block-preserved
loop-block-preserved g c =
    let was = c.loop-block.invariant.0 in let is = c.retire.ensures in
    let P = Belongs nest_owners c.args.alone.now.book.store in (
      (is.0 ∙ was.0, is.1 ∙ was.1, is.2 ∙ was.2, is.3 ∙ was.3, is.4 ∙ was.4),
      All-tail P c.in-Some.block c.next.new.self.rest.items (subst (All P) c.in-Some.ensures.steps.0 c.loop-block.invariant.1),
    )
