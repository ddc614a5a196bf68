use Rattle.std.proofs.Common.{[], ◌∷◌, ◌++◌, All, List, map, sym, ap, subst, ◌∙◌, append_assoc}
use Rattle.std.proofs.lemmas.List.Elements.{All-tail}
use Rattle.seize_parts.specs.Blocks.{Belongs, content}
use Rattle.seize_parts.specs.Furthers.{further_store}
use Rattle.seize_parts.specs.declared.block.owned.Owned.{Owned}
use Rattle.seize_parts.proofs.Given.{puts_then}
use Rattle.seize_parts.proofs.reclaim.further.Further.put_all.Goals as goal

pub loop-owned-preserved : goal.loop-owned-preserved
loop-owned-preserved g c =
    let l = c.loop-owned in let now = l.invariant.0 in let owned = c.in-Some.owned in let rest = c.next.new.self.rest.items in let first = c.in-Some.ensures.steps.0 in
    let P = Belongs g.R.Puts.owners (further_store c.args.self.now) in (
      (
        now.0 ++ content owned ∷ [],
        puts_then g.row.T.coded.code c.args.self.now l.self c.put.new.self now.0 (content owned ∷ []) now.1 c.put.ensures,
        now.2 ∙ ap (λ (blocks : List (Owned g.row.T.Denot)). now.0 ++ map content blocks) first ∙ sym (append_assoc now.0 (content owned ∷ []) (map content rest)),
      ),
      All-tail P owned rest (subst (All P) first l.invariant.1),
    )
