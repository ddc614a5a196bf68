use Rattle.std.proofs.Common.{ℕ, List, [], ◌∷◌, ◌++◌, refl, sym, subst}
use Rattle.seize_parts.specs.Blocks.{content}
use Rattle.seize_alone.specs.Gone.{AreNamesOf}
use Rattle.seize_parts.proofs.Given.{names_more}
use Rattle.seize_parts.proofs.reclaim.further.Further.put.Goals as goal

pub returns : goal.returns
returns g c = (
  refl,
  refl,
  λ before names. subst (λ (vs : List ℕ). AreNamesOf g.row.T.coded.code vs (before ++ content c.args.owned ∷ [])) (sym c.put.ensures.puts.1)
      (names_more g.row.T.coded.code _ before _ (content c.args.owned) names c.lend-number.ensures.lent.code),
)
