use Rattle.std.proofs.Common.{arith, rules, ℕ, All, sym, subst, ◌∙◌}
use Rattle.std.proofs.lemmas.List.Elements.{All-map, All-push}
use Rattle.std.proofs.lemmas.Grind.{common_steps}
use denote.RawPtr.{Ptr}
use Rattle.seize_table.specs.Pairs.{left_of, of_family}
use Rattle.seize_store.specs.declared.row.Kept.{Kept}
use Rattle.seize_store.proofs.row.Row.new.Given as given
use Rattle.seize_store.proofs.row.Row.new.Goals as goal

IsKin : (g : given.Over) → g.row.M.Denot → Kept g.row.H.Denot g.row.P.Denot g.row.T.Denot g.H.Labelled → Type 0
IsKin g maker kept = of_family (g.M.Maker.family maker) (left_of kept.chunk.tag)

-- src/row.rt:95:9
pub loop-entry-preserved : goal.loop-entry-preserved
unfolding IsKin
loop-entry-preserved g c = let Kin = IsKin g c.args.maker.now in
    let one = subst (λ (k : ℕ). of_family (g.M.Maker.family c.args.maker.now) k) (sym (c.of-chunk.ensures.2.0 ∙ c.make-header.ensures.same)) c.make-header.ensures.kin in (
      search rules,
      search rules,
      search rules,
      grind (arith, common_steps),
      subst (All Kin) (sym c.push_reserved.ensures.items) (All-push Kin c.loop-entry.chunks.items _ c.loop-entry.invariant.4 one),
    )

-- src/row.rt:81:5
pub returns : goal.returns
returns g c = All-map (λ (chunk : Ptr × ℕ). of_family (g.M.Maker.family c.args.maker.now) (left_of chunk.1)) _ c.loop-entry.chunks.items c.loop-entry.invariant.4
