use Rattle.std.proofs.Common.{ℕ, None, IfSome, refl, sym, subst}
use Rattle.core.specs.declared.result.Result.TheVariants.{Ok}
use Rattle.seize.specs.Blocks.{HoldsOnly}
use Rattle.seize.specs.Collectors.{its_store}
use Rattle.seize_map.specs.Buckets.{IsReplaced, MakesBucket, SomeEntry}
use Rattle.seize_map.specs.Maps.{RemovesAt}
use Rattle.seize_map.specs.contracts.bucket.Bucket.{the_row}
use Rattle.seize_map.proofs.Changed.{alters_as, removes, removes_none, settles_at}
use Rattle.seize_map.proofs.map.HashMap.remove.Goals as goal

pub alter-requires-clause-may_hold : goal.alter-requires-clause-may_hold
alter-requires-clause-may_hold g c x y a answers =
    let eq = g.K.PartialEq.eq in let key = c.args.key.now in
    let made : MakesBucket SomeEntry eq key None answers.0 (Ok (y, a)) = answers.2.1 in
    let may = c.requires.rule x y (subst (λ (o : _). IsReplaced eq key None o y) answers.1 made.0.1.0) in
    (subst (λ (i : ℕ). g.G.Reclaimer.Puts.keeps i x y) (sym c.place-at.ensures.place) may.0, subst (λ (words : _). IfSome y (HoldsOnly g.G.Reclaimer.Puts.owners (its_store words))) (sym c.requires.of.0) may.1)

pub returns-clause-alters : goal.returns-clause-alters
returns-clause-alters g c =
    alters_as c.args.self.now g.met.K.Eq.laws g.met.K.Hash.respects_eq (the_row g.row.K g.row.V).coded c.args.key.now None (λ x is. absurd (cc)) SomeEntry _ (λ x answer made. made.1)
    c.place-at.result (g.G.Guard.its_slot c.args.guard.now) _ c.args.tries c.place-at.ensures.place c.args.pass.now c.alter.new.pass c.alter.result c.alter.ensures.alters refl c.settled.result c.settled.ensures

pub returns-clause-changes : goal.returns-clause-changes
returns-clause-changes g c =
    let map = c.args.self.now in let coded = (the_row g.row.K g.row.V).coded in let s = g.G.Guard.its_slot c.args.guard.now in let key = c.args.key.now in
    settles_at map g.met.K.Eq.laws g.met.K.Hash.respects_eq coded key None (λ x is. absurd (cc)) SomeEntry _ (λ x answer made. made.1)
    c.place-at.result s _ c.args.tries c.place-at.ensures.place c.args.pass.now c.alter.new.pass c.alter.result c.alter.ensures.alters
    (RemovesAt map coded.code s c.args.pass.now c.alter.new.pass key) (removes map coded key s c.args.pass.now c.alter.new.pass) (removes_none map coded key s c.args.pass.now c.alter.new.pass) c.settled.result c.settled.ensures
