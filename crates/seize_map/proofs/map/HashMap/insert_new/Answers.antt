use Rattle.std.proofs.Common.{inr, ℕ, Option, Some, IfSome, unwrap_or, sym, ap, refl, subst, ◌∙◌}
use Rattle.core.specs.declared.result.Result.TheVariants.{Ok}
use Rattle.seize.specs.Blocks.{HoldsOnly}
use Rattle.seize.specs.Collectors.{its_store}
use Rattle.seize_map.specs.Buckets.{NoEntry, IsReplaced, MakesBucket}
use Rattle.seize_map.specs.Maps.{PutsNewAt, place_of}
use Rattle.seize_map.specs.contracts.bucket.Bucket.{the_row}
use Rattle.seize_map.specs.declared.bucket.Entry.{Entry}
use Rattle.seize_map.proofs.Changed.{alters_as, puts_new, settles_at, stays_new}
use Rattle.seize_map.proofs.map.HashMap.insert_new.Goals as goal

-- The entry that is put in has the caller's key and value.

pub alter-requires-clause-may_hold : goal.alter-requires-clause-may_hold
alter-requires-clause-may_hold g c x y a answers =
    let eq = g.K.PartialEq.eq in let new : Entry g.row.K.Denot g.row.V.Denot = record { key = c.args.key; value = c.args.value } in let is = c.in-Ok.ensures.ok in
    let made : MakesBucket NoEntry eq new.key (Some new) answers.0 (Ok (y, a)) = subst (λ (e : Entry g.row.K.Denot g.row.V.Denot). MakesBucket NoEntry eq e.key (Some e) answers.0 (Ok (y, a))) is answers.2.1 in
    let may = c.requires.rule x y (subst (λ (o : _). IsReplaced eq new.key (Some new) o y) answers.1 made.0.1.0) in
    let place = c.place-at.ensures.place ∙ ap (λ (e : Entry g.row.K.Denot g.row.V.Denot). place_of c.args.self.now e.key) (c.deref.ensures ∙ is) in
    (subst (λ (i : ℕ). g.G.Reclaimer.Puts.keeps i x y) (sym place) may.0, subst (λ (words : _). IfSome y (HoldsOnly g.G.Reclaimer.Puts.owners (its_store words))) (sym c.requires.of.0) may.1)

pub returns-clause-alters : goal.returns-clause-alters
returns-clause-alters g c =
    let eq = g.K.PartialEq.eq in let new : Entry g.row.K.Denot g.row.V.Denot = record { key = c.args.key; value = c.args.value } in let is = c.in-Ok.ensures.ok in
    let place = c.place-at.ensures.place ∙ ap (λ (e : Entry g.row.K.Denot g.row.V.Denot). place_of c.args.self.now e.key) (c.deref.ensures ∙ is) in
    inr (alters_as c.args.self.now g.met.K.Eq.laws g.met.K.Hash.respects_eq (the_row g.row.K g.row.V).coded new.key (Some new) (λ x same. ap (λ (o : Option (Entry g.row.K.Denot g.row.V.Denot)). (unwrap_or o new).key) (sym same)) NoEntry _
    (λ x answer made. subst (λ (e : Entry g.row.K.Denot g.row.V.Denot). MakesBucket NoEntry eq e.key (Some e) x answer) is made.1)
    c.place-at.result (g.G.Guard.its_slot c.args.guard.now) _ c.args.tries place c.args.pass.now c.alter.new.pass c.alter.result c.alter.ensures.alters refl c.settled.result c.settled.ensures)

pub returns-clause-changes : goal.returns-clause-changes
returns-clause-changes g c =
    let eq = g.K.PartialEq.eq in let new : Entry g.row.K.Denot g.row.V.Denot = record { key = c.args.key; value = c.args.value } in let is = c.in-Ok.ensures.ok in
    let place = c.place-at.ensures.place ∙ ap (λ (e : Entry g.row.K.Denot g.row.V.Denot). place_of c.args.self.now e.key) (c.deref.ensures ∙ is) in
    let map = c.args.self.now in let coded = (the_row g.row.K g.row.V).coded in let s = g.G.Guard.its_slot c.args.guard.now in
    settles_at map g.met.K.Eq.laws g.met.K.Hash.respects_eq coded new.key (Some new) (λ x same. ap (λ (o : Option (Entry g.row.K.Denot g.row.V.Denot)). (unwrap_or o new).key) (sym same)) NoEntry _
    (λ x answer made. subst (λ (e : Entry g.row.K.Denot g.row.V.Denot). MakesBucket NoEntry eq e.key (Some e) x answer) is made.1)
    c.place-at.result s _ c.args.tries place c.args.pass.now c.alter.new.pass c.alter.result c.alter.ensures.alters (PutsNewAt map coded.code s c.args.pass.now c.alter.new.pass new.key new.value)
    (puts_new map coded new.key s c.args.pass.now c.alter.new.pass new.value) (stays_new map coded new.key s c.args.pass.now c.alter.new.pass new.value) c.settled.result c.settled.ensures
