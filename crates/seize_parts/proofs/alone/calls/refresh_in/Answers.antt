use Rattle.std.proofs.Common.{◌<◌, ◌≡◌, arith, refl, sym, subst, ◌∙◌}
use Rattle.seize_words.specs.Joined.{words_book}
use Rattle.seize_calls.specs.Slots.{its_number}
use Rattle.seize_parts.specs.Enders.{IsEnderIn}
use Rattle.seize_parts.specs.Told.{HasTold}
use Rattle.seize_parts.proofs.Called.{called, sole_still}
use Rattle.seize_parts.proofs.Placed.{at_some, label_same, placed, some_at, still_for, unit_in, units_joined, units_within}
use Rattle.seize_parts.proofs.Stilled.{still_prepared, still_then}
use Rattle.seize_parts.proofs.alone.calls.refresh_in.Goals as goal

pub refresh_telling-requires : goal.refresh_telling-requires
refresh_telling-requires g c =
    let words = c.args.words.now in let at = c.current.new.self in let current = c.current.ensures in let is = current.follows.0.1 in let only = c.requires.r.1 in
    let some : 0 < at.guards = omega (arith, current.active.0, current.follows.1) in let one : at.guards ≡ 1 = omega (arith, some, current.follows.1, c.requires.r.0.fits, only.1) in
    let units = units_joined at.rest c.args.unit.unit c.join.new.self at.guards c.join.ensures c.requires.unit.0.one is.units some in
    let still = still_then current.still (still_prepared at.slot c.head-head.ensures.pass) in (
      omega arith,
      (
        (current.active.1, still_for words c.args.pass.now c.head-head.new.pass only.2 still.same, sole_still still only.3),
        (
          c.head-head.ensures.head,
          (
            (units_within at.slot at.rest c.join.new.self _ c.join.ensures (at_some at.slot at.rest at.guards some is.at), omega (arith, units, one)),
            ((c.new.ensures.0, subst (IsEnderIn (words_book words)) (sym c.new.ensures.1) c.requires.ender), (refl, refl)),
          ),
        ),
      ),
    )

-- the number of its slot
pub invariant_of-result : goal.invariant_of-result
invariant_of-result g c =
    let slot' = c.refresh_telling.new.slot in let refresh = c.refresh_telling.ensures in let seen = c.seen-seen.result in let split = c.split-unit.ensures in
    let number = sym c.requires.unit.0.slot ∙ c.args.unit.its.slot in
    let unit = unit_in seen.name c.args.unit.number slot' c.refresh_telling.new.rest c.split-unit.result seen (sym c.seen-seen.ensures.0) (refresh.refreshes.1.same.0 ∙ c.current.ensures.same ∙ number) refresh.of.1.0 split.0 c.seen-seen.ensures.0 c.seen-seen.ensures.1 in
    record { its = unit.0; known = unit.1 }

pub returns-clause-keeps : goal.returns-clause-keeps
returns-clause-keeps g c =
    let at = c.current.new.self in let current = c.current.ensures in let is = current.follows.0.1 in let only = c.requires.r.1 in
    let some : 0 < at.guards = omega (arith, current.active.0, current.follows.1) in let one : at.guards ≡ 1 = omega (arith, some, current.follows.1, c.requires.r.0.fits, only.1) in
    let slot' = c.refresh_telling.new.slot in let rest = c.refresh_telling.new.rest in let rest' = c.split-unit.new.self in let split = c.split-unit.ensures in let refresh = c.refresh_telling.ensures in (
      label_same at.slot slot' at.most refresh.refreshes.1.same ∙ current.follows.0.0,
      placed c.args.words.now slot' rest' at.guards at.most refresh.of.0 (some_at slot' rest' at.guards some (units_within slot' rest rest' rest'.units split.1 refresh.of.1.0)) (omega (arith, split.2, refresh.of.1.1, one)) is.fits,
    )

pub returns-clause-calls : goal.returns-clause-calls
returns-clause-calls g c =
    let W = g.W.Watch in let code = g.row.T.coded.code in let at = c.current.new.self in let current = c.current.ensures in let watch = c.args.watch.now in let ready = c.head-head.new.pass in
    let still = still_then current.still (still_prepared at.slot c.head-head.ensures.pass) in let rest = c.refresh_telling.new.rest in let pass' = c.refresh_telling.new.pass in
    let refresh = c.refresh_telling.ensures in let did = refresh.refreshes in let rests = did.1.does.rests in let now : g.row.W.Denot = c.watch-1.given.0 in
    called code g.R.Puts.puts W.told c.args.words.now c.args.r.now c.args.pass.now _ pass' (W.seen watch) (W.seen now) _ at.slot ready did.0 _ current.same still c.requires.r.1.3 c.requires.r.1.2 refresh.of.0.0 (rest, did.1) did.1 rests.same rests.grows did.2
    (subst (λ (w : g.row.W.Denot). HasTold code W.told (W.seen watch) (W.seen w) did.0) (sym (c.watch-1.given.1 (sym refresh.same_reference))) did.3)

pub returns-clause-unit : goal.returns-clause-unit
returns-clause-unit g c =
    let refresh = c.refresh_telling.ensures in let did = refresh.refreshes in let split = c.split-unit.ensures in (
      unit_in (words_book c.args.words.now) (its_number c.args.r.now.slot) c.refresh_telling.new.slot c.refresh_telling.new.rest c.split-unit.result c.seen-seen.result refresh.of.0.0.book (did.1.same.0 ∙ c.current.ensures.same) refresh.of.1.0 split.0 c.seen-seen.ensures.0 c.seen-seen.ensures.1,
      sym c.args.unit.its.slot ∙ c.requires.unit.0.slot,
    )
