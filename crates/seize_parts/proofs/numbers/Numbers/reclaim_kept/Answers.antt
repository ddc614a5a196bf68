use Rattle.std.proofs.Common.{◌++◌, length, reverse, refl, sym, ap, subst, ◌∙◌, arith}
use Rattle.std.specs.List.{range_with_len}
use Rattle.std.proofs.lemmas.List.{append-nil}
use Rattle.seize_book.specs.Tokens.{Name}
use Rattle.seize_calls.specs.Furthers.{further_in}
use Rattle.seize_calls.specs.Handing.{IsServed}
use Rattle.seize_alone.specs.Reclaiming.{batches_in_turn, numbers_in_turn, rest_in_turn}
use Rattle.seize_alone.proofs.Outlines.{slots_in}
use Rattle.seize_parts.proofs.Going.{fits_then, goes_as, goes_held, goes_then}
use Rattle.seize_parts.proofs.InUse.{none_below_same, places_here, slots_kept}
use Rattle.seize_parts.proofs.Keeping.{active_then, gives_goes, idle_then, kept_then, off_before, off_then}
use Rattle.seize_parts.proofs.Outlined.{batches_outline, batches_size}
use Rattle.seize_parts.proofs.Placed.{still_for}
use Rattle.seize_parts.proofs.Swept.{keeps_then, still_sole}
use Rattle.seize_parts.proofs.numbers.Numbers.reclaim_kept.Goals as goal

pub attempt_rest-requires : goal.attempt_rest-requires
attempt_rest-requires g c =
    let self0 = c.args.self.now in let self1 = c.attempt_all.new.self in let all = c.attempt_all.ensures in let p0 = c.args.pass.now in let p1 = c.attempt_all.new.pass in let same = all.on.0.0 in let keeps = all.numbers.1 in (
      omega arith,
      (
        (all.numbers.0, ap (λ seen. seen.name) keeps.0 ∙ c.requires.numbers.1, λ i less. none_below_same self0.slots.items self1.slots.items self0.least keeps.1 c.requires.numbers.2 i (let least = keeps.3 in omega (arith, less, least))),
        ((still_for c.args.words.now p0 p1 c.requires.pass.0 same, still_sole p0 p1 same c.requires.pass.1, c.requires.pass.2), all.aside.1),
      ),
    )

pub give_all-requires : goal.give_all-requires
give_all-requires g c =
    let all = c.attempt_all.ensures in let rest = c.attempt_rest.ensures in let p0 = c.args.pass.now in let p1 = c.attempt_all.new.pass in let p2 = c.attempt_rest.new.pass in let words = c.args.words.now in (
      omega arith,
      (
        (rest.numbers.0, ap (λ seen. seen.name) (rest.numbers.1.0 ∙ all.numbers.1.0) ∙ c.requires.numbers.1),
        (
          (still_for words p1 p2 (still_for words p0 p1 c.requires.pass.0 all.on.0.0) rest.on.0.0, still_sole p1 p2 rest.on.0.0 (still_sole p0 p1 all.on.0.0 c.requires.pass.1)),
          ((λ off. let off1 = off_before p1 p2 rest.on.1 off in rest.spent off1 (all.spent (off_before p0 p1 all.on.1 off1))), rest.numbers.2),
        ),
      ),
    )

pub returns-clause-numbers : goal.returns-clause-numbers
returns-clause-numbers g c =
    let self0 = c.args.self.now in let self1 = c.attempt_all.new.self in let given = c.give_all.new.self in let all = c.attempt_all.ensures in let here = places_here self0 self1 all.numbers.1 in let rest = c.attempt_rest.ensures.numbers.1 in let give = c.give_all.ensures.numbers in (
      (slots_kept given give.0.0 _ refl refl refl refl give.0.0.kept refl refl refl, give.0.1),
      (give.1.0 ∙ rest.0 ∙ here.0, give.1.1 ∙ rest.1 ∙ here.1, λ i lies. give.1.2 i (rest.2 i (here.2 i lies))),
      λ i less. absurd (omega (arith, less)),
    )

pub returns-clause-on : goal.returns-clause-on
returns-clause-on g c =
    let p0 = c.args.pass.now in let p1 = c.attempt_all.new.pass in let p2 = c.attempt_rest.new.pass in let p3 = c.give_all.new.pass in let all = c.attempt_all.ensures.on in let rest = c.attempt_rest.ensures.on in let give = c.give_all.ensures.on in (
      keeps_then p0 p1 p3 all.0 (keeps_then p1 p2 p3 rest.0 give.0),
      active_then p0 p1 p3 all.1 (active_then p1 p2 p3 rest.1 give.1),
      idle_then p0 p1 p3 all.2 (idle_then p1 p2 p3 rest.2 give.2),
    )

pub returns-clause-rest : goal.returns-clause-rest
returns-clause-rest g c off =
    let p0 = c.args.pass.now in let p1 = c.attempt_all.new.pass in let p2 = c.attempt_rest.new.pass in c.give_all.ensures.rest (off_then p1 p2 c.attempt_rest.ensures.on.1 (off_then p0 p1 c.attempt_all.ensures.on.1 off))

pub returns-clause-goes : goal.returns-clause-goes
returns-clause-goes g c =
    let T = g.row.T in let W = g.W.Watch in let puts = g.R.Puts.puts in let code = T.coded.code in let self0 = c.args.self.now in let self1 = c.attempt_all.new.self in let self2 = c.attempt_rest.new.self in
    let p0 = c.args.pass.now in let p1 = c.attempt_all.new.pass in let p2 = c.attempt_rest.new.pass in let p3 = c.give_all.new.pass in let all = c.attempt_all.ensures in let rest = c.attempt_rest.ensures in let give = c.give_all.ensures in
    let queue = c.attempt_rest.new.aside.queue in
    let back = gives_goes code puts W.told p2 p3 (W.seen c.attempt_rest.new.aside.watch.now) queue give.on.0.0 (subst (λ (n : Name). IsServed (further_in queue) n) (sym rest.goes.same.0) rest.goes.waits.served) give.gives in
    let later = goes_held code puts W.told
    {does' = λ st. let rested = rest_in_turn st in (numbers_in_turn rested.0 (reverse (range_with_len 0 (length st.slots))), rested.1)}
    (λ st names kinds may holds. (may, (let rested = rest_in_turn st in λ j. (numbers_in_turn rested.0 (reverse (range_with_len 0 ((rest.kept st names kinds may.1 holds).1 j))), append-nil rested.1 j))))
    (goes_then code puts W.told rest.goes back (λ st names kinds may holds held. (rest.kept st names kinds may.1 holds).0)) in
    goes_as code puts W.told (λ st may. may)
    (λ st may. let emptied = batches_in_turn st (range_with_len 0 (length st.slots)) in let rested = rest_in_turn emptied.0 in
    λ j. (numbers_in_turn rested.0 (reverse (range_with_len 0 (slots_in emptied.0 st (batches_outline st (range_with_len 0 (length st.slots)) (λ t. (may.1 t).1)) j))), emptied.1 ++ rested.1))
    (goes_then code puts W.told all.goes later (λ st names kinds may holds held. (
      fits_then p0 p1 st (batches_in_turn st (range_with_len 0 (length st.slots))).0 all.goes.same (batches_size st (range_with_len 0 (length st.slots))) may.0,
      kept_then self0.kept.items self1.kept.items st (batches_in_turn st (range_with_len 0 (length st.slots))).0 all.numbers.1.2 (batches_outline st (range_with_len 0 (length st.slots)) (λ t. (may.1 t).1)) may.1,
    )))
