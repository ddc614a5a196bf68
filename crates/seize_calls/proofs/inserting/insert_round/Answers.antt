use Rattle.std.proofs.Common.{rules, ◌≡◌, ℕ, ◌+◌, ◌<◌, Bool, if◌then◌else◌, lit<, refl, sym, ap, subst, ◌∙◌, arith}
use Rattle.std.proofs.lemmas.List.{length-take-le}
use Rattle.seize_calls.specs.Batches.{slot_marks_of}
use Rattle.seize_calls.specs.Rounds.{rest_in}
use Rattle.seize_calls.proofs.Holders.{key_on}
use Rattle.seize_calls.proofs.Keeps.{keeps_book}
use Rattle.seize_calls.proofs.Sole.{may_same}
use Rattle.seize_calls.proofs.Inserts.{HasTurned, all_turned, none_turned, round_done, round_next, round_turned}
use Rattle.seize_calls.proofs.inserting.insert_round.Goals.{then-insert_at, else-insert_at}
use Rattle.seize_calls.proofs.inserting.insert_round.Goals as goal

pub loop-init : goal.loop-init
loop-init g c =
    (λ at. none_turned at, c.requires.key.0.its, c.requires.key.0.knows, c.requires.round.0, c.requires.round.1, refl)

pub insert_at-requires : goal.insert_at-requires
insert_at-requires g c =
    let l = c.loop in let at = c.requires.at in let r = l.invariant.0 at in (
      lit< tt,
      (
        (key_on c.args.words.now c.args.key.now l.key c.args.pass.now l.pass c.requires.key.0 r.keeps.on l.invariant.2, may_same (g.M.Manner.may c.args.manner.now) c.args.pass.now l.pass r.keeps.on.same c.requires.key.1),
        (
          l.invariant.3,
          round_next (rest_in c.args.round.now) c.args.marked c.requires.round.2 r c.loop-test.true l.invariant.1 l.invariant.2 l.round l.invariant.5,
        ),
      ),
    )

pub overflow_add-won : goal.overflow_add-won
overflow_add-won g c =
    let l = c.loop in let r = l.invariant.0 c.requires.at in let few = r.few in let less : l.won < c.args.marked = omega (arith, few, c.loop-test.true) in
    search rules

pub loop-preserved : goal.loop-preserved
loop-preserved g c =
    let l = c.loop in let one = c.insert_at in let at0 = c.requires.at in
    let won : c.if-insert_at.won ≡ l.won + (if one.result then 1 else 0) =
    elim c.if-insert_at.branch [
      | then-insert_at w ↦ w.won-is ∙ ap (λ (b : Bool). l.won + (if b then 1 else 0)) (sym w.if-insert_at.true)
      | else-insert_at w ↦ w.won-is ∙ (let same : l.won ≡ l.won + 0 = omega arith in same) ∙ ap (λ (b : Bool). l.won + (if b then 1 else 0)) (sym w.if-insert_at.false)
    ] in
    let held = rest_in c.args.round.now in let r = l.invariant.0 at0 in
    let next = round_next held c.args.marked c.requires.round.2 r c.loop-test.true l.invariant.1 l.invariant.2 l.round l.invariant.5 in
    let past = round_done held c.args.marked c.requires.round.2 r c.loop-test.true l.invariant.1 l.invariant.2 l.round l.invariant.5 one.new.round (one.ensures.round next) l.invariant.4 in
    let same = (one.ensures.inserted next).keeps.on.same.0 in (
      λ at.
          subst (λ (n : ℕ). HasTurned at (l.counter + 1) n one.new.key one.new.pass) (sym won)
          (round_turned held c.args.marked c.requires.round.2 (l.invariant.0 at) c.loop-test.true l.invariant.1 l.invariant.2 l.round l.invariant.5 one.ensures.inserted),
      keeps_book l.key one.new.key l.pass one.new.pass (one.ensures.inserted next).keeps l.invariant.1,
      one.ensures.knows,
      (one.ensures.round next).0 ∙ l.invariant.3 ∙ sym same,
      past.0,
      past.1,
    )

pub returns-clause-all : goal.returns-clause-all
returns-clause-all g c = λ at.
    let l = c.loop in let long = length-take-le c.args.marked (slot_marks_of (rest_in c.args.round.now)) c.requires.round.2 in
    all_turned (l.invariant.0 at) (omega (arith, long, c.loop-test.false))
