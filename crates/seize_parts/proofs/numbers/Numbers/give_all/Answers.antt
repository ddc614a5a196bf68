use Rattle.std.proofs.Common.{◌≡◌, ◌-◌, ◌+◌, ◌<◌, ℕ, suc, List, Option, None, is_some, length, reverse, refl, sym, ap, subst, ◌∙◌, arith}
use Rattle.std.specs.List.{range_with_len}
use Rattle.std.proofs.lemmas.List.{get_or_past, length-set}
use Rattle.seize_model.specs.Waiting.State.{ModelState}
use Rattle.seize_calls.specs.declared.slot.Slot.{Slot}
use Rattle.seize_alone.specs.Holding.{Holds}
use Rattle.seize_alone.specs.Reclaiming.{number_in_turn, numbers_in_turn}
use Rattle.seize_parts.specs.Aparts.{AreKeptOf}
use Rattle.seize_parts.proofs.Ended.{kept_less, last_more, none_less, numbers_all, spent_less}
use Rattle.seize_parts.proofs.Keeping.{active_none, active_then, idle_none, idle_then, off_before, off_then}
use Rattle.seize_parts.proofs.Placed.{still_for}
use Rattle.seize_parts.proofs.Swept.{keeps_none, keeps_then, still_sole}
use Rattle.seize_parts.proofs.numbers.Numbers.give_all.Goals as goal

-- one number more
given_more : {T : Type 0} (st : ModelState T ℕ) (many given k : ℕ) → given < many → k ≡ many - 1 - given
    → numbers_in_turn st (reverse (range_with_len (many - (given + 1)) (given + 1))) ≡ number_in_turn (numbers_in_turn st (reverse (range_with_len (many - given) given))) k
given_more {T} st many given k less is =
    (λ j. numbers_in_turn st (reverse (range_with_len (first j) (plus given j)))) ∙ last_more st k given ∙ ap (λ (m : ℕ). number_in_turn (numbers_in_turn st (reverse (range_with_len m given))) k) next
  where
    plus : (n : ℕ) → n + 1 ≡ suc n
    plus n = omega arith

    first : many - (given + 1) ≡ k
    first = omega (arith, less, is)

    next : k + 1 ≡ many - given
    next = omega (arith, less, is)

pub loop-given-init : goal.loop-given-init
loop-given-init g c =
    let self = c.args.self.now in let many = c.len-many.ensures in let pass = c.args.pass.now in (
      c.requires.numbers.0,
      (refl, refl, λ i here. here),
      omega (arith, many),
      c.requires.pass.0,
      c.requires.pass.1,
      (keeps_none pass, active_none pass, idle_none pass),
      (λ off. (c.requires.spent.0 off, c.requires.spent.1)),
      (λ i past. get_or_past self.kept.items i None (omega (arith, many, past))),
      (λ st names kinds are holds. holds),
      (λ st are. are),
    )

pub give_at-requires : goal.give_at-requires
give_at-requires g c =
    let i = c.loop-given.invariant in let many = c.len-many.result in let given = c.loop-given.given in let less : given < many = c.loop-given-test.true in let long = i.2 in (
      omega arith,
      (
        (i.0, ap (λ seen. seen.name) i.1.0 ∙ c.requires.numbers.1, omega (arith, less, long)),
        ((i.3, i.4), λ off. i.6 (off_before c.args.pass.now c.loop-given.pass i.5.1 off)),
      ),
    )

pub loop-given-preserved : goal.loop-given-preserved
loop-given-preserved g c =
    let i = c.loop-given.invariant in let many = c.len-many.result in let given = c.loop-given.given in let less : given < many = c.loop-given-test.true in let k : ℕ = many - 1 - given in let T = g.row.T in
    let one = c.give_at.ensures in let first = c.args.pass.now in let was = c.loop-given.pass in let now = c.give_at.new.pass in let self = c.loop-given.self in let self' = c.give_at.new.self in let is = one.numbers.2 in let long = i.2 in let same = one.on.0.0 in
    let below : k < length self.kept.items = omega (arith, less, long) in (
      one.numbers.0,
      (one.numbers.1.0 ∙ i.1.0, one.numbers.1.1 ∙ i.1.1, λ t here. one.numbers.1.2 t (i.1.2 t here)),
      ap (λ (l : List (Option (Slot T.Denot))). length l) is ∙ length-set self.kept.items k None ∙ i.2,
      still_for c.args.words.now was now i.3 same,
      still_sole was now same i.4,
      (keeps_then first was now i.5.0 one.on.0, active_then first was now i.5.1 one.on.1, idle_then first was now i.5.2 one.on.2),
      (λ off. (spent_less self.kept.items self'.kept.items k is (i.6 off).0, one.rest (off_then first was i.5.1 off))),
      (λ t past. none_less self.kept.items self'.kept.items k (many - given) is below (omega (arith, less)) i.7 t (omega (arith, less, past))),
      (λ st names kinds are holds. subst (λ (st' : ModelState T.Denot ℕ). Holds T.coded.code st' names kinds now.name now.seen) (sym (given_more st many given k less refl))
          (one.gives (numbers_in_turn st (reverse (range_with_len (many - given) given))) names kinds (i.9 st are) (i.8 st names kinds are holds))),
      (λ st are. subst (λ (st' : ModelState T.Denot ℕ). AreKeptOf self'.kept.items st') (sym (given_more st many given k less refl))
          (kept_less self.kept.items self'.kept.items k (numbers_in_turn st (reverse (range_with_len (many - given) given))) is below (i.9 st are))),
    )

pub returns-clause-numbers : goal.returns-clause-numbers
returns-clause-numbers g c =
    let i = c.loop-given.invariant in let over = c.loop-given-test.false in
    ((i.0, λ t less. ap is_some (i.7 t (omega (arith, over)))), i.1)

pub returns-clause-on : goal.returns-clause-on
returns-clause-on g c = c.loop-given.invariant.5

pub returns-clause-rest : goal.returns-clause-rest
returns-clause-rest g c off = (c.loop-given.invariant.6 off).1

pub returns-clause-gives : goal.returns-clause-gives
returns-clause-gives g c st names kinds are holds =
    let i = c.loop-given.invariant in let over = c.loop-given-test.false in let end = c.loop-given.auto.given-end in let many = c.len-many.ensures in let T = g.row.T in let pass = c.loop-given.pass in let kept = c.args.self.now.kept.items in
    let all : c.loop-given.given ≡ length kept = omega (arith, over, end, many) in let none : c.len-many.result - c.loop-given.given ≡ 0 = omega (arith, over) in
    subst (λ (st' : ModelState T.Denot ℕ). Holds T.coded.code st' names kinds pass.name pass.seen) ((λ j. numbers_in_turn st (reverse (range_with_len (none j) (all j)))) ∙ numbers_all kept st are) (i.8 st names kinds are holds)
