use Rattle.std.proofs.Common.{◌≡◌, ℕ, Option, Some, None, inl, inr, refl, sym, ap, subst, rules}
use Rattle.seize.specs.Guards.{core_slot}
use Rattle.seize.specs.Machine.State.{State, link_at}
use Rattle.seize.specs.Rules.{HoldsOf, Says}
use Rattle.seize.proofs.Facts.{earlier_since, makes_then, read_there, read_till_read}
use Rattle.seize_uses.specs.Places.{IsMoved, number_in}
use Rattle.seize_uses.specs.Shown.{ShowsNumber}
use Rattle.seize_uses.specs.contracts.moved.Place.{the_row}
use Rattle.seize_uses.specs.declared.moved.Place.{Place}
use Rattle.seize_uses.specs.declared.moved.Place.TheVariants.{Here, Moved}
use Rattle.seize_uses.proofs.moved.find.Goals as goal

here : (old new : ℕ) (st : State) (held : Option ℕ) (place : Option Place) (number : Option ℕ) → link_at st old ≡ held → Says the_row.coded.code held place → ¬ (IsMoved place) → number_in place ≡ number → ShowsNumber old new st number
here old new st held place number is says other same =
    inl (subst (HoldsOf the_row.coded.code (λ there. ¬ (IsMoved there) × (number_in there ≡ number))) (sym is) (place, says, (other, same)))

here_not : (place : Option Place) (n : ℕ) → place ≡ Some (Here n) → ¬ (IsMoved place)
here_not place n is moved = cc

none_not : (place : Option Place) → place ≡ None → ¬ (IsMoved place)
none_not place is moved = cc

-- the old link had it
pub returns-in-Some-Here-clause-found : goal.returns-in-Some-Here-clause-found
returns-in-Some-Here-clause-found c =
    let first = c.content_at-first in let reads = first.ensures.read in let number = Some c.in-Some-Here.n in
    let is : first.result ≡ Some (Here c.in-Some-Here.n) = search rules in
    let there = read_there (core_slot c.args.core.now) c.args.old reads.0 (makes_then c.laws.ensures.none reads.1) in
    (there.0, there.1, here c.args.old c.args.new there.0.before reads.0 first.result number there.2 reads.2 (here_not first.result c.in-Some-Here.n is) (ap number_in is))

pub returns-in-None-clause-found : goal.returns-in-None-clause-found
returns-in-None-clause-found c =
    let first = c.content_at-first in let reads = first.ensures.read in
    let is : first.result ≡ None = search rules in
    let there = read_there (core_slot c.args.core.now) c.args.old reads.0 (makes_then c.laws.ensures.none reads.1) in
    (there.0, there.1, here c.args.old c.args.new there.0.before reads.0 first.result None there.2 reads.2 (none_not first.result is) (ap number_in is))

-- the mark is there still when the new link is read
pub returns-in-Some-Moved-clause-found : goal.returns-in-Some-Moved-clause-found
returns-in-Some-Moved-clause-found c =
    let s = core_slot c.args.core.now in let one = c.content_at-first.ensures.read in let two = c.content_at-second.ensures.read in
    let marked : Says the_row.coded.code one.0 (Some Moved) = subst (Says the_row.coded.code one.0) (search rules) one.2 in
    let there = read_till_read the_row.coded c.laws-in-Some-Moved.ensures.rule c.args.old IsMoved (λ before after moved keeps. keeps moved) s s c.args.new one.0 two.0 (Some Moved)
    c.laws.ensures.rule.goes_on one.1 two.1 c.laws-in-Some-Moved.ensures.none marked refl in
    let n = there.0 in let all = makes_then c.laws.ensures.none one.1 in (
      n,
      earlier_since c.laws-in-Some-Moved.new.pass n all there.1,
      inr (there.2, subst (HoldsOf the_row.coded.code (λ place. number_in place ≡ c.number.result)) (sym there.3) (c.content_at-second.result, two.2, sym c.number.ensures)),
    )
