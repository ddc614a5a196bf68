use Rattle.std.proofs.Common.{arith, refl, sym, ap, subst, ◌∙◌}
use Rattle.seize_book.specs.Book.{after}
use Rattle.seize_book.specs.Loans.{AllCarryOne}
use Rattle.seize_book.specs.Tokens.{Name, start}
use Rattle.seize_parts.proofs.InUse.{slots_kept}
use Rattle.seize_parts.proofs.Permitted.{have_codes}
use Rattle.seize_parts.proofs.Resting.{come_on}
use Rattle.seize_parts.proofs.Swept.{still_sole}
use Rattle.seize_parts.proofs.numbers.Numbers.come_to_rest.Goals as goal

pub returns-clause-numbers : goal.returns-clause-numbers
returns-clause-numbers g c =
    let are = c.rest-found.ensures.numbers in let n = c.rest-found.new.self in
    ((slots_kept n are.0.0 _ refl refl refl refl are.0.0.kept refl refl refl, are.0.1), ap (λ b. b.name) are.1 ∙ c.agree.ensures, λ i less. absurd (omega (arith, less)))

pub returns-clause-rests : goal.returns-clause-rests
returns-clause-rests g c =
    let p = c.args.pass.now in let q = c.rest-found.new.pass in let comes = c.rest-found.ensures.rests in
    come_on p q c.permit_for_named-permit.new.self c.rest-found.result comes c.permit_for_named-permit.ensures.0 (still_sole p q comes.same c.requires.pass.1)

pub returns-clause-contents : goal.returns-clause-contents
returns-clause-contents g c =
    let r = c.permit_for_named-permit.new.self in let told = c.permit_for_named-permit.ensures in
    let lent = subst (λ (n : Name). AllCarryOne (after (start n) r.seen).named) (sym told.0.same.0) told.0.lent in
    (have_codes g.row.T.coded.code _ _ c.permit_for_named-permit.result.codes lent told.1.1 c.check.ensures, told.2)
