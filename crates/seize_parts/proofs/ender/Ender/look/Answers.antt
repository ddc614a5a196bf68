use Rattle.std.proofs.Common.{◌≡◌, ◌∙◌, sym, subst}
use Rattle.seize_book.specs.Book.{IsLegalList, after, mine}
use Rattle.seize_book.specs.Loans.{AllCarryOne}
use Rattle.seize_book.specs.Pairs.{pairs_in}
use Rattle.seize_book.specs.Tokens.{Name, start}
use Rattle.seize_words.proofs.Keeping.{all_keep}
use Rattle.seize_parts.specs.Rules.{KeepsNumbers}
use Rattle.seize_parts.proofs.Permitted.{have_codes}
use Rattle.seize_parts.proofs.Ruled.{kept_since}
use Rattle.seize_parts.proofs.ender.Ender.look.Goals as goal

pub returns-clause-contents : goal.returns-clause-contents
returns-clause-contents g c =
    let told = c.look-named.ensures in let seen = c.look-named.new.pass.seen in
    have_codes g.row.T.coded.code _ _ c.look-named.result.named.codes (subst (λ (n : Name). AllCarryOne (after (start n) seen).named) (sym told.0.same.0) told.0.lent) told.2.1 c.check.ensures

pub returns-clause-rule : goal.returns-clause-rule
returns-clause-rule g c =
    let code = g.row.T.coded.code in let keeps = g.R.Puts.keeps in let told = c.look-named.ensures in let pass' = c.look-named.new.pass in let same = sym told.0.same.0 in
    kept_since code keeps c.args.porter.now.seen pass' told.1.0
    (subst (λ (n : Name). mine (start n) 0 pass'.seen ≡ mine (start n) 0 c.args.porter.now.seen) (sym (told.0.same.0 ∙ c.requires.book)) told.1.1)
    (subst (λ (n : Name). IsLegalList (start n) pass'.seen) same told.0.legal) (subst (λ (n : Name). AllCarryOne (after (start n) pass'.seen).named) same told.0.lent)
    (all_keep (KeepsNumbers code keeps) c.look-named.result.pairs.codes (pairs_in (start pass'.name) pass'.seen) c.check-2.ensures told.3.1)
