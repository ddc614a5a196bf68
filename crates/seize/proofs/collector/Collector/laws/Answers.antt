use Rattle.std.proofs.Common.{sym, subst}
use Rattle.seize_book.specs.Book.{moments}
use Rattle.seize_book.specs.Tokens.{Name, start}
use Rattle.seize_book.specs.declared.book.pass.Pass.{Pass}
use Rattle.seize_parts.specs.Laws.{LawsOf}
use Rattle.seize_parts.specs.Makes.{MakesNone}
use Rattle.seize.specs.Collectors.{its_most}
use Rattle.seize_book.proofs.Bounds.{fills_within}
use Rattle.seize.proofs.Lawful.{laws_of}
use Rattle.seize_parts.proofs.Made.{none_looked}
use Rattle.seize.proofs.collector.Collector.laws.Goals as goal

pub returns-clause-none : goal.returns-clause-none
returns-clause-none g c =
    subst (MakesNone c.args.pass.now) (sym c.bound.ensures.0) (none_looked c.args.pass.now c.look.new.pass c.look.ensures.looks)

pub returns-clause-laws : goal.returns-clause-laws
returns-clause-laws g c =
    let looks = c.look.ensures.looks in let all = c.laws.ensures in let log = c.look.new.pass.seen in let later = c.bound.new.pass in let most = its_most c.args.self.now in (
      subst (λ (p : Pass). LawsOf (start p.name) (moments (start p.name) p.seen)) (sym c.bound.ensures.0)
          (subst (λ (n : Name). LawsOf (start n) (moments (start n) log)) (sym looks.same.0)
          (laws_of all.at_most_once all.after all.quiet all.unused all.protection all.whereabouts all.gone all.holders all.no_later_holders all.under_guard all.tries c.args.pass.now.name log looks.distinct looks.legal)),
      fills_within most (start later.name) later.seen c.bound.ensures.1,
    )
