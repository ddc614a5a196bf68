use Rattle.std.proofs.Common.{◌≡◌, sym, ap, ◌∙◌, subst}
use Rattle.seize_book.specs.Blocks.{IsNear}
use Rattle.seize_book.specs.Book.{after}
use Rattle.seize_book.specs.Homes.{count_in}
use Rattle.seize_book.specs.Tokens.{Name, start}
use Rattle.seize_words.specs.Counts.{home}
use Rattle.seize_words.specs.Stepping.{LooksAt}
use Rattle.seize_words.specs.Words.{Site}
use Rattle.seize_book.specs.declared.book.pass.Pass.{Pass}
use Rattle.seize_book.proofs.Facts.{any_near, reached_after}
use Rattle.seize_words.proofs.Counted.{is_at_count}
use Rattle.seize_words.proofs.Counting.{same}
use Rattle.seize_words.proofs.batch.Count.load.Goals as goal

pub returns-clause-shows : goal.returns-clause-shows
returns-clause-shows c =
    let count = c.args.self.now in let none = c.empty-none in let before = none.new.pass in let after = c.look.new.pass in let v = c.look.result in
    let book : count.word.name ≡ after.name = c.requires ∙ sym (ap (λ (p : Pass). p.name) none.ensures.2) ∙ sym c.look.ensures.0.0 in
    let looks = subst (λ (w : Site). LooksAt w before.id before.seen after.seen none.result.held v) (is_at_count count.word after.name book count.count) c.look.ensures.2 in
    same after.name (home count) v before.id before.seen none.result.held looks.since after.seen looks.found

pub returns-clause-near : goal.returns-clause-near
returns-clause-near c =
    let count = c.args.self.now in let pass = c.look.new.pass in let n = count.word.name in let found = c.look.ensures.2.found in let seen = pass.seen in
    let book : n ≡ pass.name = c.requires ∙ sym (ap (λ (p : Pass). p.name) c.empty-none.ensures.2) ∙ sym c.look.ensures.0.0 in
    subst (λ (m : Name). IsNear (count_in (after (start m) seen) (home count))) book
    (any_near (after (start n) seen) (reached_after n seen found.distinct found.before.legal) found.before.sound (home count))
