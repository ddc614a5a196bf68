use Rattle.std.proofs.Common.{ap, ◌∙◌, sym, arith}
use Rattle.seize_book.specs.Tokens.{Name}
use Rattle.seize_words.specs.Totals.{slots_seen}
use Rattle.seize_words.proofs.Facts.{more_seen}
use Rattle.seize_words.proofs.Reserved.{few_seen, long_labels, their_labels}
use Rattle.seize_words.proofs.slots.Slots.load.Goals as goal

pub returns-clause-count : goal.returns-clause-count
returns-clause-count c = (c.load-count.new.pass, c.load-count.ensures.looks, c.slots.ensures.0, c.load-count.ensures.shows)

pub returns-clause-all : goal.returns-clause-all
returns-clause-all c =
    let seen = c.slots.new.self in let all = c.slots.ensures in let its = all.0.same.0 ∙ c.load-count.ensures.looks.same.0 ∙ sym c.requires.book in
    let more = more_seen c.load-count.new.pass seen all.0 in let few = few_seen c.load-count.new.pass seen all.0 in let long = long_labels seen.name (slots_seen seen) c.slots.result.labels all.1.1 in (
      (all.1.0 ∙ ap (λ (n : Name). n.table) its, their_labels seen.name c.args.self.now.book.name (slots_seen seen) c.slots.result.labels all.1.1 its),
      omega (arith, c.load-count.ensures.shows, more, long),
      omega (arith, c.load-count.ensures.shows, more, few),
    )
