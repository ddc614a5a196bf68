use Rattle.std.proofs.Common.{ℕ, ◌+◌, ◌∙◌, ap, arith}
use Rattle.seize_table.specs.Table.{entry_number}
use Rattle.seize_table.proofs.Places.{number_at-le, number_at-end}
use Rattle.seize_table.proofs.tls.iter.Iter.next_seen.Goals as goal

pub loop-self-preserved : goal.loop-self-preserved
loop-self-preserved g c =
    let next = number_at-le c.loop-self.self.bucket c.loop-self.self.entry c.loop-self.self.within in
    let same = ap (λ (b : ℕ). entry_number (b + 1) 0) c.next_in_bucket.ensures.bucket in
    let was = c.loop-self.invariant.1 in
    (c.next_in_bucket.ensures.table ∙ c.loop-self.invariant.0, omega arith)

pub returns-clause-in_table : goal.returns-clause-in_table
returns-clause-in_table g c =
    let end = number_at-end c.loop-self.self.bucket c.loop-self.self.entry c.loop-self-test.false c.loop-self.self.in_table c.loop-self.self.at_end in omega arith

pub returns-clause-none : goal.returns-clause-none
returns-clause-none g c = number_at-end c.loop-self.self.bucket c.loop-self.self.entry c.loop-self-test.false c.loop-self.self.in_table c.loop-self.self.at_end
