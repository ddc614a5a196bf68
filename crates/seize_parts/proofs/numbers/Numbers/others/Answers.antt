use Rattle.std.proofs.Common.{true, false, nat_lt, length, ◌≡◌, ap, sym, ◌∙◌, arith}
use Rattle.std.specs.Prelude.{◌-◌}
use Rattle.seize_book.specs.Others.{others_used}
use Rattle.seize_parts.proofs.Numbered.{few_lie, others_so, own_here, own_past}
use Rattle.seize_parts.proofs.numbers.Numbers.others.Goals as goal
use Rattle.seize_parts.proofs.numbers.Numbers.others.Goals.{then-n-len, else-n-len}

pub overflow_sub-in_use : goal.overflow_sub-in_use
overflow_sub-in_use g c = let few = few_lie c.args.self.now.slots.items in let many = c.requires.free in omega (arith, few, many, c.len.ensures)

pub returns-then-own : goal.returns-then-own
returns-then-own g c =
    let self = c.args.self.now in let ok = self.slots.ok in let many = c.requires.free in let few = few_lie self.slots.items in
    others_so self.slots.items c.args.n (c.len.result - self.free) true (omega (arith, many, few, c.len.ensures)) (sym c.if-own.true ∙ elim c.if-n-len.branch [
      | then-n-len w ↦ w.own-is ∙ own_here self.slots.items c.args.n w.index.result.now w.is_none-own.result (omega (arith, w.if-n-len.true, c.len-2.ensures)) w.index.ensures w.is_none-own.ensures
      | else-n-len w ↦ own_past self.slots.items c.args.n c.if-n-len.own (omega (arith, w.if-n-len.false, c.len-2.ensures)) (w.own-is ∙ ap (λ k. nat_lt c.args.n k) (let len : c.len-2.result ≡ length self.slots.items = omega (arith, c.len-2.ensures, ok.0) in len))
    ]) ∙ ap (λ us. others_used us c.args.n) (sym c.requires.flags)

pub returns-else-own : goal.returns-else-own
returns-else-own g c =
    let self = c.args.self.now in let ok = self.slots.ok in let many = c.requires.free in let few = few_lie self.slots.items in
    others_so self.slots.items c.args.n (c.len.result - self.free) false (omega (arith, many, few, c.len.ensures)) (sym c.if-own.false ∙ elim c.if-n-len.branch [
      | then-n-len w ↦ w.own-is ∙ own_here self.slots.items c.args.n w.index.result.now w.is_none-own.result (omega (arith, w.if-n-len.true, c.len-2.ensures)) w.index.ensures w.is_none-own.ensures
      | else-n-len w ↦ own_past self.slots.items c.args.n c.if-n-len.own (omega (arith, w.if-n-len.false, c.len-2.ensures)) (w.own-is ∙ ap (λ k. nat_lt c.args.n k) (let len : c.len-2.result ≡ length self.slots.items = omega (arith, c.len-2.ensures, ok.0) in len))
    ]) ∙ ap (λ us. others_used us c.args.n) (sym c.requires.flags)
