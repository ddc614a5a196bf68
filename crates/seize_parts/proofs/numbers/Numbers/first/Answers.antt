use Rattle.std.proofs.Common.{◌<◌, ◌≤◌, None, arith, ap, is_some, length, sym, ◌∙◌}
use Rattle.std.proofs.lemmas.List.{get_or_default}
use Rattle.seize_parts.proofs.Numbered.{first_met, none_met, none_up_to}
use Rattle.seize_parts.proofs.numbers.Numbers.first.Goals as goal

pub returns-then-is_some : goal.returns-then-is_some
returns-then-is_some g c =
    let items = c.args.self.now.slots.items in let n = c.loop-n.n in let ok = c.args.self.now.slots.ok in
    let below : n < length items = omega (arith, c.loop-n-test.true, c.len-n-end.ensures, ok.0) in
    let same = get_or_default items n None c.index.result.now below ∙ sym c.index.ensures in
    sym (first_met items n c.loop-n.invariant below (ap is_some same ∙ sym c.is_some.ensures ∙ c.if-is_some.true))

pub returns : goal.returns
returns g c =
    let items = c.args.self.now.slots.items in let ok = c.args.self.now.slots.ok in
    let past : length items ≤ c.loop-n.n = omega (arith, c.loop-n-test.false, c.len-n-end.ensures, ok.0) in
    sym (none_met items (none_up_to items c.loop-n.n c.loop-n.invariant past))
