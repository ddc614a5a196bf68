use Rattle.std.proofs.Common.{◌≡◌, ℕ, nat_eq, length, ap, ◌∙◌, arith}
use Rattle.seize_parts.proofs.Numbered.{all_lie}
use Rattle.seize_parts.proofs.numbers.Numbers.all_here.Goals as goal

pub returns : goal.returns
returns g c =
    let self = c.args.self.now in let long : c.len.result ≡ length self.slots.items = (let many = c.len.ensures in omega (arith, many)) in
    ap (λ (k : ℕ). nat_eq self.free k) long ∙ all_lie self.slots.items self.free c.requires.free
