use Rattle.std.proofs.Common.{arith, sym, ◌∙◌}
use Rattle.seize.proofs.alone.sharing.shared.Goals as goal

pub lay_all-requires : goal.lay_all-requires
lay_all-requires g c =
    let left = c.leave_home.ensures in let again = c.again-porter.ensures in let for = c.requires.pass.0 in
    (omega arith, ((left.2, left.0.0 ∙ sym again.0.0 ∙ sym for.0, left.0.1 ∙ sym again.0.1 ∙ sym for.1), c.requires.places))
