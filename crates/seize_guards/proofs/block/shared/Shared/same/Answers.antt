use Rattle.std.proofs.Common.{ℕ, ap, sym, ◌∙◌}
use Rattle.seize_machine.proofs.Facts.{eq_true}
use Rattle.seize_book.proofs.Lists.{equal}
use Rattle.seize_book.specs.Tokens.{Name}
use Rattle.seize_guards.proofs.block.shared.Shared.same.Goals as goal

pub returns : goal.returns
returns g c =
    let one = c.args.self.now in let other = c.args.other.now in (
      λ same j. (c.requires j, (sym one.worded ∙ eq_true one.word other.word same ∙ other.worded) j),
      λ same. equal one.word other.word (one.worded ∙ ap (λ (t : Name × ℕ). t.1) same ∙ sym other.worded),
    )
