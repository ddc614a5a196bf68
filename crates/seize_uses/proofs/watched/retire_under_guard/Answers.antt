use Rattle.std.proofs.Common.{[], Some, ap, ◌∙◌}
use Rattle.seize.specs.Told.{told_of}
use Rattle.seize_uses.proofs.watched.retire_under_guard.Goals as goal

pub returns : goal.returns
returns c =
    c.retire.ensures.done.1
    ∙ ap (told_of (λ _ number. Some number) c.args.newest.now.0)
    (c.batches.ensures.retire (λ _ _. []) (λ _. 1) c.args.alone.now.state c.args.slot _ _ c.requires.active)
