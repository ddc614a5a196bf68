use Rattle.std.proofs.Common.{ℕ, [], None, slice_index_or, ap, ◌∙◌, rules}
use Rattle.seize.specs.Waiting.State.{ModelState}
use Rattle.seize.specs.Waiting.Calls.{model_link}
use Rattle.seize.proofs.Outlines.{retire_links}
use Rattle.seize_uses.proofs.one_caller.replace.Goals as goal

pub returns-clause-held : goal.returns-clause-held
returns-clause-held c =
    ap (λ (st : ModelState ℕ ℕ). model_link st 0) c.retire.ensures.done.0.1
    ∙ ap (λ links. slice_index_or links 0 None) (retire_links (λ _ _. []) (λ _. 1) c.swap.new.self.state c.args.slot _ _)
    ∙ search rules
