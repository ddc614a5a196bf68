use Rattle.std.proofs.Common.{◌∙◌, ap, eqb-true, eq-eqb}
use Rattle.seize_book.specs.Values.{values_of}
use Rattle.seize_calls.specs.Furthers.{further_in}
use Rattle.seize_calls.specs.Numbered.{word_of_first}
use Rattle.seize_calls.proofs.Chains.{none_all, word_is}
use Rattle.seize_calls.proofs.further.Further.is_empty.Goals as goal

pub returns : goal.returns
returns c =
    let self = c.args.self.now in let values = values_of (further_in self) in (
      λ is. none_all values (word_is self.front values self.its_front (eqb-true self.front 0 is)),
      λ none. eq-eqb self.front 0 (self.its_front ∙ ap word_of_first none),
    )
