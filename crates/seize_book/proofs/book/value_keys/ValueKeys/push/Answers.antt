use Rattle.std.proofs.Common.{ap, ◌∙◌}
use Rattle.seize_book.specs.Linked.{are_linked}
use Rattle.seize_book.specs.Private.{are_of_blocks}
use Rattle.seize_book.proofs.Linked.{append_linked, value_linked}
use Rattle.seize_book.proofs.Values.{blocks_append, value_blocks}
use Rattle.seize_book.proofs.book.value_keys.ValueKeys.push.Goals as goal

pub invariant_of-self : goal.invariant_of-self
invariant_of-self c =
    let self = c.args.self.now in let value = c.args.value in let a = self.keys.held in let b = value.keys.held in
    record {
      each = ap are_of_blocks c.join.ensures.2 ∙ blocks_append a b self.each (value_blocks value);
      linked =
          ap are_linked c.join.ensures.2 ∙ append_linked a b self.linked (value_linked value) c.requires.leads;
    }
