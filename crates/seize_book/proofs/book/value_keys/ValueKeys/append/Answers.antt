use Rattle.std.proofs.Common.{sym, ap, ◌∙◌}
use Rattle.seize_book.specs.Linked.{are_linked}
use Rattle.seize_book.specs.Private.{are_of_blocks}
use Rattle.seize_book.proofs.Linked.{append_linked}
use Rattle.seize_book.proofs.Values.{blocks_append, labels_append}
use Rattle.seize_book.specs.Private.{labels_of}
use Rattle.seize_book.proofs.book.value_keys.ValueKeys.append.Goals as goal

pub invariant_of-self : goal.invariant_of-self
invariant_of-self c =
    let self = c.args.self.now in let other = c.args.other.now in let a = self.keys.held in let b = other.keys.held in
    record {
      each = ap are_of_blocks c.join.ensures.2 ∙ blocks_append a b self.each other.each;
      linked =
          ap are_linked c.join.ensures.2 ∙ append_linked a b self.linked other.linked c.requires.leads;
    }

pub invariant_of-other : goal.invariant_of-other
invariant_of-other c =
    record {
      each = ap are_of_blocks c.join.ensures.3;
      linked = ap are_linked c.join.ensures.3;
    }

pub returns : goal.returns
returns c =
    let a = c.args.self.now.keys.held in let b = c.args.other.now.keys.held in
    (c.join.ensures.0, ap labels_of c.join.ensures.2 ∙ labels_append a b, c.join.ensures.2, c.join.ensures.1 ∙ sym c.requires.book, c.join.ensures.3)
