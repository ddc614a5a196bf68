use Rattle.std.proofs.Common.{sym, ◌∙◌, ap, not, ◌&&◌, heap_items}
use Rattle.std.proofs.lemmas.Bool.{lt-ltb, le-ltb}
use Rattle.std.specs.FinSet as set
use Rattle.seize_table.specs.Free.{is_in_heap}
use Rattle.seize_table.proofs.FreeNumbers.{contains-in_use, unused_above}
use Rattle.seize_table.proofs.thread_id.Numbers.has.Goals as goal

pub returns-then-number-self : goal.returns-then-number-self
returns-then-number-self c =
    ap not (c.contains.ensures.value ∙ ap (λ free. is_in_heap free c.args.number) c.as_slice.ensures.value)
    ∙ ap (λ b. b && not (is_in_heap (heap_items c.self.inside.free) c.args.number)) (sym (lt-ltb c.args.number c.self.inside.made c.if-number-self.true))
    ∙ sym (contains-in_use c.self.inside.made (heap_items c.self.inside.free) c.args.number) ∙ ap (λ s. set.contains s c.args.number) c.self.view_is

pub returns-else-number-self : goal.returns-else-number-self
returns-else-number-self c =
    le-ltb c.args.number c.self.inside.made c.if-number-self.false ∙ sym (unused_above c.self.inside.made (heap_items c.self.inside.free) c.args.number c.if-number-self.false) ∙ ap (λ s. set.contains s c.args.number) c.self.view_is
