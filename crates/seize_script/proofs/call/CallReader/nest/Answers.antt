use Rattle.seize.proofs.Contents.{made_belongs}
use Rattle.seize_script.specs.Values.{owners_of}
use Rattle.seize_script.specs.declared.value.Value.{Value}
use Rattle.seize_script.specs.declared.value.Value.TheOpen.{Value-F}
use Rattle.seize_script.specs.declared.value.Value.TheViews.{roll-Value}
use Rattle.seize_script.proofs.Owners.{holds_only}
use Rattle.seize_script.proofs.call.CallReader.nest.Goals as goal

pub returns-in-Ok-clause-own : goal.returns-in-Ok-clause-own
returns-in-Ok-clause-own c =
    let store = c.args.self.now.alone.book.store in let made : Value-F Value = record { name = c.args.name; inside = c.args.inside } in
    made_belongs owners_of store c.in-Ok.block (roll-Value made) c.in-Ok.ensures.made.0 c.in-Ok.ensures.made.1
    (holds_only made store c.requires)
