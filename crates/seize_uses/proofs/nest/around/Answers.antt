use Rattle.seize.specs.Collectors.{its_store, its_words}
use Rattle.seize.proofs.Contents.{made_belongs}
use Rattle.seize_uses.specs.Nests.{nest_owners}
use Rattle.seize_uses.specs.declared.nest.Nest.TheOpen.{Nest-F}
use Rattle.seize_uses.specs.declared.nest.Nest.{Nest}
use Rattle.seize_uses.specs.declared.nest.Nest.TheViews.{roll-Nest}
use Rattle.seize_uses.proofs.Owners.{holds_only}
use Rattle.seize_uses.proofs.nest.around.Goals as goal

pub returns-in-Ok : goal.returns-in-Ok
returns-in-Ok c =
    let store = its_store (its_words c.args.collector.now) in let made : Nest-F Nest = record { number = c.args.number; inside = c.args.inside } in
    made_belongs nest_owners store c.in-Ok.block (roll-Nest made) c.in-Ok.ensures.made.0 c.in-Ok.ensures.made.1 (holds_only made store c.requires)
