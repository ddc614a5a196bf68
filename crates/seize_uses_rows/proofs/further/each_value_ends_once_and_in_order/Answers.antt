use Rattle.std.proofs.Common.{[]}
use Rattle.std.proofs.lemmas.List.Elements.{All-nil, All-same}
use Rattle.seize.specs.Blocks.{Belongs}
use Rattle.seize.specs.Collectors.{its_store, its_words}
use Rattle.seize_uses.specs.Nests.{nest_owners}
use Rattle.seize_uses_rows.proofs.Pushed.{all_pushed}
use Rattle.seize_uses_rows.proofs.further.each_value_ends_once_and_in_order.Goals as goal

pub around-requires : goal.around-requires
around-requires g c =
    let P = Belongs nest_owners (its_store (its_words c.in_ok-collector.collector)) in let empty = c.new-inside.result.items in let one = c.push.new.self.items in
    all_pushed P one c.push-2.new.self.items c.in_ok-third.third
    (all_pushed P empty one c.in_ok-second.second (All-same P empty [] c.new-inside.ensures.items (All-nil P)) c.in_ok-second.ensures c.in_ok-push.ensures.items)
    c.in_ok-third.ensures c.in_ok-push-2.ensures.items
