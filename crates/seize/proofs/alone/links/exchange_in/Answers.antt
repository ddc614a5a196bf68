use Rattle.std.proofs.Common.{◌∙◌}
use Rattle.seize_words.specs.LinkWords.{held_before, value_held}
use Rattle.seize.proofs.Linked.{alone_swaps, came_out}
use Rattle.seize.proofs.alone.links.exchange_in.Goals as goal

pub returns-clause-makes : goal.returns-clause-makes
returns-clause-makes g c =
    let unit = c.args.unit.now in let swaps = c.swap_link-old.ensures.swaps in let t = swaps.2 in let key = c.name-new.result.1 in let key' = c.swap_link-old.new.value in
    let makes = alone_swaps unit.seen.name unit.number unit.unit unit.seen unit.its c.args.link swaps.0 swaps.1.1 c.args.pass.now c.learn.new.self c.requires.pass.1 c.learn.ensures key c.no_pairs-permit.new.self key' c.swap_link-old.new.pass
    c.swap_link-old.result (c.no_pairs-permit.ensures.0 ∙ c.name-new.ensures.pass) t in
    let out = came_out c.args.words.now swaps.0 unit.unit key c.no_pairs-permit.new.self key' c.swap_link-old.new.pass c.swap_link-old.result t c.of.result c.name-new.ensures.new.0 c.of.ensures.some c.of.ensures.none in
    (value_held key, held_before t.0, makes, c.name-new.ensures.named, out.0)

pub returns-clause-loose : goal.returns-clause-loose
returns-clause-loose g c =
    let swaps = c.swap_link-old.ensures.swaps in
    (came_out c.args.words.now swaps.0 c.args.unit.now.unit c.name-new.result.1 c.no_pairs-permit.new.self c.swap_link-old.new.value c.swap_link-old.new.pass c.swap_link-old.result swaps.2 c.of.result c.name-new.ensures.new.0 c.of.ensures.some c.of.ensures.none).1
