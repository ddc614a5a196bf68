use Rattle.seize_words.specs.LinkWords.{value_held}
use Rattle.seize_parts.proofs.Allowed.{pair_of_any}
use Rattle.seize_parts.proofs.ender.Ender.for_swap.Goals as goal

pub for_swap-requires : goal.for_swap-requires
for_swap-requires g c = record { pairs = c.requires.ender.2; rule = pair_of_any g.row.T.coded.code g.R.Puts.keeps c.args.link (value_held c.args.key.now) c.requires.rule }
