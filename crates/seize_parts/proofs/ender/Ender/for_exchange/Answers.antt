use Rattle.seize_words.specs.LinkWords.{value_held}
use Rattle.seize_parts.proofs.Allowed.{pair_of_one}
use Rattle.seize_parts.proofs.ender.Ender.for_exchange.Goals as goal

pub for_exchange-requires : goal.for_exchange-requires
for_exchange-requires g c = record { pairs = c.requires.ender.2; rule = pair_of_one g.row.T.coded.code g.R.Puts.keeps c.args.link (value_held c.args.key.now) g.E.Expects.current c.requires.rule }
