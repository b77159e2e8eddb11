use Rattle.pieces.proofs.Grown.{short_value, short_small}
use Rattle.pieces.proofs.item_lengths.short_ticks.Goals as goal

pub returns-clause-value : goal.returns-clause-value
returns-clause-value c = short_value c.args.item.now c.known_ticks.result c.known_ticks.ensures

pub returns-clause-small : goal.returns-clause-small
returns-clause-small c = short_small c.args.item.now c.known_ticks.result c.known_ticks.ensures c.requires.short
