use Rattle.tick_time.proofs.Halves.{zero_nearest}
use Rattle.tick_time.proofs.rounding.lowered_size.Goals as goal

pub returns-then-shift-gt38 : goal.returns-then-shift-gt38
returns-then-shift-gt38 c = zero_nearest c.args.digits c.args.shift c.requires c.if-shift-gt38.true
