use Rattle.tick_time.proofs.Halves.{raised_huge}
use Rattle.tick_time.proofs.rounding.raised_size.Goals as goal

pub returns-then-shift-gt24 : goal.returns-then-shift-gt24
returns-then-shift-gt24 c = raised_huge c.args.digits c.args.shift c.if-digits-eq0.false c.if-shift-gt24.true
