use Rattle.std.proofs.Common.{FitsSigned, rules}
use Rattle.std.proofs.lemmas.Int.{to_z-of_z}
use mir.Syntax.{w128}
use Rattle.tick_time.proofs.Holdings.{holds_then, holds_else}
use Rattle.tick_time.proofs.spans.Span.holds.Goals as goal

pub returns-then-self-ticks : goal.returns-then-self-ticks
returns-then-self-ticks c =
    let start : FitsSigned w128 c.args.self.now.start.ticks = search rules in
    let ticks : FitsSigned w128 c.args.ticks = c.ranges.ticks in
    let stop : FitsSigned w128 c.end_ticks.result = search rules in
    simp to_z-of_z (holds_then c.args.self.now.start.ticks c.args.self.now.len.ticks c.args.ticks
    c.end_ticks.result c.end_ticks.ensures (simp to_z-of_z at c.if-self-ticks.true))

pub returns-else-self-ticks : goal.returns-else-self-ticks
returns-else-self-ticks c =
    let start : FitsSigned w128 c.args.self.now.start.ticks = search rules in
    let ticks : FitsSigned w128 c.args.ticks = c.ranges.ticks in
    simp to_z-of_z (holds_else c.args.self.now.start.ticks c.args.self.now.len.ticks c.args.ticks
    (simp to_z-of_z at c.if-self-ticks.false))
