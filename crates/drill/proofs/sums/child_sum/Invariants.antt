-- The record frames so far are added up.
use Rattle.std.proofs.Common.{◌≡◌}
use Rattle.drill.specs.Sums.{child_sum}
use Rattle.drill.proofs.sums.child_sum.Given as goal

abbrev pub invariant-frames : goal.invariant-frames
invariant-frames l = l.total ≡ child_sum l.timeline l.child l.first l.index
