-- What was found shows the frames of the item.
use Rattle.otio_model.specs.Counts.{count_of}
use Rattle.pull_list.specs.Parts.{IsShowing}
use Rattle.pull_list.proofs.parts.showing_at.Given as goal

abbrev pub invariant-levels : goal.invariant-levels
invariant-levels l = IsShowing l.item l.kind l.ticks l.showing

abbrev pub decreases-levels : goal.decreases-levels
decreases-levels l = count_of l.showing.item.now
