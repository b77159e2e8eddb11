-- Measures: how deep collections stand in one another, then a rank for each function. Loop: what is left of the limit after the objects so far.
use Rattle.std.proofs.Common.{◌≡◌, ◌+◌, ◌*◌, take}
use Rattle.schema_tab.specs.Objects.{counts_of, object_depth, objects_depth}
use Rattle.schema_tab.proofs.counts.+objects.Given as goal

abbrev pub decreases-left_after : goal.decreases-left_after
decreases-left_after l = 2 * object_depth l.object.now

abbrev pub decreases-after_objects : goal.decreases-after_objects
decreases-after_objects l = 2 * objects_depth l.objects.now + 1

abbrev pub invariant-after_objects-loop-object : goal.invariant-after_objects-loop-object
invariant-after_objects-loop-object l = l.left + counts_of (take l.object-index l.objects) ≡ l.limit
