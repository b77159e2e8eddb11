-- The tracks so far, before those that are left, are all; and what is still there is as it was.
use Rattle.std.proofs.Common.{◌≡◌, ◌++◌, List, map, vec_len}
use Rattle.std.specs.Prelude.{reverse}
use Rattle.otio_model.specs.declared.timelines.Timeline.{Timeline}
use Rattle.flat_stack.specs.Portions.{AreRoots, planned_track}
use Rattle.flat_stack.proofs.joined_tracks.joined_tracks.Given as goal

abbrev pub invariant-left : goal.invariant-left
invariant-left l = record {
  made : (inputs : List Timeline) → AreRoots l.fn.inputs.items inputs
      → l.all.items ++ map (planned_track inputs) (reverse l.left.items)
      ≡ map (planned_track inputs) l.fn.plans.items;
  left : (inputs : List Timeline) → AreRoots l.fn.inputs.items inputs
      → AreRoots l.inputs.items inputs;
}

abbrev pub decreases-left : goal.decreases-left
decreases-left l = vec_len l.left
