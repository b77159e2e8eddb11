-- What has moved, before what is left, is all; and what is still there is as it was.
use Rattle.std.proofs.Common.{◌≡◌, ◌++◌, List, vec_len}
use Rattle.std.specs.Prelude.{reverse}
use Rattle.otio_model.specs.declared.timelines.Timeline.{Timeline}
use Rattle.flat_stack.specs.Portions.{AreRoots, portions_items}
use Rattle.flat_stack.proofs.joined_tracks.move_portions.Given as goal

abbrev pub invariant-left : goal.invariant-left
invariant-left l = record {
  moved : (inputs : List Timeline) → AreRoots l.fn.inputs.items inputs
      → l.all.items ++ portions_items inputs (reverse l.left.items)
      ≡ portions_items inputs l.fn.portions.items;
  left : (inputs : List Timeline) → AreRoots l.fn.inputs.items inputs
      → AreRoots l.inputs.items inputs;
}

abbrev pub decreases-left : goal.decreases-left
decreases-left l = vec_len l.left
