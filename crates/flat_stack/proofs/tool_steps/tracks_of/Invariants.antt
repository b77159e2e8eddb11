-- The tracks of the kind among the children so far.
use Rattle.std.proofs.Common.{◌≡◌, take}
use Rattle.std.specs.Prelude.{filter}
use Rattle.otio_model.specs.Trees.{items_of}
use Rattle.flat.specs.Roots.{is_of}
use Rattle.flat_stack.proofs.tool_steps.tracks_of.Given as goal

abbrev pub invariant-children : goal.invariant-children
invariant-children l =
    l.tracks.items ≡ filter (is_of l.kind) (take l.index (items_of l.children))
