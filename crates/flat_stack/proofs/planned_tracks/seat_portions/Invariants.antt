-- What the inputs so far give, and what the others give, is all.
use Rattle.std.proofs.Common.{◌-◌, length}
use Rattle.flat_stack.specs.Inputs.{inputs_of, slot_of}
use Rattle.flat_stack.specs.Portions.{portions_items}
use Rattle.flat_stack.proofs.JoinedTracks.{AreItems}
use Rattle.flat_stack.proofs.planned_tracks.seat_portions.Given as goal

abbrev pub invariant-parts : goal.invariant-parts
invariant-parts l =
    AreItems l.track.rate (slot_of l.track.seat) l.givers.parts.now
    (portions_items (inputs_of l.givers.parts.now) l.all.items) l.index

abbrev pub decreases-parts : goal.decreases-parts
decreases-parts l = length l.givers.parts.now - l.index
