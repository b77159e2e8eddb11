-- The tracks so far, and those of the other seats, are all.
use Rattle.std.proofs.Common.{drop, map}
use Rattle.flat_stack.specs.Inputs.{inputs_of, slots_of}
use Rattle.flat_stack.specs.Portions.{planned_track}
use Rattle.flat_stack.proofs.JoinedTracks.{AreTracks}
use Rattle.flat_stack.proofs.planned_tracks.planned_tracks.Given as goal

abbrev pub invariant-seats : goal.invariant-seats
invariant-seats l =
    AreTracks l.rate l.givers.parts.now (slots_of l.seats)
    (map (planned_track (inputs_of l.givers.parts.now)) l.all.items) (slots_of (drop l.index l.seats))
