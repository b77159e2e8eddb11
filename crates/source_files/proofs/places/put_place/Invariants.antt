use Rattle.std.proofs.Common.{drop}
use Rattle.dev_io.specs.Buffer.{standing}
use Rattle.dev_io.proofs.Leaving.{Leaves}
use Rattle.source_files.specs.Places.{more_indexes, place_text}
use Rattle.source_files.proofs.places.put_place.Given as goal

-- handing over the indexes that are left ends the place
abbrev pub invariant-loop-at : goal.invariant-loop-at
invariant-loop-at g l =
    let stand = standing g.W.Out.known g.W.Out.faults in
    Leaves (stand l.fn.out l.fn.buffer) (stand l.out l.buffer) (place_text l.place)
    (more_indexes (drop l.at l.place))
