-- The lines of the children that are left end the listing.
use Rattle.std.proofs.Common.{drop}
use Rattle.dev_io.specs.Buffer.{standing}
use Rattle.dev_io.proofs.Leaving.{Leaves}
use Rattle.otio_model.specs.Trees.{items_of}
use Rattle.show_prog.specs.ListingTexts.{track_lines}
use Rattle.show_prog.proofs.tracks.put_tracks.Given as goal

abbrev pub invariant-children : goal.invariant-children
invariant-children g l =
    let stand = standing g.W.Out.known g.W.Out.faults in
    Leaves (stand l.fn.out l.fn.buffer) (stand l.out l.buffer)
    (track_lines 0 (items_of l.children)) (track_lines l.index (drop l.index (items_of l.children)))
