-- The clips of the children that are left end the lines.
use Rattle.std.proofs.Common.{◌*◌, ◌+◌, drop}
use Rattle.dev_io.specs.Buffer.{standing}
use Rattle.dev_io.proofs.Leaving.{Leaves}
use Rattle.otio_model.specs.Counts.{count, count_of}
use Rattle.otio_model.specs.Trees.{items_of}
use Rattle.show_prog.specs.Places.{place_of}
use Rattle.show_prog.specs.Spots.{spots, spots_from}
use Rattle.show_prog.specs.ListingTexts.{spot_lines}
use Rattle.show_prog.proofs.clip_rows.+clips.Given as goal

abbrev pub invariant-put_clips-children : goal.invariant-put_clips-children
invariant-put_clips-children g l =
    let stand = standing g.W.Out.known g.W.Out.faults in
    Leaves (stand l.fn.out l.fn.buffer) (stand l.out l.buffer)
    (spot_lines l.told (place_of l.way) (spots l.children))
    (spot_lines l.told (place_of l.way) (spots_from spots l.index (drop l.index (items_of l.children))))

abbrev pub decreases-put_item : goal.decreases-put_item
decreases-put_item g a = 2 * count_of a.item.now

abbrev pub decreases-put_clips : goal.decreases-put_clips
decreases-put_clips g a = 2 * count a.children.now + 1
