-- The frames of the children so far, with those of the children that are left.
use Rattle.std.proofs.Common.{◌≡◌, ◌+◌}
use Rattle.otio_model.specs.Lengths.{lengths}
use Rattle.pull_list.specs.Record.{frames_in}
use Rattle.pull_list.proofs.Recording.{frames_from}
use Rattle.pull_list.proofs.record.frame_count.Given as goal

abbrev pub invariant-children : goal.invariant-children
invariant-children l = l.sum + frames_from l.ticks l.timeline.tracks.children l.index
    ≡ frames_in l.ticks (lengths l.timeline.tracks.children)
