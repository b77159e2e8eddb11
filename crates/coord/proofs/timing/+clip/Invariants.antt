-- What ends the cycle.
use Rattle.std.proofs.Common.{◌*◌, ◌+◌}
use Rattle.otio_model.specs.Counts.{count, count_of}
use Rattle.coord.proofs.timing.+clip.Given as goal

abbrev pub decreases-clip_in : goal.decreases-clip_in
decreases-clip_in a = 2 * count_of a.item.now

abbrev pub decreases-first_clip : goal.decreases-first_clip
decreases-first_clip a = 2 * count a.children.now + 1
