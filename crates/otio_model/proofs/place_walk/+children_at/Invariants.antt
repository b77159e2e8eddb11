-- The indexes that are left.
use Rattle.std.proofs.Common.{length}
use Rattle.otio_model.proofs.place_walk.+children_at.Given as goal

abbrev pub decreases-children_at : goal.decreases-children_at
decreases-children_at a = length a.place.now
