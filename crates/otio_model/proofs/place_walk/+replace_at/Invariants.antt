use Rattle.std.proofs.Common.{length}
use Rattle.otio_model.proofs.place_walk.+replace_at.Given as goal

abbrev pub decreases-replace_at : goal.decreases-replace_at
decreases-replace_at a = length a.place.now
