-- What is left below an item.
use Rattle.otio_model.specs.Counts.{count_of}
use Rattle.edit_plans.proofs.descent.+down_from.Given as goal

abbrev pub decreases-down_from : goal.decreases-down_from
decreases-down_from a = count_of a.item.now
