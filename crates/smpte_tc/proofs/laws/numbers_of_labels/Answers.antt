-- The law of labels.
use Rattle.smpte_tc.proofs.Labels.{numbers_unique}
use Rattle.smpte_tc.proofs.laws.numbers_of_labels.Goals as goal

pub returns : goal.returns
returns c = numbers_unique
