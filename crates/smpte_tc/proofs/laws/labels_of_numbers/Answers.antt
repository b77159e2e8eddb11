-- The laws of numbers.
use Rattle.smpte_tc.proofs.Labels.{labels_there, labels_unique}
use Rattle.smpte_tc.proofs.laws.labels_of_numbers.Goals as goal

pub returns : goal.returns
returns c = record { there = labels_there; one = labels_unique }
