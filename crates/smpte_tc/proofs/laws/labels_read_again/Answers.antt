-- What was written is read again.
use Rattle.smpte_tc.proofs.WrittenLabels.{read_as}
use Rattle.smpte_tc.proofs.laws.labels_read_again.Goals as goal

pub returns : goal.returns
returns c = read_as
