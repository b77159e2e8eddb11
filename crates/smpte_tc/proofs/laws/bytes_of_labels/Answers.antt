-- The bytes of labels.
use Rattle.smpte_tc.proofs.Labels.{bytes_eleven, bytes_plain}
use Rattle.smpte_tc.proofs.laws.bytes_of_labels.Goals as goal

pub returns : goal.returns
returns c = record { eleven = bytes_eleven; plain = bytes_plain }
