-- One reading and one label.
use Rattle.smpte_tc.proofs.WrittenLabels.{one_reading_at, one_writing_at}
use Rattle.smpte_tc.proofs.laws.one_answer.Goals as goal

pub returns : goal.returns
returns c = record { reading = one_reading_at; writing = one_writing_at }
