use Rattle.edits.proofs.RecordRates.{rate_is, frame_is}
use Rattle.edits.proofs.laws.record_rates_are_one.Goals as goal

pub returns : goal.returns
returns c = record { rate = rate_is; frame = frame_is }
