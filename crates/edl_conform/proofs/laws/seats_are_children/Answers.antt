use Rattle.edl_conform.proofs.SeatLemmas.{reason_at, event_at}
use Rattle.edl_conform.proofs.laws.seats_are_children.Goals as goal

pub returns : goal.returns
returns c = record { reason = reason_at; event = event_at }
