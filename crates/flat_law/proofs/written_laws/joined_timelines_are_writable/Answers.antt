use Rattle.writable_law.proofs.CalmTimelines.{stands_again}
use Rattle.writable_law.proofs.CalmTimelines.{timeline_calm}
use Rattle.flat_law.proofs.JoinedTimelines.{joined_is}
use Rattle.flat_law.proofs.written_laws.joined_timelines_are_writable.Goals as goal

pub returns : goal.returns
returns c = record {
  writable = joined_is;
  calm = λ inputs r h is. timeline_calm r (joined_is inputs r h is);
  again = λ inputs r h is. stands_again r (joined_is inputs r h is);
}
