use Rattle.writable_law.proofs.CalmTimelines.{stands_again}
use Rattle.flat_law.proofs.StraightTimelines.{straight_is, straightened_sound}
use Rattle.flat_law.proofs.written_laws.straight_timelines_are_writable.Goals as goal

pub returns : goal.returns
returns c = record {
  writable = straight_is;
  sound = straightened_sound;
  again = λ t r h is. stands_again r (straight_is t r h is);
}
