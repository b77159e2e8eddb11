use Rattle.writable_law.proofs.CalmTimelines.{stands_again}
use Rattle.flat_law.proofs.WindowedTimelines.{windowed_is, windowed_sound}
use Rattle.flat_law.proofs.written_laws.windowed_timelines_are_writable.Goals as goal

pub returns : goal.returns
returns c = record {
  writable = windowed_is;
  sound = windowed_sound;
  again = λ t r a b h is. stands_again r (windowed_is t r a b h is);
}
