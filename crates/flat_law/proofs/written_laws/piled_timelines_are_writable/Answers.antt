use Rattle.writable_law.proofs.CalmTimelines.{stands_again}
use Rattle.flat_law.proofs.OtherTimelines.{piled_is, piled_sound}
use Rattle.flat_law.proofs.written_laws.piled_timelines_are_writable.Goals as goal

pub returns : goal.returns
returns c = record {
  writable = piled_is;
  sound = piled_sound;
  again = λ t r more h k is. stands_again r (piled_is t r more h k is);
}
