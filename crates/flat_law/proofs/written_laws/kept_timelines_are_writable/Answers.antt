use Rattle.writable_law.proofs.CalmTimelines.{stands_again}
use Rattle.flat_law.proofs.OtherTimelines.{kept_is, kept_sound}
use Rattle.flat_law.proofs.written_laws.kept_timelines_are_writable.Goals as goal

pub returns : goal.returns
returns c = record {
  writable = kept_is;
  sound = kept_sound;
  again = λ t r keeps h is. stands_again r (kept_is t r keeps h is);
}
