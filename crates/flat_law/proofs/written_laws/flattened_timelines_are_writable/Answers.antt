use Rattle.writable_law.proofs.CalmTimelines.{stands_again}
use Rattle.flat_law.proofs.FlattenedTimelines.{flattened_is, flattened_sound}
use Rattle.flat_law.proofs.written_laws.flattened_timelines_are_writable.Goals as goal

pub returns : goal.returns
returns c = record {
  writable = flattened_is;
  sound = flattened_sound;
  again = λ t r kind keep h is. stands_again r (flattened_is t r kind keep h is);
}
