-- Timelines with which something can be done.
use Rattle.std.specs.Prelude.{◌<◌, ◌^◌}
use Rattle.otio_model.specs.declared.timelines.Timeline.{Timeline}
use Rattle.otio_model.specs.Counts.{count}
use Rattle.coord.specs.Soundness.{IsSound}
use Rattle.object_law.specs.Writable.{IsTimeline}

-- the timeline is sound, is written so that it is read again, and has fewer than 2^32 items
pub record IsReady (t : Timeline) : Type 0 where
  pub sound : IsSound t
  pub written : IsTimeline t
  pub few : count t.tracks.children < 2 ^ 32
