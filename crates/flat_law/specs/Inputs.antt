-- Timelines that are written so that they are read again.
use Rattle.std.specs.Prelude.{List, [], ◌∷◌}
use Rattle.otio_model.specs.declared.timelines.Timeline.{Timeline}
use Rattle.object_law.specs.Writable.{IsTimeline}

abbrev pub AreTimelines : List Timeline → Type 0
AreTimelines [] = Unit {0}
AreTimelines (t ∷ more) = IsTimeline t × AreTimelines more
