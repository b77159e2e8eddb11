-- How the record frames of a timeline are counted.
use Rattle.std.specs.Prelude.{◌≡◌, pos, ◌≤ℤ◌}
use Rattle.otio_model.specs.declared.timelines.Timeline.{Timeline}
use Rattle.coord.specs.Programs.{record_rate, start_frame, frame_ticks}
use Rattle.show_prog.specs.declared.shows.Clock.{Clock}

-- the clock has the timeline's first record frame, and the ticks of a frame at its record rate
pub record IsClockOf (t : Timeline) (c : Clock) : Type 0 where
  pub start : c.start ≡ start_frame t
  pub ticks : c.ticks ≡ pos (frame_ticks (record_rate t))
  pub some : pos 1 ≤ℤ c.ticks
