-- How long the one track of a drill is.
use Rattle.std.specs.Prelude.{ℕ, ◌/◌, Option, Some, None, slice_get}
use Rattle.otio_model.specs.declared.compositions.ItemOf.{ItemOf}
use Rattle.otio_model.specs.declared.compositions.Listed.{Listed}
use Rattle.otio_model.specs.declared.timelines.Timeline.{Timeline}
use Rattle.otio_model.specs.Lengths.{length_of, or_zero}
use Rattle.otio_model.specs.Trees.{items_of}
use Rattle.coord.specs.Programs.{frame_ticks, record_rate}

-- the length of an item in ticks, 0 where there is none
abbrev pub ticks_of : Option (ItemOf Listed) → ℕ
ticks_of None = 0
ticks_of (Some x) = or_zero (length_of x)

-- how long the first root child is, in ticks
abbrev pub track_ticks : Timeline → ℕ
track_ticks t = ticks_of (slice_get (items_of t.tracks.children) 0)

-- how long it is, in whole record frames
abbrev pub track_frames : Timeline → ℕ
track_frames t = track_ticks t / frame_ticks (record_rate t)
