-- How many record frames a pull list is made from.
use Rattle.std.specs.Prelude.{ℕ, ◌+◌, ◌<◌, List, [], ◌∷◌}
use Rattle.std.specs.Int.{div_ceil}
use Rattle.std.specs.declared.option.Option.{Option}
use Rattle.otio_model.specs.declared.timelines.Timeline.{Timeline}
use Rattle.otio_model.specs.Lengths.{lengths, or_zero}
use Rattle.coord.specs.Programs.{record_rate, frame_ticks}

-- how many frames of so many ticks these lengths take together, each length rounded up to whole
-- frames
abbrev pub frames_in : ℕ → List (Option ℕ) → ℕ
frames_in ticks [] = 0
frames_in ticks (n ∷ ns) = div_ceil (or_zero n) ticks + frames_in ticks ns

-- the record frames of the root children together
abbrev pub record_frames : Timeline → ℕ
record_frames t = frames_in (frame_ticks (record_rate t)) (lengths t.tracks.children)

-- there are more of them than a pull list is made from
abbrev pub HasTooMany : Timeline → Type 0
HasTooMany t = 10000000 < record_frames t
