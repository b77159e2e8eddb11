-- Sums of the source frame numbers that a timeline shows.
use Rattle.std.specs.Prelude.{◌≡◌, ◌⊎◌, ◌<◌, ◌+◌, ℕ, zero, suc, ℤ, pos, ◌+ℤ◌, Bool, true, false, FitsSigned}
use Rattle.std.specs.Int.{w128, div_ceil}
use Rattle.otio_model.specs.declared.timelines.Timeline.{Timeline}
use Rattle.coord.specs.Programs.{program, record_rate, start_frame, frame_ticks}
use Rattle.coord.specs.Images.{Image, Empty, Single, Mixture, image, is_mix}
use Rattle.edl_list.specs.declared.list.Channel.TheVariants.{V}
use Rattle.edl_frames.specs.Channels.{on}
use Rattle.drill.specs.Frames.{track_ticks}

-- the number of a frame that is seen, 0 where nothing is; of a mix those of both sides
abbrev pub numbers_of : Image → ℤ
numbers_of Empty = pos 0
numbers_of (Single key number) = number
numbers_of (Mixture kind from to weight) = numbers_of from +ℤ numbers_of to

-- the numbers that are seen at so many record frames from one on, added up
abbrev pub sum_shown : (ℤ → Image) → ℤ → ℕ → ℤ
sum_shown shows first zero = pos 0
sum_shown shows first (suc i) =
    sum_shown shows first i +ℤ numbers_of (shows (first +ℤ pos i))

-- those that are seen of the root child k
abbrev pub child_sum : Timeline → ℕ → ℤ → ℕ → ℤ
child_sum t k first n = sum_shown (λ (frame : ℤ). image (program t k frame)) first n

-- those that are seen on a list's channel for pictures
abbrev pub channel_sum : Timeline → ℤ → ℕ → ℤ
channel_sum t first n = sum_shown (on t V) first n

-- ---- why a sum isn't made

-- whether two are mixed
abbrev pub is_mixture : Image → Bool
is_mixture Empty = false
is_mixture (Single key number) = false
is_mixture (Mixture kind from to weight) = true

-- the number isn't one of 128 bits, its sign among them
abbrev pub IsWide : ℤ → Type 0
IsWide n = FitsSigned w128 n → ⊥

-- a mix is shown of the root child k at one of so many record frames from one on
pub record SeesMix (t : Timeline) (k : ℕ) (first : ℤ) (n : ℕ) : Type 0 where
  pub after : ℕ
  pub within : after < n
  pub mix : is_mix (program t k (first +ℤ pos after)) ≡ true

-- one of so many record frames from one on has a number of more than 128 bits, or the numbers that
-- are seen up to it add up to one
pub record LeavesRange (shows : ℤ → Image) (first : ℤ) (n : ℕ) : Type 0 where
  pub after : ℕ
  pub within : after < n
  pub wide : IsWide (first +ℤ pos after) ⊎ IsWide (sum_shown shows first (after + 1))

-- why the numbers that are seen of the root child k aren't added up: a mix takes memory, or a
-- number has more than 128 bits
abbrev pub StopsChild : Timeline → ℕ → ℤ → ℕ → Type 0
StopsChild t k first n =
    SeesMix t k first n ⊎ LeavesRange (λ (frame : ℤ). image (program t k frame)) first n

-- why those that are seen on a list's channel for pictures aren't
abbrev pub StopsChannel : Timeline → ℤ → ℕ → Type 0
StopsChannel t first n = ((k : ℕ) × SeesMix t k first n) ⊎ LeavesRange (on t V) first n

-- how many record frames the first root child takes, the last one whole
abbrev pub frames_of : Timeline → ℕ
frames_of t = div_ceil (track_ticks t) (frame_ticks (record_rate t))

-- those that are seen of the first root child at its own record frames
abbrev pub back_sum : Timeline → ℤ
back_sum t = child_sum t 0 (start_frame t) (frames_of t)
