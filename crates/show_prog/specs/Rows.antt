-- Which record frames of a timeline are listed, and the lines that list them.
use Rattle.std.specs.Prelude.{◌≡◌, ◌<◌, ℕ, ℤ, pos, ◌+ℤ◌, ◌-ℤ◌, int_le, nat_lt, min, unsigned_abs, cond}
use Rattle.std.specs.Prelude.{Contains, List, [], ◌∷◌, ◌++◌, Option, Some, None, codes, decimal, length}
use Rattle.std.specs.Prelude.{option_map, true, unwrap_or}
use Rattle.std.specs.Int.{div_ceil}
use Rattle.std.specs.List.{flat_map, range_with_len}
use Rattle.std.specs.Fmt.{signed_decimal}
use Rattle.smpte_tc.specs.PointFrames.{point_frame_at}
use Rattle.smpte_tc.specs.declared.points.RecordPoint.{RecordPoint}
use Rattle.otio_model.specs.declared.timelines.Timeline.{Timeline}
use Rattle.otio_model.specs.Lengths.{lengths}
use Rattle.otio_model.specs.Sums.{greatest}
use Rattle.otio_model.specs.Trees.{items_of}
use Rattle.coord.specs.Programs.{program, record_rate, start_frame, frame_ticks}
use Rattle.coord.specs.Images.{image, is_mix}
use Rattle.show_prog.specs.Texts.{image_text}
use Rattle.show_prog.specs.declared.frame_range.Listing.{Listing}

-- how long the longest root child is, in ticks
abbrev pub longest : Timeline → ℕ
longest t = greatest (lengths t.tracks.children)

-- how many record frames the longest root child takes, rounded up to whole ones
abbrev pub whole_frames : Timeline → ℕ
whole_frames t = div_ceil (longest t) (frame_ticks (record_rate t))

-- the record frame after the last one that the longest root child reaches
abbrev pub end_frame : Timeline → ℤ
end_frame t = start_frame t +ℤ pos (whole_frames t)

-- how many frames there are from one up to, not including, another
abbrev pub frames_between : ℤ → ℤ → ℕ
frames_between from end = cond (int_le end from) 0 (unsigned_abs (end -ℤ from))

-- so many frames are listed at most where no count is given
abbrev pub most_listed : ℕ
most_listed = 100000

-- how many frames are listed from one on where no count is given
abbrev pub frames_left : Timeline → ℤ → ℕ
frames_left t from = min most_listed (frames_between from (end_frame t))

-- the first frame that is listed: that of a point at the record rate, none where it is a label that
-- is none at that rate; else the first of the timeline
abbrev pub first_frame : Timeline → Option RecordPoint → Option ℤ
first_frame t None = Some (start_frame t)
first_frame t (Some point) = point_frame_at (record_rate t).num (record_rate t).den point

-- what is listed from a frame on
abbrev pub listing_from : Timeline → Option ℕ → Option ℕ → ℤ → Listing
listing_from t child count from =
    record { child = child; from = from; count = unwrap_or count (frames_left t from) }

-- what is listed for a child, a start and a count, each of which may be left out; none where the
-- start is no record frame
abbrev pub listing_of : Timeline → Option ℕ → Option RecordPoint → Option ℕ → Option Listing
listing_of t child start count = option_map (listing_from t child count) (first_frame t start)

-- the indexes of the root children that are listed, of so many: the one that is asked for where it
-- exists, else all
abbrev pub children_listed : Option ℕ → ℕ → List ℕ
children_listed None count = range_with_len 0 count
children_listed (Some k) count = cond (nat_lt k count) (k ∷ []) []

-- the line of what a root child shows at a record frame: the frame, the child's index and what is
-- seen
abbrev pub line : Timeline → ℤ → ℕ → List ℕ
line t n k = signed_decimal n ++ (codes " "
    ++ (decimal k ++ (codes " " ++ (image_text (image (program t k n)) ++ codes "\n"))))

-- the lines of these children at a record frame
abbrev pub lines_at : Timeline → List ℕ → ℤ → List ℕ
lines_at t ks n = flat_map (line t n) ks

-- the lines of these children at so many record frames from one on, frame by frame
abbrev pub rows : Timeline → List ℕ → ℤ → ℕ → List ℕ
rows t ks from count = flat_map (λ (i : ℕ). lines_at t ks (from +ℤ pos i)) (range_with_len 0 count)

-- one of these children shows a mix at a record frame
pub record ShowsMix (t : Timeline) (ks : List ℕ) (n : ℤ) : Type 0 where
  pub child : ℕ
  pub listed : Contains ks child
  pub mix : is_mix (program t child n) ≡ true

-- the same at one of so many record frames from one on
pub record RowsMix (t : Timeline) (ks : List ℕ) (from : ℤ) (count : ℕ) : Type 0 where
  pub after : ℕ
  pub within : after < count
  pub shows : ShowsMix t ks (from +ℤ pos after)

-- a row that is listed shows a mix
abbrev pub ListsMix : Timeline → Listing → Type 0
ListsMix t l =
    RowsMix t (children_listed l.child (length (items_of t.tracks.children))) l.from l.count

-- the lines of all that is listed
abbrev pub listing_text : Timeline → Listing → List ℕ
listing_text t l =
    rows t (children_listed l.child (length (items_of t.tracks.children))) l.from l.count
