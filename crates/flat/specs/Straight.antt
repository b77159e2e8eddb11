-- Timelines without their transitions.
use Rattle.std.specs.Prelude.{◌≡◌, ℤ, pos, not, ◌&&◌, cond, List, map, filter, Option, Some, None}
use Rattle.std.specs.Str.{bytes_eq}
use Rattle.otio_model.specs.declared.compositions.ItemOf.{ItemOf}
use Rattle.otio_model.specs.declared.compositions.ItemOf.TheVariants.{Clip, Gap, Transition, Stack, Track}
use Rattle.otio_model.specs.declared.compositions.Listed.{Listed, fold-Listed}
use Rattle.otio_model.specs.declared.compositions.Listed.TheOpen.{Listed-F}
use Rattle.otio_model.specs.declared.timelines.Timeline.{Timeline}
use Rattle.otio_model.specs.Trees.{listed, items_of}
use Rattle.otio_model.specs.Timelines.{bare}
use Rattle.otio_model.specs.Lengths.{length_by}
use Rattle.coord.specs.Looks.{Show, Blank, FrameRate, item_shows, total}
use Rattle.otio_model.specs.Overlaps.{within}
use Rattle.coord.specs.Speeds.{speed_of, media_at}
use Rattle.coord.specs.Sights.{viewer, View, Sight, seen, shows_inside, overlap_of, lengths_seen}
use Rattle.otio_model.specs.Lengths.{or_zero, trimmed_start}
use Rattle.otio_model.specs.Trees.{is_transition}
use Rattle.coord.specs.Programs.{kind_of}

abbrev pub without : List (ItemOf Listed) → List (ItemOf Listed)
without l = filter (λ x. not (is_transition x)) l

-- a track has its children without transitions
abbrev pub straight_item : ItemOf Listed → ItemOf Listed
straight_item (Clip c) = Clip c
straight_item (Gap g) = Gap g
straight_item (Transition t) = Transition t
straight_item (Stack s) = Stack s
straight_item (Track t) = Track (record t { children = listed (without (items_of t.children)) })

abbrev pub straight_step : Listed-F Listed → Listed
straight_step l = listed (map straight_item l.list)

-- the same below all items, at all levels
abbrev pub straight : Listed → Listed
straight = fold-Listed Listed straight_step

-- the timeline with no transition in any track
abbrev pub IsStraight : Timeline → Timeline → Type 0
IsStraight t r =
    bare r ≡ bare (record t {
      tracks = record t.tracks { children = straight t.tracks.children };
    })

-- ---- what is shown where no list heeds its transitions: what the item that holds an instant shows

abbrev pub still_inside : {C : Type 0} → (C → List Sight) → ItemOf C → View → ℤ → Show
still_inside f (Clip c) v m = shows_inside f (Clip c) v m
still_inside f (Gap g) v m = Blank
still_inside f (Transition t) v m = Blank
still_inside f (Stack s) v m = shows_inside f (Stack s) v m
still_inside f (Track t) v m = cond (t.enabled && bytes_eq t.kind v.kind)
    (cond (within (pos 0) (total (map (seen v) (f t.children))) m)
    (item_shows (map (seen v) (f t.children)) m) Blank) Blank

abbrev pub still_by : {C : Type 0} → (C → List Sight) → ItemOf C → Sight
still_by f x = record {
  length = length_by (λ c. lengths_seen (f c)) x;
  shows = λ v u. still_inside f x v (media_at (trimmed_start x) (speed_of x) u);
  overlap = overlap_of x;
}

abbrev pub still_step : Listed-F (List Sight) → List Sight
still_step l = map (still_by (λ x. x)) l.list

abbrev pub still_sights : Listed → List Sight
still_sights = fold-Listed (List Sight) still_step

abbrev pub still : ItemOf Listed → Sight
still = still_by still_sights

abbrev pub still_shows : (FrameRate → FrameRate) → Option (ItemOf Listed) → ℤ → Show
still_shows rate_kept None u = Blank
still_shows rate_kept (Some x) u =
    cond (within (pos 0) (pos (or_zero (still x).length)) u)
    ((still x).shows (viewer rate_kept (kind_of x)) u) Blank
