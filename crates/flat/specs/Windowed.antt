-- The part of a timeline from one record frame up to another.
use Rattle.std.specs.Prelude.{◌≡◌, ℕ, ℤ, pos, ◌-ℤ◌, ◌*ℤ◌, int_lt, int_le, Bool, false, ◌&&◌, cond, List, [], ◌∷◌, take, slice_get, Option, Some, None, option_map, option_and_then}
use Rattle.tick_time.specs.declared.rates.Rate.{Rate}
use Rattle.tick_time.specs.declared.times.Time.{Time}
use Rattle.otio_model.specs.declared.compositions.ItemOf.{ItemOf}
use Rattle.otio_model.specs.declared.compositions.ItemOf.TheVariants.{Clip, Gap, Transition, Stack, Track}
use Rattle.otio_model.specs.declared.compositions.Listed.{Listed}
use Rattle.otio_model.specs.declared.timelines.Timeline.{Timeline}
use Rattle.otio_model.specs.Trees.{listed}
use Rattle.otio_model.specs.Timelines.{bare}
use Rattle.coord.specs.Looks.{Show, Blank, FrameRate, list_shows}
use Rattle.otio_model.specs.Overlaps.{within}
use Rattle.coord.specs.Sights.{viewer, looks}
use Rattle.coord.specs.Programs.{kind_of, start_frame}
use Rattle.edits.specs.Children.{Child, Old, ticks, all_made, with_first}
use Rattle.edits.specs.Cuts.{left_piece, strip, back}
use Rattle.edits.specs.Edges.{added}
use Rattle.edits.specs.After.{rate_of, frame_of}
use Rattle.edits.specs.Finest.{in_range}
use Rattle.flat.specs.declared.faults.Cause.{Cause}
use Rattle.flat.specs.declared.faults.Cause.TheVariants as C
use Rattle.flat.specs.Roots.{is_plain, is_enabled, items_in, roots, with_roots}
use Rattle.flat.specs.Pieces.{cuts_at}

-- what starts before t, the last one cut there
abbrev pub front_alone : List (ItemOf Listed) → ℤ → List Child
front_alone [] t = []
front_alone (x ∷ l) t =
    cond (int_lt (pos 0) t)
    (cond (int_le (ticks x) t) (Old x ∷ front_alone l (t -ℤ ticks x)) (left_piece x t ∷ [])) []

-- without the transitions that meet either end
abbrev pub stripped : List (ItemOf Listed) → ℤ → ℤ → List (ItemOf Listed)
stripped l a b = strip (strip l a a) b b

-- a stripped list from a to b, in ticks; one that ends at a or before is empty
abbrev pub window_of : Rate → ℤ → ℤ → List (ItemOf Listed) → Option (List (ItemOf Listed))
window_of r a b s =
    cond (int_le (added s) a) (Some [])
    (option_and_then (λ m. all_made r (back m a)) (all_made r (front_alone s b)))

-- the item with these children; only a track has them
abbrev pub with_items : ItemOf Listed → List (ItemOf Listed) → ItemOf Listed
with_items (Clip c) l = Clip c
with_items (Gap g) l = Gap g
with_items (Transition t) l = Transition t
with_items (Stack s) l = Stack s
with_items (Track t) l = Track (record t { children = listed l })

abbrev pub window_track : Rate → ℤ → ℤ → ItemOf Listed → Option (ItemOf Listed)
window_track r a b x = option_map (with_items x) (window_of r a b (stripped (items_in x) a b))

abbrev pub window_tracks : Rate → ℤ → ℤ → List (ItemOf Listed) → Option (List (ItemOf Listed))
window_tracks r a b [] = Some []
window_tracks r a b (x ∷ l) = with_first (window_track r a b x) (window_tracks r a b l)

-- the instant of a record frame, in ticks from the start
abbrev pub from_start : Timeline → ℤ → ℤ
from_start t n = (n -ℤ start_frame t) *ℤ frame_of t

-- the timeline from record frame a up to b
pub record IsWindowed (t : Timeline) (a b : ℤ) (r : Timeline) : Type 0 where
  pub tracks : List (ItemOf Listed)
  pub are : window_tracks (rate_of t) (from_start t a) (from_start t b) (roots t) ≡ Some tracks
  pub start : Time
  pub ticks : start.ticks ≡ a *ℤ frame_of t
  pub rate : start.rate ≡ rate_of t
  pub is : bare r ≡ bare (record (with_roots tracks t) { global_start_time = Some start })

-- ---- refusals

-- the window has frames, none before the timeline's start, and both ends in range
abbrev pub is_window : Timeline → ℤ → ℤ → Bool
is_window t a b = (int_lt a b && int_le (start_frame t) a)
    && (in_range (a *ℤ frame_of t) && in_range (b *ℤ frame_of t))

-- what refuses tracks to be cut at a and at b, in ticks, and at which places
pub data WindowBlocks (l : List (ItemOf Listed)) (a b : ℤ) : List ℕ → Cause → Type 0 where
  not_plain : (place : List ℕ) (k : ℕ) (x : ItemOf Listed) → place ≡ k ∷ [] → slice_get l k ≡ Some x
      → is_plain x ≡ false → WindowBlocks l a b place C.Nested
  phase : (place : List ℕ) (k i : ℕ) (x y : ItemOf Listed) → place ≡ k ∷ i ∷ []
      → slice_get l k ≡ Some x → slice_get (items_in x) i ≡ Some y
      → (cuts_at y (a -ℤ added (take i (items_in x)))
      && cuts_at y (b -ℤ added (take i (items_in x)))) ≡ false → WindowBlocks l a b place C.Phase

-- ---- what is shown

-- what the stripped list of a root child shows inside the window and the track, where it is enabled
abbrev pub window_shows : (FrameRate → FrameRate) → Option (ItemOf Listed) → ℤ → ℤ → ℤ → Show
window_shows rate_kept None a b w = Blank
window_shows rate_kept (Some x) a b w =
    cond (is_enabled x && (within a b w && within (pos 0) (added (items_in x)) w))
    (list_shows (looks (viewer rate_kept (kind_of x)) (stripped (items_in x) a b)) w)
    Blank
