-- Timelines one after another.
use Rattle.std.specs.Prelude.{◌≡◌, ℕ, suc, ◌+◌, ◌-◌, ◌*◌, ◌/◌, min, max, ◌==◌, ℤ, pos, ◌-ℤ◌, int_lt, Bool, true, false, not, ◌&&◌, ◌||◌, cond, List, [], ◌∷◌, ◌++◌, filter, length, map, take, drop, slice_get, Option, Some, None, is_none, option_map}
use Rattle.tick_time.specs.declared.rates.Rate.{Rate}
use Rattle.tick_time.specs.Rates.{frame}
use Rattle.limits.specs.Limits.{most_ticks}
use Rattle.otio_model.specs.declared.compositions.ItemOf.{ItemOf}
use Rattle.otio_model.specs.declared.compositions.ItemOf.TheVariants.{Clip, Gap, Transition, Stack, Track}
use Rattle.otio_model.specs.declared.compositions.Listed.{Listed}
use Rattle.otio_model.specs.declared.timelines.Timeline.{Timeline}
use Rattle.otio_model.specs.Trees.{listed}
use Rattle.otio_model.specs.Timelines.{bare}
use Rattle.coord.specs.Looks.{Show, Overlap, FrameRate}
use Rattle.coord.specs.Sights.{sight, overlap_of}
use Rattle.otio_model.specs.Lengths.{or_zero}
use Rattle.coord.specs.Programs.{kind_of, shown_by}
use Rattle.edits.specs.Children.{Child, all_made, new_gap, with_first}
use Rattle.edits.specs.Cuts.{olds}
use Rattle.edits.specs.Edges.{added}
use Rattle.edits.specs.After.{rate_of}
use Rattle.flat.specs.declared.faults.Cause.{Cause}
use Rattle.flat.specs.declared.faults.Cause.TheVariants as C
use Rattle.flat.specs.Roots.{is_empty, is_of, is_enabled, is_plain, items_in, roots, with_roots}
use Rattle.coord.specs.Soundness.{IsSound}
use Rattle.flat.specs.Blocked.{IsFree}

-- the track of a kind that has so many of its kind before it
abbrev pub track_of : List ℕ → ℕ → List (ItemOf Listed) → Option (ItemOf Listed)
track_of kind k l = slice_get (filter (is_of kind) l) k

-- what it has; a missing or a disabled one has no children
abbrev pub own_items : Option (ItemOf Listed) → List (ItemOf Listed)
own_items None = []
own_items (Some x) = cond (is_enabled x) (items_in x) []

-- how long the longest root child is
abbrev pub longest_root : List (ItemOf Listed) → ℕ
longest_root [] = 0
longest_root (x ∷ l) = max (or_zero (sight x).length) (longest_root l)

-- up to whole frames of f ticks
abbrev pub rounded_up : ℕ → ℕ → ℕ
rounded_up f n = ((n + (f - 1)) / f) * f

-- how long an input is when others follow: its longest root child in whole frames, at most a
-- million seconds
abbrev pub stretch : ℕ → List (ItemOf Listed) → ℤ
stretch f l = pos (min (rounded_up f (longest_root l)) most_ticks)

-- so many ticks of nothing, where there are any
abbrev pub pad : ℤ → List Child
pad n = cond (int_lt (pos 0) n) (new_gap n ∷ []) []

-- the children of the joined track: those of the first input's track, a gap up to its stretch, then
-- those of the others
abbrev pub joined_children : ℕ → List ℕ → ℕ → List (ItemOf Listed) → List (List (ItemOf Listed))
    → List Child
joined_children f kind k l [] = olds (own_items (track_of kind k l))
joined_children f kind k l (m ∷ more) = olds (own_items (track_of kind k l))
    ++ (pad (stretch f l -ℤ added (own_items (track_of kind k l)))
    ++ joined_children f kind k m more)

-- a joined track: its kind, how many of its kind stand before it, and the first input's track that
-- it is
pub record Slot : Type 0 where
  pub kind : List ℕ
  pub index : ℕ
  pub first : ItemOf Listed

-- the slots of an input's tracks, of which some stand before
abbrev pub slots_in : List (ItemOf Listed) → List (ItemOf Listed) → List Slot
slots_in before [] = []
slots_in before (x ∷ l) =
    record { kind = kind_of x; index = length (filter (is_of (kind_of x)) before); first = x }
    ∷ slots_in (before ++ x ∷ []) l

-- no earlier input has that track
abbrev pub is_new : List (List (ItemOf Listed)) → Slot → Bool
is_new [] s = true
is_new (l ∷ earlier) s = is_none (track_of s.kind s.index l) && is_new earlier s

-- the tracks of all inputs, in the order of their first input and place
abbrev pub slots : List (List (ItemOf Listed)) → List (List (ItemOf Listed)) → List Slot
slots earlier [] = []
slots earlier (l ∷ more) = filter (is_new earlier) (slots_in [] l) ++ slots (earlier ++ l ∷ []) more

-- the track, enabled, with these children
abbrev pub joined_with : ItemOf Listed → List (ItemOf Listed) → ItemOf Listed
joined_with (Clip c) m = Clip c
joined_with (Gap g) m = Gap g
joined_with (Transition t) m = Transition t
joined_with (Stack s) m = Stack s
joined_with (Track t) m = Track (record t { enabled = true; children = listed m })

abbrev pub joined_track : Rate → List (ItemOf Listed) → List (List (ItemOf Listed)) → Slot
    → Option (ItemOf Listed)
joined_track r l more s =
    option_map (joined_with s.first)
    (all_made r (joined_children (frame r.num r.den) s.kind s.index l more))

abbrev pub joined_tracks : Rate → List (ItemOf Listed) → List (List (ItemOf Listed)) → List Slot
    → Option (List (ItemOf Listed))
joined_tracks r l more [] = Some []
joined_tracks r l more (s ∷ rest) =
    with_first (joined_track r l more s) (joined_tracks r l more rest)

-- the slots of the first input and the others
abbrev pub joined_slots : Timeline → List Timeline → List Slot
joined_slots t more = slots [] (roots t ∷ map roots more)

-- all else is the first input's
pub record IsJoined (t : Timeline) (more : List Timeline) (r : Timeline) : Type 0 where
  pub tracks : List (ItemOf Listed)
  pub are : joined_tracks (rate_of t) (roots t) (map roots more) (joined_slots t more) ≡ Some tracks
  pub is : bare r ≡ bare (with_roots tracks t)

-- ---- refusals

-- a transition's overlap begins before its list does, or the transition is its first child
abbrev pub begins_early : List (ItemOf Listed) → ℕ → Overlap → Bool
begins_early l i o = (i == 0) || int_lt (added (take i l)) o.before

-- its overlap ends behind the list's end, or it is the last child
abbrev pub ends_late : List (ItemOf Listed) → ℕ → Overlap → Bool
ends_late l i o = is_empty (drop (suc i) l) || int_lt (added (drop (suc i) l)) o.after

-- what refuses an input to be joined, and at which places; the first input may begin with a
-- transition, and the last end with one
pub data JoinBlocks (is_first is_last : Bool) (l : List (ItemOf Listed)) : List ℕ → Cause
    → Type 0 where
  not_plain : (place : List ℕ) (k : ℕ) (x : ItemOf Listed) → place ≡ k ∷ [] → slice_get l k ≡ Some x
      → is_plain x ≡ false → JoinBlocks is_first is_last l place C.Nested
  crossing : (place : List ℕ) (k i : ℕ) (x y : ItemOf Listed) (o : Overlap) → place ≡ k ∷ i ∷ []
      → slice_get l k ≡ Some x → is_enabled x ≡ true
      → slice_get (items_in x) i ≡ Some y → overlap_of y ≡ Some o
      → ((not is_first && begins_early (items_in x) i o)
      || (not is_last && ends_late (items_in x) i o)) ≡ true
      → JoinBlocks is_first is_last l place C.Crossing

-- ---- what is shown

-- what each input shows in its stretch
abbrev pub joined_shows : ℕ → (FrameRate → FrameRate) → List ℕ → ℕ → List (ItemOf Listed)
    → List (List (ItemOf Listed)) → ℤ → Show
joined_shows f rate_kept kind k l [] u = shown_by rate_kept (track_of kind k l) u
joined_shows f rate_kept kind k l (m ∷ more) u =
    cond (int_lt u (stretch f l)) (shown_by rate_kept (track_of kind k l) u)
    (joined_shows f rate_kept kind k m more (u -ℤ stretch f l))

-- ---- inputs that can be joined

-- a sound input that nothing refuses
pub record IsFit (is_first is_last : Bool) (t : Timeline) : Type 0 where
  pub sound : IsSound t
  pub free : IsFree (JoinBlocks is_first is_last (roots t))

abbrev pub AreFit : Bool → Timeline → List Timeline → Type 0
AreFit is_first t [] = IsFit is_first true t
AreFit is_first t (m ∷ more) = IsFit is_first false t × AreFit false m more
