-- Why an edit is refused: the first of the tests, in their order, that holds.
use Rattle.std.specs.Prelude.{◌≡◌, ℕ, ◌<◌, ℤ, pos, ◌+ℤ◌, ◌-ℤ◌, ◌*ℤ◌, int_lt, Bool, true, false, ◌&&◌, ◌||◌, not, cond, List, [], ◌∷◌, ◌++◌, Option, Some, None, option_map, is_some, is_none, slice_get, ◌⊎◌}
use Rattle.limits.specs.Limits.{most_items}
use Rattle.otio_model.specs.declared.compositions.ItemOf.{ItemOf}
use Rattle.otio_model.specs.declared.compositions.Listed.{Listed}
use Rattle.otio_model.specs.declared.timelines.Timeline.{Timeline}
use Rattle.otio_model.specs.declared.edit_types.Edit.{Edit}
use Rattle.otio_model.specs.declared.edit_types.Edit.TheVariants as A
use Rattle.otio_model.specs.declared.edit_types.EditFault.{EditFault}
use Rattle.otio_model.specs.declared.edit_types.EditFault.TheVariants as F
use Rattle.otio_model.specs.declared.edit_types.FillMode.{FillMode}
use Rattle.otio_model.specs.declared.edit_types.FillMode.TheVariants as M
use Rattle.otio_model.specs.Trees.{items_of, children_of, item_at}
pub use Rattle.otio_model.specs.Trees.{is_track}
use Rattle.otio_model.specs.Lengths.{source_of}
use Rattle.otio_model.specs.Counts.{count}
use Rattle.coord.specs.declared.faults.ItemFault.TheVariants.{Long}
use Rattle.coord.specs.Soundness.{fault_of}
use Rattle.coord.specs.Speeds.{speed_of}
use Rattle.tick_time.specs.Times.{is_speed}
use Rattle.edits.specs.Children.{Child, ticks, child_ticks, has_far}
use Rattle.edits.specs.Cuts.{strip, cuts_whole, is_whole_at}
use Rattle.edits.specs.Edges.{Held, held_at, start, is_gap, is_zero, last_item, first_item, added}
use Rattle.edits.specs.Edits.{edited, filling, fitted, fit_speed}
use Rattle.edits.specs.After.{place_of, at_of, frame_of, list_of, after}

-- ---- E1 and E2: the place

abbrev pub place_fault : List ℕ → Timeline → Option EditFault
place_fault [] t = Some F.NotTrack
place_fault (i ∷ place) t =
    elim (item_at (i ∷ place) t.tracks.children) [
      | None ↦ Some F.Place
      | Some x ↦ cond (is_track x) None (Some F.NotTrack)
    ]

-- ---- E4, E5, E6, E11, E12: what stands there, and the item

-- an item has to hold the instant
abbrev pub asks_item : Edit → Bool
asks_item (A.Overwrite place at x) = false
asks_item (A.Insert place at x) = false
asks_item (A.Slice place at) = true
asks_item (A.Fill place at mode x) = true
asks_item (A.Remove place at mode) = true
asks_item (A.Trim place at head tail) = true
asks_item (A.Slip place at by) = true
asks_item (A.Slide place at by) = true
asks_item (A.Ripple place at head tail) = true
asks_item (A.Roll place at head tail) = true

-- a test of the held item; it doesn't hold where there is none
abbrev pub of_held : (Held → Bool) → Option Held → Bool
of_held p None = false
of_held p (Some h) = p h

abbrev pub is_filled_item : Edit → Option Held → Bool
is_filled_item (A.Overwrite place at x) h = false
is_filled_item (A.Insert place at x) h = false
is_filled_item (A.Slice place at) h = false
is_filled_item (A.Fill place at mode x) h = of_held (λ k. not (is_gap k.item)) h
is_filled_item (A.Remove place at mode) h = false
is_filled_item (A.Trim place at head tail) h = false
is_filled_item (A.Slip place at by) h = false
is_filled_item (A.Slide place at by) h = false
is_filled_item (A.Ripple place at head tail) h = false
is_filled_item (A.Roll place at head tail) h = false

abbrev pub is_empty : Edit → Bool
is_empty (A.Overwrite place at x) = is_zero (ticks x)
is_empty (A.Insert place at x) = is_zero (ticks x)
is_empty (A.Slice place at) = false
is_empty (A.Fill place at mode x) = is_zero (ticks x)
is_empty (A.Remove place at mode) = false
is_empty (A.Trim place at head tail) = false
is_empty (A.Slip place at by) = false
is_empty (A.Slide place at by) = false
is_empty (A.Ripple place at head tail) = false
is_empty (A.Roll place at head tail) = false

abbrev pub has_no_neighbour : Edit → Option Held → Bool
has_no_neighbour (A.Overwrite place at x) h = false
has_no_neighbour (A.Insert place at x) h = false
has_no_neighbour (A.Slice place at) h = false
has_no_neighbour (A.Fill place at mode x) h = false
has_no_neighbour (A.Remove place at mode) h = false
has_no_neighbour (A.Trim place at head tail) h = false
has_no_neighbour (A.Slip place at by) h = false
has_no_neighbour (A.Slide place at by) h = of_held (λ k. is_none (last_item k.before)) h
has_no_neighbour (A.Ripple place at head tail) h = false
has_no_neighbour (A.Roll place at head tail) h =
    of_held (λ k. (not (is_zero head) && is_none (last_item k.before))
    || (not (is_zero tail) && is_none (first_item k.behind))) h

-- the speed at which an item fits is 0 or beyond 1000, or that of the warp is beyond it
abbrev pub is_wrong_fit : ItemOf Listed → ℤ → Bool
is_wrong_fit x room =
    is_zero (speed_of (fitted x room))
    || (not (is_speed (speed_of (fitted x room))) || not (is_speed (fit_speed (ticks x) room)))

abbrev pub has_wrong_fit : FillMode → ItemOf Listed → Option Held → Bool
has_wrong_fit M.Source x h = false
has_wrong_fit M.Sequence x h = false
has_wrong_fit M.Fit x h = of_held (λ k. is_wrong_fit x (ticks k.item)) h

abbrev pub is_wrong_speed : Edit → Option Held → Bool
is_wrong_speed (A.Overwrite place at x) h = false
is_wrong_speed (A.Insert place at x) h = false
is_wrong_speed (A.Slice place at) h = false
is_wrong_speed (A.Fill place at mode x) h = has_wrong_fit mode x h
is_wrong_speed (A.Remove place at mode) h = false
is_wrong_speed (A.Trim place at head tail) h = false
is_wrong_speed (A.Slip place at by) h = false
is_wrong_speed (A.Slide place at by) h = false
is_wrong_speed (A.Ripple place at head tail) h = false
is_wrong_speed (A.Roll place at head tail) h = false

-- ---- E7: cuts

-- both ends of the zone can be cut
abbrev pub cuts_ends : List (ItemOf Listed) → ℤ → ℤ → Bool
cuts_ends l a b = cuts_whole (strip l a b) a && cuts_whole (strip l a b) b

-- what goes into a gap can be cut as it has to be
abbrev pub cuts_filling : FillMode → ItemOf Listed → ℤ → Bool
cuts_filling M.Source x room = true
cuts_filling M.Sequence x room = not (int_lt room (ticks x)) || is_whole_at x room
cuts_filling M.Fit x room = true

abbrev pub cuts_fill : FillMode → ItemOf Listed → List (ItemOf Listed) → Held → Bool
cuts_fill mode x l h =
    cuts_filling mode x (ticks h.item)
    && cuts_ends l (start h) (start h +ℤ child_ticks (filling mode x (ticks h.item)))

-- each cut of an edit falls on a whole tick; f is the frame
abbrev pub is_phased : ℤ → Edit → List (ItemOf Listed) → Bool
is_phased f (A.Overwrite place at x) l = cuts_ends l (at *ℤ f) ((at *ℤ f) +ℤ ticks x)
is_phased f (A.Insert place at x) l = cuts_ends l (at *ℤ f) (at *ℤ f)
is_phased f (A.Slice place at) l = cuts_ends l (at *ℤ f) (at *ℤ f)
is_phased f (A.Fill place at mode x) l =
    not (of_held (λ h. not (cuts_fill mode x l h)) (held_at l (at *ℤ f)))
is_phased f (A.Remove place at mode) l = true
is_phased f (A.Trim place at head tail) l = true
is_phased f (A.Slip place at by) l = true
is_phased f (A.Slide place at by) l = true
is_phased f (A.Ripple place at head tail) l = true
is_phased f (A.Roll place at head tail) l = true

-- ---- E8: what pins a track

-- whether the length of an item changes with that of the track below it: it is pinned, its own
-- parent names it, or it changes
pub data Free : Type 0 where
  Pinned : Free
  Named : List ℕ → Free
  Changes : Free

abbrev pub own_range : ItemOf Listed → Free
own_range x = cond (is_some (source_of x)) Pinned Changes

abbrev pub with_child : List ℕ → ItemOf Listed → Free → Free
with_child child x Pinned = Pinned
with_child child x (Named place) = Named place
with_child child x Changes = cond (is_track x) (Named child) (own_range x)

abbrev pub free_child : (List ℕ → ItemOf Listed → Free) → List ℕ → ItemOf Listed → ℕ → Free
free_child f way x i =
    elim (children_of x) [
      | None ↦ Pinned
      | Some l ↦ elim (slice_get (items_of l) i) [
        | None ↦ Pinned
        | Some y ↦ with_child (way ++ i ∷ []) x (f (way ++ i ∷ []) y)
      ]
    ]

-- the item at the way, where the track lies further down the place
abbrev pub free : List ℕ → List ℕ → ItemOf Listed → Free
free [] way x = own_range x
free (i ∷ place) way x = free_child (free place) way x i

-- the place that isn't pinned; a root child is
abbrev pub named : Free → Option (List ℕ)
named Pinned = None
named (Named place) = Some place
named Changes = None

abbrev pub unpinned : List ℕ → Timeline → Option (List ℕ)
unpinned [] t = None
unpinned (i ∷ place) t =
    elim (slice_get (items_of t.tracks.children) i) [
      | None ↦ None
      | Some x ↦ named (free place (i ∷ []) x)
    ]

-- children put one after another
abbrev pub long : List Child → ℤ
long [] = pos 0
long (c ∷ l) = child_ticks c +ℤ long l

abbrev pub pin_fault : Timeline → Edit → Option EditFault
pin_fault t e =
    cond (is_zero (long (edited (frame_of t) e (list_of t e)) -ℤ added (list_of t e))) None
    (option_map F.Unpinned (unpinned (place_of e) t))

-- ---- the table up to E8

abbrev pub test : Bool → EditFault → Option EditFault → Option EditFault
test true fault others = Some fault
test false fault others = others

abbrev pub list_fault : Timeline → Edit → ℤ → List (ItemOf Listed) → Option Held → Option EditFault
list_fault t e f l h =
    test (int_lt (at_of e) (pos 0)) F.Negative
    (test (asks_item e && is_none h) F.NoItem
    (test (is_filled_item e h) F.NotGap
    (test (is_empty e) F.Empty
    (test (has_no_neighbour e h) F.NoNeighbour
    (test (is_wrong_speed e h) F.Speed
    (test (not (is_phased f e l)) F.Phase
    (pin_fault t e)))))))

-- the first of two
abbrev pub first_fault : Option EditFault → Option EditFault → Option EditFault
first_fault None others = others
first_fault (Some fault) others = Some fault

abbrev pub early_fault : Timeline → Edit → Option EditFault
early_fault t e =
    first_fault (place_fault (place_of e) t)
    (list_fault t e (frame_of t) (list_of t e) (held_at (list_of t e) (at_of e *ℤ frame_of t)))

-- ---- E9 and E10: the result

-- an item of the timeline passes a million seconds
abbrev pub HasLong : Timeline → Type 0
HasLong t =
    (place : List ℕ) × (x : ItemOf Listed) × (item_at place t.tracks.children ≡ Some x)
    × (fault_of x ≡ Some Long)

abbrev pub IsTooLong : Timeline → Edit → Type 0
IsTooLong t e =
    (has_far (edited (frame_of t) e (list_of t e)) ≡ true)
    ⊎ ((s : Timeline) × (after t e ≡ Some s) × HasLong s)

abbrev pub HasMany : Timeline → Edit → Type 0
HasMany t e = (s : Timeline) × (after t e ≡ Some s) × (most_items < count s.tracks.children)

-- the edit is refused for this fault: one of the tests up to E8, else a result that is too long,
-- else one of too many items
pub data IsRefused (t : Timeline) (e : Edit) (fault : EditFault) : Type 0 where
  at_once : early_fault t e ≡ Some fault → IsRefused t e fault
  too_long : early_fault t e ≡ None → IsTooLong t e → fault ≡ F.TooLong → IsRefused t e fault
  too_many : early_fault t e ≡ None → (IsTooLong t e → ⊥) → HasMany t e → fault ≡ F.Items
      → IsRefused t e fault

-- the edit is accepted, and gives this timeline
pub record IsAfter (t : Timeline) (e : Edit) (s : Timeline) : Type 0 where
  pub early : early_fault t e ≡ None
  pub short : IsTooLong t e → ⊥
  pub few : HasMany t e → ⊥
  pub made : after t e ≡ Some s
