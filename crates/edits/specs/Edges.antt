-- The child that holds an instant, its neighbours, and the edits that move its edges.
use Rattle.std.specs.Prelude.{ℤ, pos, ◌+ℤ◌, ◌-ℤ◌, ◌*ℤ◌, int_lt, int_le, Bool, true, false, ◌&&◌, ◌||◌, cond, List, [], ◌∷◌, ◌++◌, Option, Some, None, option_map, option_and_then, is_some}
use Rattle.std.specs.Option.{option_or}
use Rattle.std.specs.Int.{int_div_euclid, int_min, int_max}
use Rattle.tick_time.specs.declared.spans.Span.{Span}
use Rattle.otio_model.specs.declared.compositions.ItemOf.{ItemOf}
use Rattle.otio_model.specs.declared.compositions.ItemOf.TheVariants.{Clip, Gap, Transition, Stack, Track}
use Rattle.otio_model.specs.declared.compositions.Listed.{Listed}
use Rattle.otio_model.specs.Lengths.{clip_range}
use Rattle.otio_model.specs.Overlaps.{within}
use Rattle.otio_model.specs.Trees.{is_transition}
use Rattle.coord.specs.Speeds.{speed_of, media_at}
use Rattle.otio_model.specs.Lengths.{trimmed_start}
use Rattle.edits.specs.Children.{Child, Old, Ranged, ticks, new_gap}
use Rattle.edits.specs.Cuts.{strip, olds}

-- an item of a list, with what stands before and after it
pub record Held : Type 0 where
  pub before : List (ItemOf Listed)
  pub item : ItemOf Listed
  pub behind : List (ItemOf Listed)

abbrev pub held_behind : ItemOf Listed → Held → Held
held_behind x h = record { before = x ∷ h.before; item = h.item; behind = h.behind }

-- the child that holds w; a transition takes no time, so it holds none
abbrev pub held_at : List (ItemOf Listed) → ℤ → Option Held
held_at [] w = None
held_at (x ∷ l) w =
    cond (within (pos 0) (ticks x) w) (Some (record { before = []; item = x; behind = l }))
    (option_map (held_behind x) (held_at l (w -ℤ ticks x)))

-- the lengths of items added up: where what stands after them starts
abbrev pub added : List (ItemOf Listed) → ℤ
added [] = pos 0
added (x ∷ l) = ticks x +ℤ added l

abbrev pub start : Held → ℤ
start h = added h.before

abbrev pub end : Held → ℤ
end h = start h +ℤ ticks h.item

-- the first that is no transition
abbrev pub first_item : List (ItemOf Listed) → Option (ItemOf Listed)
first_item [] = None
first_item (x ∷ l) = cond (is_transition x) (first_item l) (Some x)

-- the last that is no transition
abbrev pub last_item : List (ItemOf Listed) → Option (ItemOf Listed)
last_item [] = None
last_item (x ∷ l) = option_or (last_item l) (cond (is_transition x) None (Some x))

-- with others in the place of the first, or of the last, that is no transition
abbrev pub first_changed : (ItemOf Listed → List Child) → List (ItemOf Listed) → List Child
first_changed f [] = []
first_changed f (x ∷ l) = cond (is_transition x) (Old x ∷ first_changed f l) (f x ++ olds l)

abbrev pub last_changed : (ItemOf Listed → List Child) → List (ItemOf Listed) → List Child
last_changed f [] = []
last_changed f (x ∷ l) =
    cond (is_some (last_item l) || is_transition x) (Old x ∷ last_changed f l) (f x ++ olds l)

-- ---- handles

-- unused media before and after what a clip uses, in ticks of the media
pub record Handles : Type 0 where
  pub before : ℤ
  pub behind : ℤ

abbrev pub million : ℤ
million = pos 1000000

-- so many ticks of a clip from a start, in media of a range, at a speed
abbrev pub handles_in : Span → ℤ → ℤ → ℤ → Handles
handles_in media from n speed = record {
  before = int_max (pos 0)
      ((from +ℤ int_div_euclid (int_min (pos 0) (n *ℤ speed)) million) -ℤ media.start.ticks);
  behind = int_max (pos 0)
      (((media.start.ticks +ℤ media.len.ticks) -ℤ from)
      +ℤ int_div_euclid (int_min (pos 0) (pos 0 -ℤ (n *ℤ speed))) million);
}

-- the handles of a clip; none where its media have no range, or of another item
abbrev pub clip_handles : ItemOf Listed → Option Handles
clip_handles (Clip c) =
    option_map
    (λ media. handles_in media (trimmed_start {C = Listed} (Clip c)) (ticks (Clip c))
    (speed_of {C = Listed} (Clip c))) (clip_range c)
clip_handles (Gap g) = None
clip_handles (Transition t) = None
clip_handles (Stack k) = None
clip_handles (Track t) = None

-- how far ticks of media go at a speed, in ticks of the item
abbrev pub played : ℤ → ℤ → ℤ
played n speed = int_div_euclid (n *ℤ million) speed

-- how far the head, and the tail, of an item of a speed can be moved outward
abbrev pub head_by : ℤ → Handles → Option ℤ
head_by speed handles =
    cond (int_lt (pos 0) speed) (Some (played handles.before speed))
    (cond (int_lt speed (pos 0)) (Some (played handles.behind (pos 0 -ℤ speed))) None)

abbrev pub tail_by : ℤ → Handles → Option ℤ
tail_by speed handles =
    cond (int_lt (pos 0) speed) (Some (played handles.behind speed))
    (cond (int_lt speed (pos 0)) (Some (played handles.before (pos 0 -ℤ speed))) None)

abbrev pub head_room : ItemOf Listed → Option ℤ
head_room x = option_and_then (head_by (speed_of x)) (clip_handles x)

abbrev pub tail_room : ItemOf Listed → Option ℤ
tail_room x = option_and_then (tail_by (speed_of x)) (clip_handles x)

-- ---- clamps

-- the whole frames of f ticks in so many ticks, in ticks
abbrev pub whole_frames : ℤ → ℤ → ℤ
whole_frames f z = cond (int_lt z (pos 0)) (pos 0) (int_div_euclid z f *ℤ f)

-- the lesser of two limits, where none is no limit
abbrev pub lesser : Option ℤ → Option ℤ → Option ℤ
lesser None o = o
lesser (Some a) None = Some a
lesser (Some a) (Some b) = Some (int_min a b)

-- the number held from a limit below 0 to one above it
abbrev pub at_least : Option ℤ → ℤ → ℤ
at_least None z = z
at_least (Some a) z = int_max z (pos 0 -ℤ a)

abbrev pub at_most : Option ℤ → ℤ → ℤ
at_most None z = z
at_most (Some a) z = int_min z a

abbrev pub clamped : Option ℤ → Option ℤ → ℤ → ℤ
clamped below above z = at_most above (at_least below z)

abbrev pub whole_limit : ℤ → Option ℤ → Option ℤ
whole_limit f o = option_map (whole_frames f) o

-- ---- moved items

abbrev pub is_zero : ℤ → Bool
is_zero z = int_le z (pos 0) && int_le (pos 0) z

-- the item with its head moved by h ticks and its tail by t
abbrev pub moved : ℤ → ℤ → ItemOf Listed → Child
moved h t x =
    cond (is_zero h && is_zero t) (Old x)
    (Ranged x (media_at (trimmed_start x) (speed_of x) h) ((ticks x -ℤ h) +ℤ t))

abbrev pub one : Child → List Child
one c = c ∷ []

abbrev pub is_gap : ItemOf Listed → Bool
is_gap (Clip c) = false
is_gap (Gap g) = true
is_gap (Transition t) = false
is_gap (Stack k) = false
is_gap (Track t) = false

-- the item with its start moved by d ticks of its media; a gap stays as it is
abbrev pub slipped_item : ℤ → ItemOf Listed → Child
slipped_item d x = cond (is_zero d || is_gap x) (Old x) (Ranged x (trimmed_start x +ℤ d) (ticks x))

-- a gap that is longer by so many ticks; it goes where nothing is left of it
abbrev pub grown : ℤ → ItemOf Listed → List Child
grown n x =
    cond (is_zero n) (one (Old x))
    (cond (int_lt (pos 0) (ticks x +ℤ n)) (one (Ranged x (trimmed_start x) (ticks x +ℤ n))) [])

-- a new gap where there is a length for one
abbrev pub gap_of : ℤ → List Child
gap_of n = cond (int_lt (pos 0) n) (one (new_gap n)) []

-- ---- the five edits of edges, of the item h, by frames of f ticks

-- a zone, from one instant to another
pub record Zone : Type 0 where
  pub from : ℤ
  pub to : ℤ

-- what is left before and after the item where the zone's transitions go
abbrev pub left_before : Held → Zone → List (ItemOf Listed)
left_before h z = strip h.before z.from z.to

abbrev pub left_behind : Held → Zone → List (ItemOf Listed)
left_behind h z = strip h.behind (z.from -ℤ end h) (z.to -ℤ end h)

-- how far a slip goes
abbrev pub slip_by : ℤ → Held → ℤ → ℤ
slip_by f h by =
    elim (clip_handles h.item) [
      | None ↦ by
      | Some handles ↦ clamped (Some (whole_frames f handles.before))
          (Some (whole_frames f handles.behind)) by
    ]

abbrev pub slipped : ℤ → Held → ℤ → List Child
slipped f h by = olds h.before ++ (slipped_item (slip_by f h by) h.item ∷ olds h.behind)

-- how far a slide goes, where y is the item before
abbrev pub slide_by : ℤ → ItemOf Listed → ℤ → ℤ
slide_by f y by =
    clamped (Some (whole_frames f (ticks y -ℤ pos 1))) (whole_limit f (tail_room y)) by

abbrev pub slide_zone : Held → ℤ → Zone
slide_zone h d =
    record { from = int_min (start h) (start h +ℤ d); to = int_max (start h) (start h +ℤ d) }

abbrev pub slid : Held → ℤ → List Child
slid h d =
    last_changed (λ y. one (moved (pos 0) d y)) (left_before h (slide_zone h d))
    ++ (Old h.item ∷ olds (left_behind h (slide_zone h d)))

-- how far a head and a tail go, and to where
pub record Moves : Type 0 where
  pub head : ℤ
  pub tail : ℤ

abbrev pub ripple_by : ℤ → ItemOf Listed → Moves → Moves
ripple_by f x by =
    let head : ℤ =
    clamped (whole_limit f (head_room x)) (Some (whole_frames f (ticks x -ℤ pos 1))) by.head in
    record {
      head = head;
      tail = clamped (Some (whole_frames f ((ticks x -ℤ head) -ℤ pos 1)))
          (whole_limit f (tail_room x)) by.tail;
    }

abbrev pub item_zone : Held → Zone
item_zone h = record { from = start h; to = end h }

abbrev pub rippled : Held → Moves → List Child
rippled h m =
    olds (left_before h (item_zone h))
    ++ (moved m.head m.tail h.item ∷ olds (left_behind h (item_zone h)))

-- the zone of moves that leave what is around in its place
abbrev pub moves_zone : Held → Moves → Zone
moves_zone h m =
    record { from = int_min (start h) (start h +ℤ m.head); to = int_max (end h) (end h +ℤ m.tail) }

-- how long the gap at a side is: nothing where another item stands there
abbrev pub gap_ticks : ItemOf Listed → ℤ
gap_ticks x = cond (is_gap x) (ticks x) (pos 0)

abbrev pub gap_before : Held → ℤ
gap_before h = elim (last_item h.before) [ None ↦ pos 0 | Some y ↦ gap_ticks y ]

abbrev pub gap_behind : Held → Option ℤ
gap_behind h = option_map gap_ticks (first_item h.behind)

abbrev pub trim_by : ℤ → Held → Moves → Moves
trim_by f h by =
    let head : ℤ =
    clamped (lesser (Some (whole_frames f (gap_before h))) (whole_limit f (head_room h.item)))
    (Some (whole_frames f (ticks h.item -ℤ pos 1))) by.head in
    record {
      head = head;
      tail = clamped (Some (whole_frames f ((ticks h.item -ℤ head) -ℤ pos 1)))
          (lesser (whole_limit f (gap_behind h)) (whole_limit f (tail_room h.item))) by.tail;
    }

abbrev pub is_gap_at : Option (ItemOf Listed) → Bool
is_gap_at None = false
is_gap_at (Some x) = is_gap x

-- the gap before the item grows by the head's move, or a new one comes
abbrev pub trimmed_before : Held → Moves → List Child
trimmed_before h m = cond (is_gap_at (last_item h.before))
    (last_changed (grown m.head) (left_before h (moves_zone h m)))
    (olds (left_before h (moves_zone h m)) ++ gap_of m.head)

abbrev pub trimmed_behind : Held → Moves → List Child
trimmed_behind h m = cond (is_gap_at (first_item h.behind))
    (first_changed (grown (pos 0 -ℤ m.tail)) (left_behind h (moves_zone h m)))
    (gap_of (pos 0 -ℤ m.tail) ++ olds (left_behind h (moves_zone h m)))

abbrev pub trimmed : Held → Moves → List Child
trimmed h m = trimmed_before h m ++ (moved m.head m.tail h.item ∷ trimmed_behind h m)

-- a roll of the head, by the handle of the item before; 0 where no item stands before it
abbrev pub roll_head : ℤ → Held → ℤ → ℤ
roll_head f h by = elim (last_item h.before) [
  | None ↦ pos 0
  | Some y ↦ cond (is_zero by) (pos 0)
      (clamped
      (lesser (whole_limit f (head_room h.item)) (Some (whole_frames f (ticks y -ℤ pos 1))))
      (lesser (Some (whole_frames f (ticks h.item -ℤ pos 1))) (whole_limit f (tail_room y))) by)
]

abbrev pub roll_tail : ℤ → Held → ℤ → ℤ → ℤ
roll_tail f h head by = elim (first_item h.behind) [
  | None ↦ pos 0
  | Some z ↦ cond (is_zero by) (pos 0)
      (clamped
      (lesser (Some (whole_frames f ((ticks h.item -ℤ head) -ℤ pos 1)))
      (whole_limit f (head_room z)))
      (lesser (whole_limit f (tail_room h.item)) (Some (whole_frames f (ticks z -ℤ pos 1)))) by)
]

abbrev pub roll_by : ℤ → Held → Moves → Moves
roll_by f h by =
    record { head = roll_head f h by.head; tail = roll_tail f h (roll_head f h by.head) by.tail }

abbrev pub rolled : Held → Moves → List Child
rolled h m =
    last_changed (λ y. one (moved (pos 0) m.head y)) (left_before h (moves_zone h m))
    ++ (moved m.head m.tail h.item
    ∷ first_changed (λ z. one (moved m.tail (pos 0) z)) (left_behind h (moves_zone h m)))
