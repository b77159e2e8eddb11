-- The instant that an instant of a root child reaches at a place below it.
use Rattle.std.specs.Prelude.{ℕ, zero, suc, ℤ, pos, ◌-ℤ◌, ◌&&◌, ◌||◌, Bool, true, false, cond}
use Rattle.std.specs.Prelude.{List, [], ◌∷◌, Option, Some, None, slice_get, take, option_and_then}
use Rattle.std.specs.Prelude.{unwrap_or}
use Rattle.std.specs.Str.{bytes_eq}
use Rattle.otio_model.specs.declared.compositions.ItemOf.{ItemOf}
use Rattle.otio_model.specs.declared.compositions.ItemOf.TheVariants.{Clip, Gap, Transition, Stack, Track}
use Rattle.otio_model.specs.declared.compositions.Listed.{Listed}
use Rattle.otio_model.specs.declared.timelines.Timeline.{Timeline}
use Rattle.otio_model.specs.Trees.{items_of}
use Rattle.coord.specs.Looks.{Look, total}
use Rattle.otio_model.specs.Overlaps.{within}
use Rattle.coord.specs.Sights.{View, sight, looks, exact}
use Rattle.otio_model.specs.Lengths.{trimmed_start}
use Rattle.otio_model.specs.Lengths.{or_zero}
use Rattle.coord.specs.Speeds.{speed_of, media_at}
use Rattle.coord.specs.Programs.{kind_of}

-- The item that is looked for is known by how many items stand before it, counted from where the
-- list is looked at; none where it stands further ahead.

-- counted from after one more item
abbrev pub passed : Option ℕ → Option ℕ
passed None = None
passed (Some zero) = None
passed (Some (suc k)) = Some k

abbrev pub is_here : Option ℕ → Bool
is_here None = false
is_here (Some zero) = true
is_here (Some (suc k)) = false

-- whether it is the first item of the list that is no transition
abbrev pub is_next : Option ℕ → List Look → Bool
is_next k [] = false
is_next k (x ∷ l) = elim x.overlap [ None ↦ is_here k | Some o ↦ is_next (passed k) l ]

-- whether it is a side of the first overlap that holds w, where `last` says whether it is the item
-- before the list; none where no overlap holds w
abbrev pub is_side : Option ℕ → Bool → List Look → ℤ → Option Bool
is_side k last [] w = None
is_side k last (x ∷ l) w = elim x.overlap [
  | None ↦ is_side (passed k) (is_here k) l (w -ℤ x.length)
  | Some o ↦ cond (within (pos 0 -ℤ o.before) o.after w)
      (Some (last || is_next (passed k) l))
      (is_side (passed k) last l w)
]

-- whether it is the item that holds w
abbrev pub is_holder : Option ℕ → List Look → ℤ → Bool
is_holder k [] w = false
is_holder k (x ∷ l) w =
    cond (within (pos 0) x.length w) (is_here k) (is_holder (passed k) l (w -ℤ x.length))

-- whether a track's list, asked at w, asks its item k
abbrev pub asks : ℕ → List Look → ℤ → Bool
asks k l w =
    within (pos 0) (total l) w && unwrap_or (is_side (Some k) false l w) (is_holder (Some k) l w)

-- whether it holds w, where all the items start at 0
abbrev pub is_above : Option ℕ → List Look → ℤ → Bool
is_above k [] w = false
is_above k (x ∷ l) w = (is_here k && within (pos 0) x.length w) || is_above (passed k) l w

abbrev pub where_so : Bool → ℤ → Option ℤ
where_so true w = Some w
where_so false w = None

-- the instant in item k that a track's list reaches at w
abbrev pub reached : ℕ → List Look → ℤ → Option ℤ
reached k l w = where_so (asks k l w) (w -ℤ total (take k l))

-- and the one that a stack's children reach
abbrev pub reached_above : ℕ → List Look → ℤ → Option ℤ
reached_above k l w = where_so (is_above (Some k) l w) w

-- where an item's children stand at its instant u
abbrev pub inner : ItemOf Listed → ℤ → ℤ
inner x u = media_at (trimmed_start x) (speed_of x) u

-- the instant that u reaches in the composition at the place below the item
abbrev pub down_from : View → List ℕ → ItemOf Listed → ℤ → Option ℤ
down_from v place (Clip c) u = None
down_from v place (Gap g) u = None
down_from v place (Transition t) u = None
down_from v [] (Stack s) u = where_so s.enabled (inner (Stack s) u)
down_from v (i ∷ place) (Stack s) u = cond s.enabled (option_and_then
    (λ x. option_and_then (down_from v place x)
    (reached_above i (looks v (items_of s.children)) (inner (Stack s) u)))
    (slice_get (items_of s.children) i)) None
down_from v [] (Track t) u = where_so (t.enabled && bytes_eq t.kind v.kind) (inner (Track t) u)
down_from v (i ∷ place) (Track t) u = cond (t.enabled && bytes_eq t.kind v.kind) (option_and_then
    (λ x. option_and_then (down_from v place x)
    (reached i (looks v (items_of t.children)) (inner (Track t) u)))
    (slice_get (items_of t.children) i)) None

-- from a root child; none outside its length
abbrev pub down_in : List ℕ → ℤ → ItemOf Listed → Option ℤ
down_in place u x =
    cond (within (pos 0) (pos (or_zero (sight x).length)) u)
    (down_from (exact (kind_of x)) place x u) None

-- the instant that u reaches in the composition at the place
abbrev pub down : Timeline → List ℕ → ℤ → Option ℤ
down t [] u = None
down t (k ∷ place) u = option_and_then (down_in place u) (slice_get (items_of t.tracks.children) k)
