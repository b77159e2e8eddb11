-- What lists show, where each item is known by its length, by what it shows at each instant, and by
-- its overlap if it is a transition.
use Rattle.std.specs.Prelude.{ℕ, ◌/◌, ◌%◌, suc, zero, ℤ, pos, ◌+ℤ◌, ◌-ℤ◌, unsigned_abs, Bool, true, false, ◌&&◌, cond, List, [], ◌∷◌, Option, Some, None, unwrap_or}
use Rattle.otio_model.specs.Overlaps.{within}

-- what a clip's frames are known by: a URL, the three texts of an image sequence, a generator's
-- kind, a reel, or the clip's name
pub data Key : Type 0 where
  Url : List ℕ → Key
  Sequence : List ℕ → List ℕ → List ℕ → Key
  Generator : List ℕ → Key
  Reel : List ℕ → Key
  Name : List ℕ → Key

-- frames a second, num / den
pub record FrameRate : Type 0 where
  pub num : ℤ
  pub den : ℤ

-- how much of a mix is its second side, num / den in lowest terms
pub record Weight : Type 0 where
  pub num : ℤ
  pub den : ℤ

-- nothing, a frame of a key at an instant of its media and at their rate, or a mix of two by a
-- transition of a type
pub data Show : Type 0 where
  Blank : Show
  Frame : Key → ℤ → FrameRate → Show
  Mix : List ℕ → Show → Show → Weight → Show

-- a transition's overlap: its type, how long before its cut it begins, and how long behind it ends
pub record Overlap : Type 0 where
  pub kind : List ℕ
  pub before : ℤ
  pub after : ℤ

-- an item as its list sees it; a transition has an overlap and the length 0
pub record Look : Type 0 where
  pub length : ℤ
  pub shows : ℤ → Show
  pub overlap : Option Overlap

abbrev pub is_blank : Show → Bool
is_blank Blank = true
is_blank (Frame key m rate) = false
is_blank (Mix kind from to weight) = false

abbrev pub blank : ℤ → Show
blank w = Blank

-- the greatest common divisor by Euclid's steps, at most so many of them
abbrev pub divisor_in : ℕ → ℕ → ℕ → ℕ
divisor_in zero a b = a
divisor_in (suc steps) a zero = a
divisor_in (suc steps) a (suc b) = divisor_in steps (suc b) (a % suc b)

abbrev pub divisor : ℕ → ℕ → ℕ
divisor a b = divisor_in (suc b) a b

-- a / b in lowest terms
abbrev pub weight : ℕ → ℕ → Weight
weight a b = record { num = pos (a / divisor a b); den = pos (b / divisor a b) }

-- a mix of two that are Blank is Blank
abbrev pub mixed : List ℕ → Show → Show → ℤ → ℤ → Show
mixed kind from to part whole =
    cond (is_blank from && is_blank to) Blank
    (Mix kind from to (weight (unsigned_abs part) (unsigned_abs whole)))

-- the lengths added up
abbrev pub total : List Look → ℤ
total [] = pos 0
total (x ∷ l) = x.length +ℤ total l

-- what the item that holds w shows, with w counted from the list's start
abbrev pub item_shows : List Look → ℤ → Show
item_shows [] w = Blank
item_shows (x ∷ l) w = cond (within (pos 0) x.length w) (x.shows w) (item_shows l (w -ℤ x.length))

-- what the first item of the list that is no transition shows at w from the list's start, also
-- before it begins
abbrev pub next_shows : List Look → ℤ → Show
next_shows [] w = Blank
next_shows (x ∷ l) w = elim x.overlap [ None ↦ x.shows w | Some o ↦ next_shows l w ]

-- what an item shows, counted from its end
abbrev pub from_end : Look → ℤ → Show
from_end x w = x.shows (w +ℤ x.length)

-- the mix of the first overlap that holds w; `last` is what the item before the list shows, counted
-- from the list's start
abbrev pub mix_shows : (ℤ → Show) → List Look → ℤ → Option Show
mix_shows last [] w = None
mix_shows last (x ∷ l) w = elim x.overlap [
  | None ↦ mix_shows (from_end x) l (w -ℤ x.length)
  | Some o ↦ cond (within (pos 0 -ℤ o.before) o.after w)
      (Some (mixed o.kind (last w) (next_shows l w) (w +ℤ o.before) (o.before +ℤ o.after)))
      (mix_shows last l w)
]

-- what a list shows at w: the mix of the first overlap that holds w, else what the item that holds
-- w shows
abbrev pub list_shows : List Look → ℤ → Show
list_shows l w = unwrap_or (mix_shows blank l w) (item_shows l w)

-- what a stack's children show at w: the last one that holds w and isn't Blank there
abbrev pub stack_shows : List Look → ℤ → Show
stack_shows [] w = Blank
stack_shows (x ∷ l) w = cond (is_blank (stack_shows l w))
    (cond (within (pos 0) x.length w) (x.shows w) Blank) (stack_shows l w)

-- what a track's list shows at w, Blank outside its available range
abbrev pub track_shows : List Look → ℤ → Show
track_shows l w = cond (within (pos 0) (total l) w) (list_shows l w) Blank
