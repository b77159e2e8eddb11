-- What is seen at a record frame: what a timeline shows, its frames by their numbers, its mixes by
-- their kinds.
use Rattle.std.specs.Prelude.{ℕ, ◌+◌, ◌*◌, ◌-◌, nat_le, Bool, true, false, ◌&&◌, cond, ℤ, pos, List, [], ◌∷◌, Option, Some, None, codes, drop, take}
use Rattle.std.specs.Int.{int_div_euclid}
use Rattle.std.specs.Str.{bytes_eq}
use Rattle.coord.specs.Looks.{Key, FrameRate, Weight, Show, Blank, Frame, Mix}
use Rattle.coord.specs.Programs.{frame_ticks}

-- the kind of a mix: a dissolve, a wipe by its code (SMPTE 258M), or another type of transition
pub data Kind : Type 0 where
  Dissolve : Kind
  Wipe : ℕ → Kind
  Other : List ℕ → Kind

-- nothing, a frame of a key by its number, or a mix of two of a kind, the second with this weight
pub data Image : Type 0 where
  Empty : Image
  Single : Key → ℤ → Image
  Mixture : Kind → Image → Image → Weight → Image

abbrev pub is_digit : ℕ → Bool
is_digit b = nat_le 48 b && nat_le b 57

-- the number that three digits spell
abbrev pub three_digits : List ℕ → Option ℕ
three_digits (a ∷ b ∷ c ∷ []) =
    cond (is_digit a && (is_digit b && is_digit c))
    (Some ((100 * (a - 48)) + ((10 * (b - 48)) + (c - 48)))) None
three_digits other = None

-- the code of the wipe that a type names: three digits behind SMPTE_Wipe_
abbrev pub wipe_code : List ℕ → Option ℕ
wipe_code text = cond (bytes_eq (take 11 text) (codes "SMPTE_Wipe_"))
    (three_digits (drop 11 text)) None

-- a wipe of a code, else a transition of another type
abbrev pub wipe_or_other : Option ℕ → List ℕ → Kind
wipe_or_other None text = Other text
wipe_or_other (Some code) text = Wipe code

-- the kind of mix that a transition of this type makes
abbrev pub kind_of : List ℕ → Kind
kind_of text = cond (bytes_eq text (codes "SMPTE_Dissolve")) Dissolve
    (wipe_or_other (wipe_code text) text)

-- the number of the frame at an instant of media at a rate
abbrev pub frame_number : ℤ → FrameRate → ℤ
frame_number m rate = int_div_euclid m (pos (frame_ticks rate))

-- what is seen where this is shown
abbrev pub image : Show → Image
image Blank = Empty
image (Frame key m rate) = Single key (frame_number m rate)
image (Mix type from to weight) = Mixture (kind_of type) (image from) (image to) weight

-- whether nothing is seen
abbrev pub is_empty : Image → Bool
is_empty Empty = true
is_empty (Single key number) = false
is_empty (Mixture kind from to weight) = false

-- whether two are mixed
abbrev pub is_mix : Show → Bool
is_mix Blank = false
is_mix (Frame key m rate) = false
is_mix (Mix type from to weight) = true
