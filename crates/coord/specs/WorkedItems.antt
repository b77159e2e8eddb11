-- What small lists of items show at some frames, worked out by hand at 24 frames a second.
use mathlib.Core.Path.{refl}
use Rattle.std.specs.Prelude.{◌≡◌, ℕ, nat_le, pos, ◌≤ℤ◌, true, List, [], ◌∷◌, map, Some, codes}
use Rattle.limits.specs.Limits.{most_ticks}
use Rattle.tick_time.specs.declared.rates.Rate.{Rate}
use Rattle.tick_time.specs.declared.spans.Span.{Span}
use Rattle.tick_time.specs.declared.times.Time.{Time}
use Rattle.tick_time.specs.Times.{IsWhole}
use Rattle.tick_time.specs.Rates.{unit}
use Rattle.otio_model.specs.declared.effect_types.Effect.{Effect}
use Rattle.otio_model.specs.declared.effect_types.Effect.TheVariants as E
use Rattle.otio_model.specs.declared.compositions.ItemOf.{ItemOf}
use Rattle.otio_model.specs.Plain.{at_speed, gap_with, shot_with, stack_with, track_with, transition_with}
use Rattle.coord.specs.Looks.{Url, Show, Blank, Frame, Mix, list_shows}
use Rattle.coord.specs.Keys.{frame_rate}
use Rattle.coord.specs.Sights.{Sight, exact, seen, sight_by}
use Rattle.coord.specs.Worked.{frames}

-- a rate at which each count of 24ths of a second up to 240 is a time
pub record Clock : Type 0 where
  pub rate : Rate
  pub whole : (n : ℕ) → IsWhole (pos (frames n)) (unit rate.num rate.den)
  pub forward : (n : ℕ) → pos 0 ≤ℤ pos (frames n)
  pub high : (n : ℕ) → nat_le n 240 ≡ true → pos (frames n) ≤ℤ pos most_ticks

-- so many 24ths of a second
abbrev pub time : Clock → (n : ℕ) → nat_le n 240 ≡ true → Time
time c n few = record {
  ticks = pos (frames n);
  rate = c.rate;
  low = record { le = tt };
  high = c.high n few;
  whole = c.whole n;
}

-- so many of them from one on
abbrev pub span : Clock → (start length : ℕ) → nat_le start 240 ≡ true → nat_le length 240 ≡ true
    → Span
span c start length early short = record {
  start = time c start early;
  len = time c length short;
  forward = c.forward length;
}

-- children are given by how they look
abbrev pub Item : Type 0
Item = ItemOf (List Sight)

-- a clip of the first 240 frames of a file, with a source_range and effects
abbrev pub clip : Clock → List ℕ → Span → List Effect → Item
clip c url range effects =
    shot_with (codes "n") (Some range) effects (Some (span c 0 240 refl refl)) url

abbrev pub gap : Span → Item
gap range = gap_with (Some range)

abbrev pub dissolve : Time → Time → Item
dissolve before after = transition_with (codes "SMPTE_Dissolve") (Some before) (Some after)

-- twice the speed, and none
abbrev pub twice : List Effect
twice = at_speed (pos 2000000)

abbrev pub still : List Effect
still = E.Freeze (record {
  metadata = [];
  name = [];
  effect_name = [];
  time_scalar = pos 0;
  rest =
      [];
}) ∷ []

abbrev pub look : Item → Sight
look = sight_by (λ l. l)

-- a stack of one track of two clips of 30 frames, of which 20 are shown at twice the speed
abbrev pub stack : Clock → Item
stack c = stack_with (Some (span c 0 20 refl refl)) twice (look (track_with (codes "Video") []
    (look (clip c (codes "q.mov") (span c 0 30 refl refl) [])
    ∷ look (clip c (codes "r.mov") (span c 0 30 refl refl) []) ∷ [])) ∷ [])

-- a dissolve of 12 frames round a cut
abbrev pub cut : Clock → List Item
cut c = clip c (codes "a.mov") (span c 24 48 refl refl) []
    ∷ dissolve (time c 6 refl) (time c 6 refl)
    ∷ clip c (codes "b.mov") (span c 100 48 refl refl) [] ∷ []

-- a clip at twice its speed behind a gap
abbrev pub sped : Clock → List Item
sped c = gap (span c 0 72 refl refl) ∷ clip c (codes "c.mov") (span c 40 12 refl refl) twice ∷ []

-- the stack between two clips
abbrev pub nested : Clock → List Item
nested c = clip c (codes "p.mov") (span c 0 10 refl refl) []
    ∷ stack c
    ∷ clip c (codes "z.mov") (span c 0 10 refl refl) [] ∷ []

-- a dissolve to a still, behind a clip of no length and without it
abbrev pub from_empty : Clock → List Item
from_empty c = clip c (codes "A1") (span c 24 24 refl refl) []
    ∷ clip c (codes "A1") (span c 72 0 refl refl) []
    ∷ dissolve (time c 0 refl) (time c 12 refl)
    ∷ clip c (codes "A1") (span c 120 24 refl refl) still ∷ []

abbrev pub to_still : Clock → List Item
to_still c = clip c (codes "A1") (span c 24 24 refl refl) []
    ∷ dissolve (time c 0 refl) (time c 12 refl)
    ∷ clip c (codes "A1") (span c 120 24 refl refl) still ∷ []

-- a dissolve of 24 frames, and the same with the cut where it begins
abbrev pub joined : Clock → List Item
joined c = clip c (codes "a.mov") (span c 100 48 refl refl) []
    ∷ dissolve (time c 10 refl) (time c 14 refl)
    ∷ clip c (codes "b.mov") (span c 200 48 refl refl) [] ∷ []

abbrev pub conformed : Clock → List Item
conformed c = clip c (codes "a.mov") (span c 100 38 refl refl) []
    ∷ dissolve (time c 0 refl) (time c 24 refl)
    ∷ clip c (codes "b.mov") (span c 190 58 refl refl) [] ∷ []

-- what a list shows at a frame
abbrev pub shows : List Item → ℕ → Show
shows l n = list_shows (map (λ x. seen (exact (codes "Video")) (look x)) l) (pos (frames n))

-- a frame of a file
abbrev pub frame_of : Clock → List ℕ → ℕ → Show
frame_of c url m = Frame (Url url) (pos (frames m)) (frame_rate c.rate)

-- so many parts of so many of one frame of the second file over one of the first
abbrev pub mix_of : Clock → List ℕ → ℕ → List ℕ → ℕ → ℕ → ℕ → Show
mix_of c a m b n num den = Mix (codes "SMPTE_Dissolve") (frame_of c a m) (frame_of c b n)
    (record { num = pos num; den = pos den })

-- what the lists show
pub record AreWorkedItems (c : Clock) : Type 0 where
  pub cut_before : shows (cut c) 41 ≡ frame_of c (codes "a.mov") 65
  pub cut_begins : shows (cut c) 42 ≡ mix_of c (codes "a.mov") 66 (codes "b.mov") 94 0 1
  pub cut_ends : shows (cut c) 53 ≡ mix_of c (codes "a.mov") 77 (codes "b.mov") 105 11 12
  pub cut_behind : shows (cut c) 54 ≡ frame_of c (codes "b.mov") 106
  pub gap_last : shows (sped c) 71 ≡ Blank
  pub sped_first : shows (sped c) 72 ≡ frame_of c (codes "c.mov") 40
  pub sped_second : shows (sped c) 73 ≡ frame_of c (codes "c.mov") 42
  pub sped_last : shows (sped c) 83 ≡ frame_of c (codes "c.mov") 62
  pub sped_behind : shows (sped c) 84 ≡ Blank
  pub nested_before : shows (nested c) 9 ≡ frame_of c (codes "p.mov") 9
  pub nested_third : shows (nested c) 12 ≡ frame_of c (codes "q.mov") 4
  pub nested_fourth : shows (nested c) 13 ≡ frame_of c (codes "q.mov") 6
  pub nested_fifth : shows (nested c) 14 ≡ frame_of c (codes "q.mov") 8
  pub nested_sixth : shows (nested c) 15 ≡ frame_of c (codes "q.mov") 10
  pub nested_last : shows (nested c) 29 ≡ frame_of c (codes "r.mov") 8
  pub nested_behind : shows (nested c) 30 ≡ frame_of c (codes "z.mov") 0
  pub nested_end : shows (nested c) 40 ≡ Blank
  pub empty_half : shows (from_empty c) 30 ≡ mix_of c (codes "A1") 78 (codes "A1") 120 1 2
  pub still_before : shows (to_still c) 23 ≡ frame_of c (codes "A1") 47
  pub still_begins : shows (to_still c) 24 ≡ mix_of c (codes "A1") 48 (codes "A1") 120 0 1
  pub still_half : shows (to_still c) 30 ≡ mix_of c (codes "A1") 54 (codes "A1") 120 1 2
  pub still_behind : shows (to_still c) 36 ≡ frame_of c (codes "A1") 120
  pub joined_mixed : shows (joined c) 43 ≡ mix_of c (codes "a.mov") 143 (codes "b.mov") 195 5 24
  pub conformed_mixed : shows (conformed c) 43
      ≡ mix_of c (codes "a.mov") 143 (codes "b.mov") 195 5 24

-- there is such a clock of 24 frames a second
pub record IsClock24 (c : Clock) : Type 0 where
  pub num : c.rate.num ≡ pos 24
  pub den : c.rate.den ≡ pos 1
