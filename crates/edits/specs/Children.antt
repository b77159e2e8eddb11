-- The children of a list to be: old ones, and items with another range.
use Rattle.std.specs.Prelude.{ℤ, pos, Bool, false, ◌||◌, not, List, [], ◌∷◌, map, Option, Some, None, option_map}
use Rattle.tick_time.specs.declared.rates.Rate.{Rate}
use Rattle.tick_time.specs.declared.spans.Span.{Span}
use Rattle.otio_model.specs.declared.compositions.ItemOf.{ItemOf}
use Rattle.otio_model.specs.declared.compositions.ItemOf.TheVariants.{Clip, Gap, Transition, Stack, Track}
use Rattle.otio_model.specs.declared.compositions.Listed.{Listed}
use Rattle.otio_model.specs.Lengths.{clip_range, or_zero}
pub use Rattle.otio_model.specs.Plain.{plain_gap}
use Rattle.coord.specs.Looks.{Look}
use Rattle.coord.specs.Speeds.{speed_of, media_at}
use Rattle.coord.specs.Sights.{View, sight, sights, seen, shows_inside, overlap_of}
use Rattle.edits.specs.Finest.{in_range}
use Rattle.edits.specs.Nears.{near, span_of}

-- a child as it was, or an item that has this start and this length, in ticks
pub data Child : Type 0 where
  Old : ItemOf Listed → Child
  Ranged : ItemOf Listed → ℤ → ℤ → Child

-- how long an item is in its list, in ticks
abbrev pub ticks : ItemOf Listed → ℤ
ticks x = pos (or_zero (sight x).length)

abbrev pub child_ticks : Child → ℤ
child_ticks (Old x) = ticks x
child_ticks (Ranged x s n) = n

-- how a child looks
abbrev pub seen_child : View → Child → Look
seen_child v (Old x) = seen v (sight x)
seen_child v (Ranged x s n) =
    record {
      length = n;
      shows = λ u. shows_inside sights x v (media_at s (speed_of x) u);
      overlap = overlap_of x;
    }

abbrev pub child_looks : View → List Child → List Look
child_looks v l = map (seen_child v) l

-- a new gap of so many ticks
abbrev pub new_gap : ℤ → Child
new_gap n = Ranged plain_gap (pos 0) n

-- the item with another range; a transition has none
abbrev pub with_range : Span → ItemOf Listed → ItemOf Listed
with_range s (Clip c) = Clip (record c { source_range = Some s })
with_range s (Gap g) = Gap (record g { source_range = Some s })
with_range s (Transition t) = Transition t
with_range s (Stack k) = Stack (record k { source_range = Some s })
with_range s (Track t) = Track (record t { source_range = Some s })

-- the range by whose rates an item's times are counted: its own, else that of a clip's media
abbrev pub old_range : ItemOf Listed → Option Span
old_range (Clip c) = elim c.source_range [ None ↦ clip_range c | Some s ↦ Some s ]
old_range (Gap g) = g.source_range
old_range (Transition t) = None
old_range (Stack k) = k.source_range
old_range (Track t) = t.source_range

-- the rates of an item's start and length, where an item without a range counts at the record rate
abbrev pub start_rate : Rate → ItemOf Listed → Rate
start_rate r x = elim (old_range x) [ None ↦ r | Some s ↦ s.start.rate ]

abbrev pub length_rate : Rate → ItemOf Listed → Rate
length_rate r x = elim (old_range x) [ None ↦ r | Some s ↦ s.len.rate ]

-- the item that a child is, at a record rate; none where its start or its length is out of range
abbrev pub made : Rate → Child → Option (ItemOf Listed)
made r (Old x) = Some x
made r (Ranged x s n) =
    option_map (λ w. with_range w x) (span_of (near s (start_rate r x)) (near n (length_rate r x)))

abbrev pub with_first : {A : Type 0} → Option A → Option (List A) → Option (List A)
with_first None o = None
with_first (Some a) None = None
with_first (Some a) (Some l) = Some (a ∷ l)

-- the list of items that the children are
abbrev pub all_made : Rate → List Child → Option (List (ItemOf Listed))
all_made r [] = Some []
all_made r (c ∷ l) = with_first (made r c) (all_made r l)

-- a start or a length is out of range
abbrev pub is_far : Child → Bool
is_far (Old x) = false
is_far (Ranged x s n) = not (in_range s) || not (in_range n)

abbrev pub has_far : List Child → Bool
has_far [] = false
has_far (c ∷ l) = is_far c || has_far l
