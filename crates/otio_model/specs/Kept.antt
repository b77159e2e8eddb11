-- What is kept of a list of items, so that later calls needn't look at each of them.
use Rattle.std.specs.Prelude.{ℕ, ◌+◌, ◌-◌, ◌^◌, IsTrue, cond, min, max, ◌&&◌, ◌||◌, List, [], ◌∷◌}
use Rattle.std.specs.Prelude.{Option}
use Rattle.std.specs.Prelude.{Some, None, map, unsigned_abs}
use Rattle.tick_time.specs.declared.times.Time.{Time}
use Rattle.otio_model.specs.declared.compositions.ItemOf.{ItemOf}
use Rattle.otio_model.specs.declared.compositions.ItemOf.TheVariants.{Clip, Gap, Transition, Stack}
use Rattle.otio_model.specs.declared.compositions.ItemOf.TheVariants.{Track}
use Rattle.otio_model.specs.declared.compositions.Listed.{Listed}
use Rattle.otio_model.specs.declared.length_sums.Totals.{Totals}
use Rattle.otio_model.specs.declared.piece_summary.Kept.{Kept}
use Rattle.otio_model.specs.Counts.{count, count_of, counts_by}
use Rattle.otio_model.specs.Trees.{is_transition}
use Rattle.otio_model.specs.Lengths.{added, length_of, or_zero}
use Rattle.otio_model.specs.Clips.{any_clip, any_clip_by, any_lit, any_lit_by, has_clip, is_lit}
use Rattle.otio_model.specs.Sums.{capped, totals}

-- a number, or the greatest of 64 bits where it is greater
abbrev pub capped_count : ℕ → ℕ
capped_count n = min n (2 ^ 64 - 1)

-- the item is a transition
abbrev pub IsTransition : ItemOf Listed → Type 0
IsTransition x = IsTrue (is_transition x)

-- 1 for a transition, else 0
abbrev pub one_transition : ItemOf Listed → ℕ
one_transition x = cond (is_transition x) 1 0

-- how many transitions a list has
abbrev pub transitions_in : List (ItemOf Listed) → ℕ
transitions_in [] = 0
transitions_in (x ∷ xs) = one_transition x + transitions_in xs

-- how far from its cut an offset lies
abbrev pub offset_reach : Option Time → ℕ
offset_reach None = 0
offset_reach (Some t) = unsigned_abs t.ticks

-- how far a transition's overlap reaches from its cut, at most
abbrev pub reach_of : ItemOf Listed → ℕ
reach_of (Clip c) = 0
reach_of (Gap g) = 0
reach_of (Transition t) = max (offset_reach t.in_offset) (offset_reach t.out_offset)
reach_of (Stack s) = 0
reach_of (Track t) = 0

-- how far the overlaps of a list's transitions reach from their cuts, at most
abbrev pub reach_in : List (ItemOf Listed) → ℕ
reach_in [] = 0
reach_in (x ∷ xs) = max (reach_of x) (reach_in xs)

-- how far before its cut a transition's overlap begins
abbrev pub before_of : ItemOf Listed → ℕ
before_of (Clip c) = 0
before_of (Gap g) = 0
before_of (Transition t) = offset_reach t.in_offset
before_of (Stack s) = 0
before_of (Track t) = 0

-- how far after its cut it ends
abbrev pub after_of : ItemOf Listed → ℕ
after_of (Clip c) = 0
after_of (Gap g) = 0
after_of (Transition t) = offset_reach t.out_offset
after_of (Stack s) = 0
after_of (Track t) = 0

-- how far before a list's start the overlaps of its transitions begin, at most
abbrev pub before_in : List (ItemOf Listed) → ℕ
before_in [] = 0
before_in (x ∷ xs) = max (before_of x) (before_in xs - or_zero (length_of x))

-- how far after its end they end, at most
abbrev pub after_in : List (ItemOf Listed) → ℕ
after_in [] = 0
after_in (x ∷ xs) = max (after_of x - added (map length_of (x ∷ xs))) (after_in xs)

-- what is kept of a list
abbrev pub kept_of : List (ItemOf Listed) → Kept
kept_of xs = record {
  lengths = totals (map length_of xs);
  transitions =
      capped_count (transitions_in xs);
  reach = reach_in xs;
  before = before_in xs;
  after = after_in xs;
  items = capped_count (counts_by count xs);
  clips = any_clip_by any_clip xs;
  lit = any_lit_by any_lit xs;
}

-- what is kept of one item
abbrev pub kept_one : ItemOf Listed → Kept
kept_one x = record {
  lengths = totals (length_of x ∷ []);
  transitions = one_transition x;
  reach = reach_of x;
  before = before_of x;
  after = after_of x;
  items = capped_count (count_of x);
  clips = has_clip x;
  lit = is_lit x;
}

-- the lengths of two lists together
abbrev pub joined_totals : Totals → Totals → Totals
joined_totals a b = record {
  ticks = capped (a.ticks + b.ticks);
  longest = max a.longest b.longest;
  known = a.known && b.known;
}

-- what is kept of two lists, one after the other
abbrev pub joined : Kept → Kept → Kept
joined a b = record {
  lengths = joined_totals a.lengths b.lengths;
  transitions = capped_count (a.transitions + b.transitions);
  reach = max a.reach b.reach;
  before = max a.before (b.before - a.lengths.ticks);
  after = max b.after (a.after - b.lengths.ticks);
  items = capped_count (a.items + b.items);
  clips = a.clips || b.clips;
  lit = a.lit || b.lit;
}
