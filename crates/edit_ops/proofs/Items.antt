-- Items that may be put into a track are short.
use Rattle.std.proofs.Common.{◌≤◌, ℤ, pos, ◌≤ℤ◌, arith}
use Rattle.std.proofs.lemmas.Int.{ints}
use Rattle.limits.specs.Limits.{most_ticks}
use Rattle.otio_model.specs.declared.compositions.ItemOf.{ItemOf}
use Rattle.otio_model.specs.declared.compositions.ItemOf.TheVariants.{Clip, Gap, Transition, Stack, Track}
use Rattle.otio_model.specs.declared.compositions.Listed.{Listed}
use Rattle.otio_model.specs.Lengths.{clip_range, length_of, or_zero}
use Rattle.otio_model.proofs.LengthLimits.{clip_small, gap_small}
use Rattle.edits.specs.Children.{ticks}
use Rattle.edits_law.specs.Editable.{IsEditItem}
use Rattle.pieces.specs.Short.{IsShort}
use Rattle.pieces.proofs.Grown.{ticks_are}

short_by : (x : ItemOf Listed) → or_zero (length_of x) ≤ most_ticks → ticks x ≤ℤ pos most_ticks
short_by x h = let e = ticks_are x in omega (arith, ints, h, e)

pub short_item : (x : ItemOf Listed) → IsEditItem x → IsShort x
short_item (Clip c) i = record {
  few = omega arith;
  short = short_by (Clip c) (clip_small c.source_range (clip_range c));
}
short_item (Gap g) i = record {
  few = omega arith;
  short = short_by (Gap g) (gap_small g.source_range);
}
short_item (Transition t) i = absurd (cc i.kind)
short_item (Stack s) i = absurd (cc i.kind)
short_item (Track t) i = absurd (cc i.kind)

pub ruleset short_items = (short_item)
