-- Edits of edges that change nothing but source ranges of children.
use Rattle.std.specs.Prelude.{◌≡◌, ℕ, ◌+◌, ◌≤◌, pos, int_le, Bool, ◌&&◌, List, Option, Some, length}
use Rattle.std.specs.Prelude.{drop, take}
use Rattle.tick_time.specs.declared.rates.Rate.{Rate}
use Rattle.tick_time.specs.declared.spans.Span.{Span}
use Rattle.otio_model.specs.declared.compositions.ItemOf.{ItemOf}
use Rattle.otio_model.specs.declared.compositions.Listed.{Listed}
use Rattle.otio_model.specs.declared.seeks.Seat.{Seat}
use Rattle.otio_model.specs.Retimed.{retimed, with_sources}
use Rattle.edits.specs.Children.{Child, all_made}
use Rattle.edits.specs.Edges.{Held}
use Rattle.edit_plans.specs.declared.replaced_children.Stretch.{Stretch}
use Rattle.edit_plans.specs.declared.retiming.Retiming.{Retiming}
use Rattle.edit_plans.specs.Retimings.{KeepsUnranged}
use Rattle.edit_trim.specs.Changes.{stays}
use Rattle.edit_trim.specs.Founds.{motion_touches}
use Rattle.edit_trim.specs.Motions.{motion_list}
use Rattle.edit_trim.specs.Seats.{IsAt}
use Rattle.edit_trim.specs.declared.edge_moves.Motion.{Motion}
use Rattle.edit_trim.specs.declared.replacements.Shape.{Shape}

-- the children of a stretch
abbrev pub children_in : Stretch → List (ItemOf Listed) → List (ItemOf Listed)
children_in s l = take s.count (drop s.at l)

-- the shape makes no gap, and takes no item away
abbrev pub is_even : Shape → Bool
is_even s = int_le s.gap_before (pos 0) && (int_le s.gap_behind (pos 0)
    && (stays s.before && (stays s.item && stays s.behind)))

-- what becomes of the items are these with the source ranges, one each
pub record AreRanged (rate : Rate) (c : List Child) (l : List (ItemOf Listed))
    (ranges : List (Option Span)) : Type 0 where
  pub made : all_made rate c ≡ Some (with_sources ranges l)
  pub kept : KeepsUnranged ranges l
  pub long : length ranges ≡ length l

-- the motion of the item at the seat gives children these source ranges, and does nothing else
pub record IsRetimedBy (rate : Rate) (l : List (ItemOf Listed)) (s : Seat) (o : Motion)
    (m : Retiming) : Type 0 where
  pub made : (h : Held) → IsAt l s h
      → all_made rate (motion_list o h) ≡ Some (retimed m.at m.ranges.items l)
  pub within : m.at + length m.ranges.items ≤ length l
  pub kept : KeepsUnranged m.ranges.items (drop m.at l)
  pub few : length m.ranges.items ≤ motion_touches l o + 2
