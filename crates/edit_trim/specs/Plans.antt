-- What a plan of an edit of edges makes of the children that it touches.
use Rattle.std.specs.Prelude.{◌≡◌, ℕ, ◌+◌, ◌≤◌, List, Some, length}
use Rattle.tick_time.specs.declared.rates.Rate.{Rate}
use Rattle.otio_model.specs.declared.compositions.ItemOf.{ItemOf}
use Rattle.otio_model.specs.declared.compositions.Listed.{Listed}
use Rattle.otio_model.specs.declared.edit_types.Edit.{Edit}
use Rattle.otio_model.specs.declared.seeks.Seat.{Seat}
use Rattle.otio_model.specs.declared.timelines.Timeline.{Timeline}
use Rattle.otio_model.specs.Edits.{replaced}
use Rattle.edits.specs.Children.{all_made}
use Rattle.edits.specs.Edges.{Held}
use Rattle.edit_plans.specs.declared.replaced_children.Middle.{Middle}
use Rattle.edit_plans.specs.Planned.{IsMiddle, IsRetiming}
use Rattle.edit_trim.specs.Founds.{motion_touches}
use Rattle.edit_trim.specs.Motions.{motion_list}
use Rattle.edit_trim.specs.Retimes.{IsRetimedBy}
use Rattle.edit_trim.specs.Seats.{IsAt}
use Rattle.edit_trim.specs.declared.edge_moves.Motion.{Motion}
use Rattle.edit_trim.specs.declared.edge_planner.Plan.{Plan}
use Rattle.edit_trim.specs.declared.edge_planner.Plan.TheVariants as P

-- the motion of the item at the seat puts others in place of children
pub record IsReplacedBy (rate : Rate) (l : List (ItemOf Listed)) (s : Seat) (o : Motion)
    (m : Middle) : Type 0 where
  pub made : (h : Held) → IsAt l s h
      → all_made rate (motion_list o h) ≡ Some (replaced m.at m.count m.put.items l)
  pub within : m.at + m.count ≤ length l
  pub count : m.count ≤ motion_touches l o + 2
  pub few : length m.put.items ≤ motion_touches l o + 4

abbrev pub IsPlannedBy : Rate → List (ItemOf Listed) → Seat → Motion → Plan → Type 0
IsPlannedBy rate l s o (P.Others m) = IsReplacedBy rate l s o m
IsPlannedBy rate l s o (P.Ranges m) = IsRetimedBy rate l s o m

-- so does the edit of the track at the place
abbrev pub IsPlanned : Timeline → Edit → List ℕ → Plan → Type 0
IsPlanned t e place (P.Others m) = IsMiddle t e place m.at m.count m.put.items
IsPlanned t e place (P.Ranges m) = IsRetiming t e place m.at m.ranges.items
