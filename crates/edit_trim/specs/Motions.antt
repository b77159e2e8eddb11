-- What edits of edges do to the held item and to what stands beside it.
use Rattle.std.specs.Prelude.{◌≡◌, ℤ, pos, ◌+ℤ◌, ◌*ℤ◌, List, ◌∷◌, ◌++◌, Option, Some, None}
use Rattle.std.specs.Prelude.{option_map}
use Rattle.std.specs.Int.{int_max}
use Rattle.otio_model.specs.declared.compositions.ItemOf.{ItemOf}
use Rattle.otio_model.specs.declared.compositions.Listed.{Listed}
use Rattle.edits.specs.Children.{Child}
use Rattle.edits.specs.Cuts.{olds}
use Rattle.edits.specs.Edges.{Held, Zone, added, item_zone, last_item, moves_zone, slide_zone}
use Rattle.edits.specs.Edges.{slipped, slipped_item, slide_by, slid, ripple_by, rippled}
use Rattle.edits.specs.Edges.{trim_by, trimmed, roll_by, rolled}
use Rattle.edits.specs.Edits.{beside, in_ticks}
use Rattle.edits.specs.Refusals.{long}
use Rattle.edit_plans.specs.Bounds.{IsMove}
use Rattle.edit_trim.specs.Changes.{reshaped}
use Rattle.edit_trim.specs.Seats.{IsRound, IsShape, LeavesAll, zone_of}
use Rattle.edit_trim.specs.declared.edge_edits.EdgeEdit.{EdgeEdit}
use Rattle.edit_trim.specs.declared.edge_edits.EdgeEdit.TheVariants as M
use Rattle.edit_trim.specs.declared.edge_moves.Motion.{Motion}
use Rattle.edit_trim.specs.declared.edge_moves.Motion.TheVariants as W

-- the list that an edit makes round the held item, with frames of f ticks
abbrev pub held_list : ℤ → EdgeEdit → Held → List Child
held_list f (M.Trim head tail) h = trimmed h (trim_by f h (in_ticks f head tail))
held_list f (M.Slip by) h = slipped f h (by *ℤ f)
held_list f (M.Slide by) h = beside h (λ y. slid h (slide_by f y (by *ℤ f)))
held_list f (M.Ripple head tail) h = rippled h (ripple_by f h.item (in_ticks f head tail))
held_list f (M.Roll head tail) h = rolled h (roll_by f h (in_ticks f head tail))

-- and its zone
abbrev pub held_zone : ℤ → EdgeEdit → Held → Option Zone
held_zone f (M.Trim head tail) h = Some (moves_zone h (trim_by f h (in_ticks f head tail)))
held_zone f (M.Slip by) h = None
held_zone f (M.Slide by) h =
    option_map (λ y. slide_zone h (slide_by f y (by *ℤ f))) (last_item h.before)
held_zone f (M.Ripple head tail) h = Some (item_zone h)
held_zone f (M.Roll head tail) h = Some (moves_zone h (roll_by f h (in_ticks f head tail)))

-- the list that a motion makes
abbrev pub motion_list : Motion → Held → List Child
motion_list (W.Media by) h = olds h.before ++ (slipped_item by h.item ∷ olds h.behind)
motion_list (W.Edges zone shape growth) h = reshaped h (zone_of zone) shape

-- its zone
abbrev pub motion_zone : Motion → Option Zone
motion_zone (W.Media by) = None
motion_zone (W.Edges zone shape growth) = Some (zone_of zone)

-- by how much the list grows
abbrev pub growth_of : Motion → ℤ
growth_of (W.Media by) = pos 0
growth_of (W.Edges zone shape growth) = growth

-- its numbers are moves, and it leaves what it has to
abbrev pub Suits : Motion → Held → Type 0
Suits (W.Media by) h = IsMove by
Suits (W.Edges zone shape growth) h =
    IsShape shape × LeavesAll shape h.before h.item h.behind × IsRound h zone shape

-- by how much a trimmed track grows: only at its end
abbrev pub trim_growth : Option (ItemOf Listed) → ℤ → ℤ
trim_growth None tail = int_max (pos 0) tail
trim_growth (Some y) tail = pos 0

-- the edit of the held item is this motion
pub record IsMotion (f : ℤ) (m : EdgeEdit) (h : Held) (w : Motion) : Type 0 where
  pub made : held_list f m h ≡ motion_list w h
  pub zone : held_zone f m h ≡ motion_zone w
  pub grows : long (held_list f m h) ≡ (added (h.before ++ (h.item ∷ h.behind)) +ℤ growth_of w)
  pub suits : Suits w h
