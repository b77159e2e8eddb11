-- What becomes of an item and of what stands beside it.
use Rattle.std.specs.Prelude.{pos, ◌+ℤ◌, ◌-ℤ◌, ◌≤ℤ◌, Bool, true, List, ◌++◌}
use Rattle.otio_model.specs.declared.compositions.ItemOf.{ItemOf}
use Rattle.otio_model.specs.declared.compositions.Listed.{Listed}
use Rattle.edits.specs.Children.{Child, ticks}
use Rattle.edits.specs.Edges.{Held, Zone, left_before, left_behind, first_changed, last_changed}
use Rattle.edits.specs.Edges.{one, moved, grown, slipped_item, gap_of, is_zero}
use Rattle.edit_plans.specs.Bounds.{IsMove}
use Rattle.edit_trim.specs.declared.resized_items.Change.{Change}
use Rattle.edit_trim.specs.declared.resized_items.Change.TheVariants as C
use Rattle.edit_trim.specs.declared.replacements.Shape.{Shape}

abbrev pub changed : Change → ItemOf Listed → List Child
changed (C.Move head tail) x = one (moved head tail x)
changed (C.Grow by) x = grown by x
changed (C.Slip by) x = one (slipped_item by x)

-- the numbers of a change are moves
abbrev pub IsChange : Change → Type 0
IsChange (C.Move head tail) = IsMove head × IsMove tail
IsChange (C.Grow by) = IsMove by
IsChange (C.Slip by) = IsMove by

-- the item stays, whatever becomes of its edges
abbrev pub stays : Change → Bool
stays (C.Move head tail) = true
stays (C.Grow by) = is_zero by
stays (C.Slip by) = true

-- a length is left of the item
abbrev pub Leaves : Change → ItemOf Listed → Type 0
Leaves (C.Move head tail) x = pos 0 ≤ℤ ((ticks x -ℤ head) +ℤ tail)
Leaves (C.Grow by) x = Unit {0}
Leaves (C.Slip by) x = Unit {0}

-- what comes in place of what stands before the zone's transitions, of the item, and behind it
abbrev pub parts : Shape → List (ItemOf Listed) → ItemOf Listed → List (ItemOf Listed) → List Child
parts s l x r =
    last_changed (changed s.before) l
    ++ (gap_of s.gap_before
    ++ (changed s.item x ++ (gap_of s.gap_behind ++ first_changed (changed s.behind) r)))

-- the list where the zone's transitions go
abbrev pub reshaped : Held → Zone → Shape → List Child
reshaped h z s = parts s (left_before h z) h.item (left_behind h z)
