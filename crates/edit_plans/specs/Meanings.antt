-- The values of the code as those of the definitions.
use Rattle.std.specs.Prelude.{ℤ, pos, Option, Some, None}
use Rattle.otio_model.specs.declared.compositions.ItemOf.{ItemOf}
use Rattle.otio_model.specs.declared.compositions.Listed.{Listed}
use Rattle.edits.specs.Edges as edges
use Rattle.edit_plans.specs.declared.moves.Moves.{Moves}
use Rattle.edit_plans.specs.declared.media_handles.Handles.{Handles}

abbrev pub handles_of : Handles → edges.Handles
handles_of r = record { before = r.before; behind = r.behind }

abbrev pub moves_of : Moves → edges.Moves
moves_of m = record { head = m.head; tail = m.tail }

-- how long the gap is that stands before an item
abbrev pub gap_of_before : Option (ItemOf Listed) → ℤ
gap_of_before o = elim o [ None ↦ pos 0 | Some y ↦ edges.gap_ticks y ]
