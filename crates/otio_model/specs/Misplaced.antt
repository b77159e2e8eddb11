-- Transitions that may not stand where they do.
use Rattle.std.specs.Prelude.{pos, int_lt, Bool, false, ◌&&◌, ◌||◌, List, [], ◌∷◌, Option, Some}
use Rattle.std.specs.Prelude.{None}
use Rattle.std.specs.List.{list_any}
use Rattle.tick_time.specs.declared.times.Time.{Time}
use Rattle.otio_model.specs.declared.compositions.ItemOf.{ItemOf}
use Rattle.otio_model.specs.declared.compositions.ItemOf.TheVariants.{Clip, Gap, Transition, Stack}
use Rattle.otio_model.specs.declared.compositions.ItemOf.TheVariants.{Track}
use Rattle.otio_model.specs.declared.compositions.Listed.{Listed}
use Rattle.otio_model.specs.Trees.{items_of, is_transition}

-- two transitions stand side by side
abbrev pub side_by_side : List (ItemOf Listed) → Bool
side_by_side [] = false
side_by_side (first ∷ []) = false
side_by_side (first ∷ second ∷ items) =
    (is_transition first && is_transition second) || side_by_side (second ∷ items)

-- the offset is below 0
abbrev pub is_negative : Option Time → Bool
is_negative None = false
is_negative (Some time) = int_lt time.ticks (pos 0)

-- the item breaks a rule on transitions: two side by side in a track, one in a stack, a negative
-- offset of its own
abbrev pub has_misplaced : ItemOf Listed → Bool
has_misplaced (Clip c) = false
has_misplaced (Gap g) = false
has_misplaced (Transition t) = is_negative t.in_offset || is_negative t.out_offset
has_misplaced (Stack s) = list_any is_transition (items_of s.children)
has_misplaced (Track t) = side_by_side (items_of t.children)
