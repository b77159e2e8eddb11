-- How long the items on the way to a changed track are, and whether one of them is too long.
use Rattle.std.specs.Prelude.{ℕ, pos, ◌-ℤ◌, nat_lt, int_le, Bool, true, false, not, ◌&&◌, ◌||◌}
use Rattle.std.specs.Prelude.{cond, List, [], ◌∷◌, Option, Some, None, option_and_then, is_none}
use Rattle.std.specs.Prelude.{slice_get, unsigned_abs}
use Rattle.limits.specs.Limits.{most_ticks}
use Rattle.otio_model.specs.declared.compositions.ItemOf.{ItemOf}
use Rattle.otio_model.specs.declared.compositions.ItemOf.TheVariants.{Clip, Gap, Transition, Stack}
use Rattle.otio_model.specs.declared.compositions.ItemOf.TheVariants.{Track}
use Rattle.otio_model.specs.declared.compositions.Listed.{Listed}
use Rattle.otio_model.specs.declared.timelines.Timeline.{Timeline}
use Rattle.otio_model.specs.Edits.{changed}
use Rattle.otio_model.specs.Lengths.{added, lengths, source_of}
use Rattle.otio_model.specs.Sums.{greatest}
use Rattle.otio_model.specs.Trees.{children_of, items_of}
use Rattle.coord.specs.declared.faults.ItemFault.{ItemFault}
use Rattle.coord.specs.declared.faults.ItemFault.TheVariants.{NoLength, Speed, Long}
use Rattle.coord.specs.Soundness.{fault_of, media_end, most_end}

-- the lengths with another one at an index
abbrev pub with_ticks : ℕ → ℕ → List (Option ℕ) → List (Option ℕ)
with_ticks i n l = changed (λ o. Some n) i l

-- how much is available in a composition whose child at the index is so long
abbrev pub available_with : ItemOf Listed → ℕ → ℕ → ℕ
available_with (Clip c) i n = 0
available_with (Gap g) i n = 0
available_with (Transition t) i n = 0
available_with (Stack s) i n = greatest (with_ticks i n (lengths s.children))
available_with (Track t) i n = added (with_ticks i n (lengths t.children))

-- how long an item is in which so much is available
abbrev pub ticks_with : ItemOf Listed → ℕ → ℕ
ticks_with x a = elim (source_of x) [ None ↦ a | Some s ↦ unsigned_abs s.len.ticks ]

-- an item so long, in which so much is available, passes a million seconds
abbrev pub is_long_with : ItemOf Listed → ℕ → ℕ → Bool
is_long_with x a n = nat_lt most_ticks n
    || (nat_lt most_ticks a
    || not (int_le (pos 0 -ℤ most_end) (media_end x n) && int_le (media_end x n) most_end))

-- how long an item is in which so much is available; none where it is too long
abbrev pub short_ticks : ItemOf Listed → ℕ → Option ℕ
short_ticks x a = cond (is_long_with x a (ticks_with x a)) None (Some (ticks_with x a))

-- the same by the child at the index, whose new length the function gives
abbrev pub at_child : (ItemOf Listed → Option ℕ) → ItemOf Listed → ℕ → Option (ItemOf Listed)
    → Option ℕ
at_child f x i None = None
at_child f x i (Some y) = option_and_then (λ n. short_ticks x (available_with x i n)) (f y)

abbrev pub at_children : (ItemOf Listed → Option ℕ) → ItemOf Listed → ℕ → Option Listed → Option ℕ
at_children f x i None = None
at_children f x i (Some l) = at_child f x i (slice_get (items_of l) i)

-- how long the item is once the children of the track to which the place leads are so long
-- together; none where it is too long, or one on the way
abbrev pub way_ticks : List ℕ → ℕ → ItemOf Listed → Option ℕ
way_ticks [] sum x = short_ticks x sum
way_ticks (i ∷ place) sum x = at_children (way_ticks place sum) x i (children_of x)

-- one of them is too long; the root stack isn't asked
abbrev pub is_way_long : List ℕ → ℕ → Timeline → Bool
is_way_long [] sum t = false
is_way_long (i ∷ place) sum t =
    elim (slice_get (items_of t.tracks.children) i) [
      | None ↦ false
      | Some x ↦ is_none (way_ticks place sum x)
    ]

abbrev pub is_long_fault : Option ItemFault → Bool
is_long_fault None = false
is_long_fault (Some NoLength) = false
is_long_fault (Some Speed) = false
is_long_fault (Some Long) = true

-- one of the items is too long
abbrev pub has_long : List (ItemOf Listed) → Bool
has_long [] = false
has_long (x ∷ l) = is_long_fault (fault_of x) || has_long l
