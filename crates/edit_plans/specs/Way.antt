-- Words of the way down to a place; no public clause cites them.
use Rattle.std.specs.Prelude.{◌≡◌, ℕ, zero, suc, ◌+◌, ◌*◌, ◌==◌, ℤ, pos, ◌-ℤ◌, ◌≤ℤ◌}
use Rattle.std.specs.Prelude.{Bool, false, ◌&&◌, cond, List, [], ◌∷◌, Option, Some, None}
use Rattle.std.specs.Prelude.{IfSome, take, drop, slice_get, option_and_then}
use Rattle.std.specs.Str.{bytes_eq}
use Rattle.limits.specs.Limits.{most_ticks}
use Rattle.otio_model.specs.declared.compositions.ItemOf.{ItemOf}
use Rattle.otio_model.specs.declared.compositions.ItemOf.TheVariants.{Clip, Gap, Transition, Stack}
use Rattle.otio_model.specs.declared.compositions.ItemOf.TheVariants.{Track}
use Rattle.otio_model.specs.declared.compositions.Listed.{Listed}
use Rattle.otio_model.specs.Lengths.{start_of}
use Rattle.otio_model.specs.Trees.{children_of, is_transition, items_of}
use Rattle.coord.specs.Sights.{View, looks}
use Rattle.edits_law.specs.Down.{passed, is_here, is_next, reached, reached_above}

-- whether the item's children are seen where tracks of the kind are
abbrev pub is_open : List ℕ → ItemOf Listed → Bool
is_open kind (Clip c) = false
is_open kind (Gap g) = false
is_open kind (Transition t) = false
is_open kind (Stack s) = s.enabled
is_open kind (Track t) = t.enabled && bytes_eq t.kind kind

-- the item's child of that index
abbrev pub child_of : ItemOf Listed → ℕ → Option (ItemOf Listed)
child_of x i = option_and_then (λ l. slice_get (items_of l) i) (children_of x)

-- the instant in the item's child of that index which the item's children reach
abbrev pub reached_in : View → ℕ → ItemOf Listed → ℤ → Option ℤ
reached_in v i (Clip c) at = None
reached_in v i (Gap g) at = None
reached_in v i (Transition t) at = None
reached_in v i (Stack s) at = reached_above i (looks v (items_of s.children)) at
reached_in v i (Track t) at = reached i (looks v (items_of t.children)) at

-- an item that is looked for, counted from so many items further on
abbrev pub further : ℕ → Option ℕ → Option ℕ
further zero k = k
further (suc i) k = further i (passed k)

-- whether it is the last item of the list that is no transition, where `last` says whether it is
-- the last such item before the list
abbrev pub is_last : Option ℕ → Bool → List (ItemOf Listed) → Bool
is_last k last [] = last
is_last k last (x ∷ l) = is_last (passed k) (cond (is_transition x) last (is_here k)) l

-- whether the index that was found is this one
abbrev pub is_index : Option ℕ → ℕ → Bool
is_index None k = false
is_index (Some i) k = i == k

-- the last child before an index that is no transition; none where there is none
pub record IsBefore (l : Listed) (end : ℕ) (found : Option ℕ) : Type 0 where
  pub side : (k : ℕ) → is_last (Some k) false (take end (items_of l)) ≡ is_index found k
  pub start : IfSome found (λ i. start_of l end ≡ start_of l (i + 1))

-- the first child from an index on that is no transition; none where there is none
pub record IsBehind (l : Listed) (from : ℕ) (found : Option ℕ) : Type 0 where
  pub side : (v : View) (k : ℕ)
      → is_next (further from (Some k)) (looks v (drop from (items_of l))) ≡ is_index found k
  pub start : IfSome found (λ i. start_of l i ≡ start_of l from)

-- no further off than four times the longest time
pub record IsNear (u : ℤ) : Type 0 where
  pub low : (pos 0 -ℤ pos (4 * most_ticks)) ≤ℤ u
  pub high : u ≤ℤ pos (4 * most_ticks)

-- two instants from 0 up to the longest time
pub record AreShort (start at : ℤ) : Type 0 where
  pub start_low : pos 0 ≤ℤ start
  pub start_high : start ≤ℤ pos most_ticks
  pub low : pos 0 ≤ℤ at
  pub high : at ≤ℤ pos most_ticks
