-- Which items a zone of instants reaches.
use Rattle.std.specs.Prelude.{◌≡◌, ℕ, ◌≤◌, ℤ, pos, ◌-ℤ◌, int_le, int_lt, Bool, false, ◌&&◌, ◌||◌}
use Rattle.std.specs.Prelude.{List, [], ◌∷◌, take, drop, length}
use Rattle.otio_model.specs.declared.compositions.ItemOf.{ItemOf}
use Rattle.otio_model.specs.declared.compositions.ItemOf.TheVariants.{Clip, Gap, Transition, Stack}
use Rattle.otio_model.specs.declared.compositions.ItemOf.TheVariants.{Track}
use Rattle.otio_model.specs.declared.compositions.Listed.{Listed}
use Rattle.otio_model.specs.declared.quiet.Quiet.{Quiet}
use Rattle.otio_model.specs.Trees.{items_of}
use Rattle.otio_model.specs.Lengths.{length_of, or_zero, start_of}
use Rattle.otio_model.specs.Overlaps.{offset_of}
use Rattle.otio_model.specs.Seeks.{lens, total}

-- whether the zone from a up to b, counted from an item's start, has more than an end in common
-- with the item's overlap
abbrev pub crosses : ItemOf Listed → ℤ → ℤ → Bool
crosses (Clip c) a b = false
crosses (Gap g) a b = false
crosses (Transition t) a b =
    int_lt (pos 0 -ℤ offset_of t.in_offset) b && int_lt a (offset_of t.out_offset)
crosses (Stack s) a b = false
crosses (Track t) a b = false

-- whether the zone from a up to b, counted from an item's start, reaches the item: it crosses the
-- overlap, or has an instant in common with the item, the ends of both included
abbrev pub is_reached : ItemOf Listed → ℤ → ℤ → Bool
is_reached x a b = crosses x a b || (int_le (pos 0) b && int_le a (pos (or_zero (length_of x))))

-- the zone from a up to b, counted from a list's start, reaches no item of it
abbrev pub NoneReached : List (ItemOf Listed) → ℤ → ℤ → Type 0
NoneReached [] a b = Unit {0}
NoneReached (x ∷ xs) a b = (is_reached x a b ≡ false)
    × NoneReached xs (a -ℤ pos (or_zero (length_of x))) (b -ℤ pos (or_zero (length_of x)))

-- so many children from an index on, so long together, none of which the zone reaches
pub record IsQuiet (l : Listed) (index : ℕ) (from to : ℤ) (q : Quiet) : Type 0 where
  pub within : q.count ≤ length (drop index (items_of l))
  pub ticks : q.ticks ≡ pos (total (lens (take q.count (drop index (items_of l)))))
  pub none : NoneReached (take q.count (drop index (items_of l))) (from -ℤ pos (start_of l index))
      (to -ℤ pos (start_of l index))
