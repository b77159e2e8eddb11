-- Items that a zone doesn't reach, in natural numbers.
use Rattle.std.specs.Prelude.{◌≡◌, ℕ, ◌≤◌, pos, ◌-ℤ◌, List, take, drop, length}
use Rattle.otio_model.specs.declared.compositions.ItemOf.{ItemOf}
use Rattle.otio_model.specs.declared.compositions.Listed.{Listed}
use Rattle.otio_model.specs.declared.lists.Piece.{Piece}
use Rattle.otio_model.specs.Pieces.{all_items, part}
use Rattle.otio_model.specs.Seeks.{lens, total}
use Rattle.otio_model.specs.Zones.{NoneReached}

-- so many items from an index on are so long, and a zone from one instant up to another, counted
-- from the start of the list, reaches none of them
pub record IsPassed (xs : List (ItemOf Listed)) (index from to count ticks : ℕ) : Type 0 where
  pub within : count ≤ length (drop index xs)
  pub long : ticks ≡ total (lens (take count (drop index xs)))
  pub none : NoneReached (take count (drop index xs))
      (pos from -ℤ pos (total (take index (lens xs))))
      (pos to -ℤ pos (total (take index (lens xs))))

-- the items of the pieces from one up to another: so many, so long, and reached by no zone from one
-- instant up to another
pub record IsPassing (ps : List Piece) (first from to end count ticks : ℕ) : Type 0 where
  pub order : first ≤ end
  pub counted : count ≡ length (all_items (part first end ps))
  pub long : ticks ≡ total (lens (all_items (part first end ps)))
  pub none : NoneReached (all_items (part first end ps))
      (pos from -ℤ pos (total (lens (all_items (take first ps)))))
      (pos to -ℤ pos (total (lens (all_items (take first ps)))))
