-- The children from the end on are transitions.
use Rattle.std.proofs.Common.{◌≡◌, ℕ, Some, false, take}
use Rattle.otio_model.specs.Trees.{items_of}
use Rattle.otio_model.specs.Lengths.{start_of}
use Rattle.edit_plans.specs.Way.{is_last}
use Rattle.edit_plans.proofs.child_at.child_before.Given as goal

abbrev pub invariant-children : goal.invariant-children
invariant-children l = record {
  side : (k : ℕ) → is_last (Some k) false (take l.fn.end (items_of l.children))
      ≡ is_last (Some k) false (take l.index (items_of l.children));
  start : start_of l.children l.fn.end ≡ start_of l.children l.index;
}
