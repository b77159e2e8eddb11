-- The children so far are transitions.
use Rattle.std.proofs.Common.{◌≡◌, ℕ, Some, drop}
use Rattle.otio_model.specs.Trees.{items_of}
use Rattle.otio_model.specs.Lengths.{start_of}
use Rattle.coord.specs.Sights.{View, looks}
use Rattle.edits_law.specs.Down.{is_next}
use Rattle.edit_plans.specs.Way.{further}
use Rattle.edit_plans.proofs.child_at.child_behind.Given as goal

abbrev pub invariant-children : goal.invariant-children
invariant-children l = record {
  side : (v : View) (k : ℕ)
      → is_next (further l.from (Some k)) (looks v (drop l.from (items_of l.children)))
      ≡ is_next (further l.index (Some k)) (looks v (drop l.index (items_of l.children)));
  start : start_of l.children l.index ≡ start_of l.children l.from;
}
