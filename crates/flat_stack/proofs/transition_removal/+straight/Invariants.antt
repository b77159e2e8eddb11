-- The children so far, and those that are left; and a measure over the tree.
use Rattle.std.proofs.Common.{◌*◌, ◌+◌, ◌≤◌, vec_len}
use Rattle.std.specs.Prelude.{reverse}
use Rattle.otio_model.specs.Counts.{count, count_of, counts_by}
use Rattle.otio_model.specs.Trees.{items_of}
use Rattle.flat_stack.proofs.StraightLemmas.{Copied}
use Rattle.flat_stack.proofs.transition_removal.+straight.Given as goal

abbrev pub decreases-straight_item : goal.decreases-straight_item
decreases-straight_item a = 2 * count_of a.item

abbrev pub decreases-straight_list : goal.decreases-straight_list
decreases-straight_list a = 2 * count a.children + 1

abbrev pub invariant-straight_list-left : goal.invariant-straight_list-left
invariant-straight_list-left l = record {
  straight : Copied l.in_track l.kept.items (reverse l.left.items) (items_of l.fn.children);
  small : counts_by count (reverse l.left.items) ≤ count l.fn.children;
}

abbrev pub decreases-straight_list-left : goal.decreases-straight_list-left
decreases-straight_list-left l = vec_len l.left
