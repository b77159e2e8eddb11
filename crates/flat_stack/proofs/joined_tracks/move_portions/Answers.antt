use Rattle.std.proofs.Common.{arith, ap}
use Rattle.std.specs.Prelude.{reverse}
use Rattle.flat_stack.specs.Portions.{portion_items, portions_items}
use Rattle.flat_stack.proofs.MoveLemmas.{done_all, done_first, done_more}
use Rattle.flat_stack.proofs.StraightLemmas.{none_left, turned_back, turned_next}
use Rattle.flat_stack.proofs.joined_tracks.move_portions.Goals as goal

pub left-init : goal.left-init
left-init c = record {
  moved = λ inputs are. done_first c.new-all.result.items
      (portions_items inputs (reverse c.reverse.new.self.items))
      (portions_items inputs c.args.portions.items) c.new-all.ensures.items
      (ap (portions_items inputs)
      (turned_back c.reverse.new.self.items c.args.portions.items c.reverse.ensures.items));
  left = λ inputs are. are;
}

pub left-preserved : goal.left-preserved
left-preserved c =
    let next = turned_next c.left.left.items c.pop.new.self.items c.in-Some.portion
    c.in-Some.ensures.items in
    record {
      moved = λ inputs are. done_more c.left.all.items c.move_portion.new.all.items
          (portion_items inputs c.in-Some.portion)
          (portions_items inputs (reverse c.pop.new.self.items))
          (portions_items inputs (reverse c.left.left.items))
          (portions_items inputs c.args.portions.items)
          (c.in_ok-move_portion.ensures.moved inputs (c.left.invariant.left inputs are))
          (ap (portions_items inputs) next) (c.left.invariant.moved inputs are);
      left = λ inputs are. c.in_ok-move_portion.ensures.left inputs (c.left.invariant.left inputs are);
    }

pub returns-clause-moved : goal.returns-clause-moved
returns-clause-moved c = λ inputs are.
    done_all c.left.all.items (portions_items inputs (reverse c.left.left.items))
    (portions_items inputs c.args.portions.items)
    (ap (portions_items inputs) (none_left c.left.left.items
    (omega (arith, c.in_default.ensures.cases.0, c.left.left.ok.0))))
    (c.left.invariant.moved inputs are)
