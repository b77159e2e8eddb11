use Rattle.std.proofs.Common.{arith, ap, ◌≡◌, ◌++◌, ◌∙◌}
use Rattle.std.specs.Prelude.{reverse}
use Rattle.otio_model.specs.Counts.{count}
use Rattle.otio_model.specs.Trees.{items_of, listed}
use Rattle.flat_stack.specs.Straighten.{straight_items}
use Rattle.flat_stack.proofs.StraightLemmas.{all_small, copied_first, copied_more, copied_all, next_small, none_left, turned_back, turned_next}
use Rattle.flat_stack.proofs.transition_removal.+straight.Goals as goal

pub straight_list-left-init : goal.straight_list-left-init
straight_list-left-init t c =
    let all = items_of c.args.children in
    let moved : c.move_into.new.all.items ≡ all =
    c.in_ok-move_into.ensures.moved ∙ ap (λ l. l ++ all) c.new-left.ensures.items in
    let turned =
    turned_back c.reverse.new.self.items c.move_into.new.all.items c.reverse.ensures.items ∙ moved in
    record {
      straight = ap (λ l. l ++ straight_items c.args.in_track (reverse c.reverse.new.self.items))
          c.new-kept.ensures.items
          ∙ copied_first c.args.in_track (reverse c.reverse.new.self.items) all turned;
      small = all_small c.args.children (reverse c.reverse.new.self.items) turned;
    }

pub straight_list-straight_item-requires : goal.straight_list-straight_item-requires
straight_list-straight_item-requires t c =
    let next = turned_next c.left.left.items c.pop.new.self.items c.in-Some.item
    c.in-Some.ensures.items in
    let k = next_small (count c.args.children) (reverse c.left.left.items)
    (reverse c.pop.new.self.items) c.in-Some.item c.left.invariant.small next in
    omega (arith, k.0, c.decreases)

pub straight_list-left-preserved : goal.straight_list-left-preserved
straight_list-left-preserved t c =
    let next = turned_next c.left.left.items c.pop.new.self.items c.in-Some.item
    c.in-Some.ensures.items in
    record {
      straight = copied_more c.args.in_track c.is_left_out.result c.left.kept.items
          c.push.new.self.items (reverse c.left.left.items) (reverse c.pop.new.self.items)
          (items_of c.args.children) c.in-Some.item c.in_ok-straight.straight
          c.left.invariant.straight next c.is_left_out.ensures c.if-is_left_out.false
          c.in_ok-straight.ensures c.in_ok-push.ensures.items;
      small = (next_small (count c.args.children) (reverse c.left.left.items)
          (reverse c.pop.new.self.items) c.in-Some.item c.left.invariant.small next).1;
    }

pub straight_list-returns : goal.straight_list-returns
straight_list-returns t c =
    copied_all c.args.in_track c.left.kept.items (reverse c.left.left.items) c.args.children _
    c.left.invariant.straight
    (none_left c.left.left.items (omega (arith, c.in_default.ensures.cases.0, c.left.left.ok.0)))
    (c.in_ok-straight-2.ensures ∙ ap listed c.of.ensures)
