use Rattle.std.proofs.Common.{◌<◌, arith, ap, length, sym, ◌∙◌}
use Rattle.otio_model.specs.Trees.{items_of, listed}
use Rattle.otio_model.proofs.Retiming.{exchanged_below, exchanged_long, exchanged_next, retimed_none}
use Rattle.otio_model.proofs.Views.{listed-items}
use Rattle.otio_model.proofs.Ways.{get_at}
use Rattle.otio_model.proofs.retimes.retime.Goals as goal

pub ranges-2-init : goal.ranges-2-init
ranges-2-init c = record {
  items = sym (listed-items c.args.children.now)
      ∙ ap listed (sym (retimed_none c.args.at (items_of c.args.children.now)));
  ranges = c.into_vec-list.ensures;
}

pub overflow_add-at : goal.overflow_add-at
overflow_add-at c =
    omega (arith, c.ranges-2-test.true, c.min-index-end.ensures, c.len.type_inv)

pub retime_child-requires : goal.retime_child-requires
retime_child-requires c =
    omega (
      arith,
      c.requires,
      c.ranges-2-test.true,
      c.min-index-end.ensures,
      c.len-2.ensures,
      ap length c.into_vec-list.ensures,
      c.into_vec-list.result.ok,
      exchanged_long c.ranges-2.invariant,
    )

pub ranges-2-preserved : goal.ranges-2-preserved
ranges-2-preserved c =
    let short : c.ranges-2.index < length c.args.ranges =
    omega (
      arith,
      c.ranges-2-test.true,
      c.min-index-end.ensures,
      c.len-2.ensures,
      ap length c.into_vec-list.ensures,
      c.into_vec-list.result.ok,
    ) in
    exchanged_next c.args.at c.ranges-2.index c.args.ranges c.ranges-2.list.items
    (items_of c.args.children.now) c.ranges-2.children c.retime_child.new.children
    c.index.result.now c.retime_child.result c.requires short c.ranges-2.invariant
    (get_at c.ranges-2.list.items c.ranges-2.index c.index.result.now
    (exchanged_below c.ranges-2.invariant c.requires short) c.index.ensures)
    c.retime_child.ensures.items c.retime_child.ensures.old
