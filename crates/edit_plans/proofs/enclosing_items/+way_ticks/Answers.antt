use Rattle.std.proofs.Common.{arith, sym, refl, ap, ◌∙◌, []}
use Rattle.coord.proofs.Members.{got_below}
use Rattle.edit_plans.specs.Ways.{short_ticks}
use Rattle.edit_plans.proofs.WaySteps.{below_few, child_sound, index_there, way_end, way_none}
use Rattle.edit_plans.proofs.WaySteps.{way_out, way_in}
use Rattle.edit_plans.proofs.enclosing_items.+way_ticks.Goals as goal

pub short_ticks-requires : goal.short_ticks-requires
short_ticks-requires t c = c.requires.sound [] c.args.item.now refl

pub overflow_add-depth : goal.overflow_add-depth
overflow_add-depth t c = let k = got_below c.args.place.now c.args.depth c.in-Some.index
    (sym c.in-Some.ensures) in omega (arith, k, c.requires.short)

pub way_ticks-requires : goal.way_ticks-requires
way_ticks-requires t c =
    let k = got_below c.args.place.now c.args.depth c.in-Some.index (sym c.in-Some.ensures) in (
      omega (arith, k, c.decreases),
      (
        below_few c.in-Some.index c.args.item.now c.in-Some-children.children.now
            c.in-Some-item.child.now (sym c.in-Some-children.ensures) (sym c.in-Some-item.ensures)
            c.requires.few,
        (
          child_sound c.in-Some.index c.args.item.now c.in-Some-children.children.now
              c.in-Some-item.child.now (sym c.in-Some-children.ensures) (sym c.in-Some-item.ensures)
              c.requires.sound,
          (omega (arith, k), c.requires.short),
        ),
      ),
    )

pub available_with-requires-clause-there : goal.available_with-requires-clause-there
available_with-requires-clause-there t c = index_there c.in-Some.index c.args.item.now
    c.in-Some-children.children.now c.in-Some-item.child.now (sym c.in-Some-children.ensures)
    (sym c.in-Some-item.ensures)

pub short_ticks-requires-in-Some-way_ticks : goal.short_ticks-requires-in-Some-way_ticks
short_ticks-requires-in-Some-way_ticks t c = c.requires.sound [] c.args.item.now refl

pub returns-in-None-clause-ticks : goal.returns-in-None-clause-ticks
returns-in-None-clause-ticks t c = c.short_ticks.ensures.ticks
    ∙ way_end c.args.place.now c.args.depth c.args.sum c.args.item.now c.in-None.ensures

pub returns-in-None-children-clause-ticks : goal.returns-in-None-children-clause-ticks
returns-in-None-children-clause-ticks t c = way_none c.args.place.now c.args.depth _ c.args.sum
    c.args.item.now c.in-Some.ensures (sym c.in-None-children.ensures)

pub returns-in-None-item-clause-ticks : goal.returns-in-None-item-clause-ticks
returns-in-None-item-clause-ticks t c = way_out c.args.place.now c.args.depth _ c.args.sum
    c.args.item.now _ c.in-Some.ensures (sym c.in-Some-children.ensures)
    (sym c.in-None-item.ensures)

pub returns-in-None-way_ticks-clause-ticks : goal.returns-in-None-way_ticks-clause-ticks
returns-in-None-way_ticks-clause-ticks t c = way_in c.args.place.now c.args.depth _ c.args.sum
    c.args.item.now _ _ _ c.in-Some.ensures (sym c.in-Some-children.ensures)
    (sym c.in-Some-item.ensures) c.in-None-way_ticks.ensures.ticks

pub returns-in-Some-way_ticks-clause-ticks : goal.returns-in-Some-way_ticks-clause-ticks
returns-in-Some-way_ticks-clause-ticks t c =
    c.short_ticks-in-Some-way_ticks.ensures.ticks
    ∙ ap (short_ticks c.args.item.now) c.available_with.ensures
    ∙ way_in c.args.place.now c.args.depth _ c.args.sum c.args.item.now _ _ _ c.in-Some.ensures
    (sym c.in-Some-children.ensures) (sym c.in-Some-item.ensures) c.in-Some-way_ticks.ensures.ticks
