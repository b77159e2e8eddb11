use Rattle.std.proofs.Common.{arith, to_z, ap, vec_items, ◌∙◌}
use mir.Syntax.{w128}
use Rattle.std.proofs.lemmas.Int.{ints}
use Rattle.otio_model.specs.Trees.{items_of}
use Rattle.otio_model.proofs.LengthLimits.{few_enough}
use Rattle.pieces.proofs.StripLemmas.{near_start}
use Rattle.edit_plans.proofs.ZoneLemmas.{kept_more, kept_less, kept_end, kept_faultless, kept_long}
use Rattle.edit_plans.proofs.ZoneLemmas.{kept_below}
use Rattle.edit_plans.proofs.replaced_children.kept.Goals as goal
use Rattle.edit_plans.proofs.replaced_children.kept.Goals.{then-not-is_stripped+in_ok-add_copy}
use Rattle.edit_plans.proofs.replaced_children.kept.Goals.{else-not-is_stripped}

pub overflow_add-index-end : goal.overflow_add-index-end
overflow_add-index-end c =
    omega (arith, few_enough c.args.children.now c.requires.few, c.requires.there)

pub is_stripped-requires-clause-high : goal.is_stripped-requires-clause-high
is_stripped-requires-clause-high c =
    let few = few_enough c.args.children.now c.requires.few in
    near_start _ c.children.kept.items _ _ _ _ _ c.children.invariant.is
    (kept_long (items_of c.args.children.now) c.args.stretch.at c.args.stretch.count
    c.requires.faultless (omega (arith, few, c.requires.there)))

pub sound_ticks-start-requires : goal.sound_ticks-start-requires
sound_ticks-start-requires c =
    c.requires.faultless c.children.index c.child-item.result.now c.child-item.ensures

pub overflow_add-start : goal.overflow_add-start
overflow_add-start c =
    let near = kept_below c.args.children.now c.children.kept.items c.args.stretch.at
    c.args.stretch.count c.children.index _ _ _ c.child-item.result.now c.requires.few
    c.requires.faultless c.requires.there c.children.invariant (omega arith) c.child-item.ensures in
    let low = c.children.invariant.is.low in
    omega (
      arith,
      ints,
      near,
      low,
      c.sound_ticks-start.ensures.value,
      c.sound_ticks-start.ensures.low,
      c.sound_ticks-start.ensures.high,
    )

pub children-preserved : goal.children-preserved
children-preserved c =
    let near = kept_below c.args.children.now c.children.kept.items c.args.stretch.at
    c.args.stretch.count c.children.index _ _ _ c.child-item.result.now c.requires.few
    c.requires.faultless c.requires.there c.children.invariant (omega arith) c.child-item.ensures in
    let low = c.children.invariant.is.low in
    elim c.if-not-is_stripped.branch [
      | then-not-is_stripped+in_ok-add_copy w ↦
          kept_more (items_of c.args.children.now) c.children.kept.items
          c.if-not-is_stripped.kept.items _ _ c.children.index _ _
          (to_z w128 c.children.start-bits) (to_z w128 c.if-not-is_stripped.start-bits)
          c.child-item.result.now c.is_stripped.result c.children.invariant
          (omega arith) c.child-item.ensures c.is_stripped.ensures w.if-not-is_stripped.true
          (ap vec_items w.kept-is ∙ w.in_ok-add_copy.ensures)
          (omega (
            arith,
            ints,
            near,
            low,
            w.start-is,
            w.sound_ticks-start.ensures.value,
            w.sound_ticks-start.ensures.low,
            w.sound_ticks-start.ensures.high,
          ))
      | else-not-is_stripped w ↦
          kept_less (items_of c.args.children.now) c.children.kept.items
          c.if-not-is_stripped.kept.items _ _ c.children.index _ _
          (to_z w128 c.children.start-bits) (to_z w128 c.if-not-is_stripped.start-bits)
          c.child-item.result.now c.is_stripped.result c.children.invariant (omega arith)
          c.child-item.ensures c.is_stripped.ensures w.if-not-is_stripped.false
          (ap vec_items w.kept-is) w.start-is
    ]

pub returns-clause-faultless : goal.returns-clause-faultless
returns-clause-faultless c =
    kept_faultless (items_of c.args.children.now) c.children.kept.items c.args.stretch.count
    c.args.stretch.at c.args.from c.args.to c.requires.faultless
    (kept_end (items_of c.args.children.now) c.children.kept.items c.args.stretch.at
    c.args.stretch.count c.children.index _ _ c.args.from c.args.to _ c.children.invariant
    (omega arith) (omega (arith, ints, c.ranges.from)) (omega (arith, ints, c.ranges.to)))
