use Rattle.std.proofs.Common.{arith, to_z, ap, vec_items, ◌∙◌}
use mir.Syntax.{w128}
use Rattle.std.proofs.lemmas.Int.{ints}
use Rattle.coord.proofs.Members.{next}
use Rattle.pieces.proofs.Grown.{ticks_are}
use Rattle.pieces.proofs.StripLemmas.{keep_as, drop_as, near_start, near_end, strip_end}
use Rattle.pieces.proofs.stripping.strip.Goals as goal
use Rattle.pieces.proofs.stripping.strip.Goals.{then-not-is_stripped+in_ok-add_copy, else-not-is_stripped}

pub is_stripped-requires-clause-high : goal.is_stripped-requires-clause-high
is_stripped-requires-clause-high c =
    near_start c.args.list.now c.items.kept.items _ _ _ _ _ c.items.invariant c.requires.long

pub length_or_zero-at-requires : goal.length_or_zero-at-requires
length_or_zero-at-requires c = record {
  few = c.requires.few c.items.index c.member-item.result.now c.member-item.ensures;
}

pub overflow_add-at : goal.overflow_add-at
overflow_add-at c =
    let near = near_end c.args.list.now c.items.kept.items _ _ _ _ _ _ c.member-item.result.now
    c.items.invariant
    (next c.args.list.now c.items.index c.member-item.result.now c.member-item.ensures)
    c.requires.long in
    omega (
      arith,
      ints,
      near,
      c.items.invariant.low,
      ticks_are c.member-item.result.now,
      c.length_or_zero-at.ensures,
    )

pub items-preserved : goal.items-preserved
items-preserved c =
    let step = next c.args.list.now c.items.index c.member-item.result.now c.member-item.ensures in
    let near = near_end c.args.list.now c.items.kept.items _ _ _ _ _ _ c.member-item.result.now
    c.items.invariant step c.requires.long in
    elim c.if-not-is_stripped.branch [
      | then-not-is_stripped+in_ok-add_copy w ↦
          keep_as c.args.list.now _ _ c.items.kept.items c.if-not-is_stripped.kept.items _ _
          (to_z w128 c.items.at-bits) (to_z w128 c.if-not-is_stripped.at-bits)
          c.member-item.result.now c.is_stripped.result c.items.invariant step
          c.is_stripped.ensures w.if-not-is_stripped.true
          (ap vec_items w.kept-is ∙ w.in_ok-add_copy.ensures)
          (omega (
            arith,
            ints,
            near,
            c.items.invariant.low,
            ticks_are c.member-item.result.now,
            w.at-is,
            w.length_or_zero-at.ensures,
          ))
      | else-not-is_stripped w ↦
          drop_as c.args.list.now _ _ c.items.kept.items c.if-not-is_stripped.kept.items _ _
          (to_z w128 c.items.at-bits) (to_z w128 c.if-not-is_stripped.at-bits)
          c.member-item.result.now c.is_stripped.result c.items.invariant step
          c.is_stripped.ensures w.if-not-is_stripped.false (ap vec_items w.kept-is) w.at-is
    ]

pub returns : goal.returns
returns c =
    strip_end c.args.list.now c.items.kept.items c.items.index _ _ c.args.a c.args.b _
    c.items.invariant (omega arith) (omega (arith, ints, c.ranges.a))
    (omega (arith, ints, c.ranges.b))
