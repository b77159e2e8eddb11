use Rattle.std.proofs.Common.{arith, to_z, refl, sym, ◌∙◌}
use mir.Syntax.{w128}
use Rattle.std.proofs.lemmas.Int.{ints}
use Rattle.coord.proofs.Members.{next}
use Rattle.pieces.proofs.Grown.{next_as, cut_as, done_as, gap_as, gap_far}
use Rattle.pieces.proofs.Results.{ok_then, err_then}
use Rattle.pieces.proofs.list_fronts.front_items.Goals as goal

pub returns-then-left-le0-clause-made : goal.returns-then-left-le0-clause-made
returns-then-left-le0-clause-made c =
    done_as c.args.rate c.args.list.now _ c.items.done.items _ c.args.ticks _ c.items.invariant
    (omega (arith, ints, c.ranges.ticks)) (omega (arith, ints))

pub ticks_of-length-requires : goal.ticks_of-length-requires
ticks_of-length-requires c =
    c.requires.short c.items.index c.member-item.result.now c.member-item.ensures

pub items-preserved : goal.items-preserved
items-preserved c =
    next_as c.args.rate c.args.list.now _ _ c.items.done.items c.add_copy.new.list.items _ _ _ _
    c.member-item.result.now c.member-item.result.now c.items.invariant
    (omega (arith, ints, c.ranges.ticks))
    (next c.args.list.now c.items.index c.member-item.result.now c.member-item.ensures)
    (omega (arith, ints)) (omega (arith, ints, c.ticks_of-length.ensures.value))
    (omega (arith, ints, c.ticks_of-length.ensures.value)) refl c.in-Ok-add_copy.ensures

pub returns-then-left-le0-2-clause-made : goal.returns-then-left-le0-2-clause-made
returns-then-left-le0-2-clause-made c =
    done_as c.args.rate c.args.list.now _ c.items.done.items _ c.args.ticks _ c.items.invariant
    (omega (arith, ints, c.ranges.ticks)) (omega (arith, ints))

pub returns-in-Err-new_gap-clause-far : goal.returns-in-Err-new_gap-clause-far
returns-in-Err-new_gap-clause-far c = λ e.
    gap_far c.args.rate c.args.list.now c.items.done.items c.items.index _ c.args.ticks _
    (to_z w128 c.items.left-bits) c.items.invariant (omega (arith, ints, c.ranges.ticks))
    (omega arith) (omega (arith, ints)) (omega (arith, ints)) (c.in-Err-new_gap.ensures.far e)

pub returns-in-Ok-clause-made : goal.returns-in-Ok-clause-made
returns-in-Ok-clause-made c = ok_then c.with_last.result c.with_last.ensures.added (λ all added.
    cut_as c.args.rate c.args.list.now _ _ c.items.done.items all.items _ c.args.ticks _
    (to_z w128 c.items.left-bits) c.member-item.result.now c.in-Ok.piece c.items.invariant
    (omega (arith, ints, c.ranges.ticks))
    (next c.args.list.now c.items.index c.member-item.result.now c.member-item.ensures)
    (omega (arith, ints)) (omega (arith, ints, c.ticks_of-length.ensures.value)) c.in-Ok.ensures
    (omega (arith, ints)) added)

pub returns-in-Ok-clause-far : goal.returns-in-Ok-clause-far
returns-in-Ok-clause-far c =
    err_then c.with_last.result c.with_last.ensures.fault (λ fault m e. absurd (cc (sym m ∙ e)))

pub returns-in-Ok-new_gap-clause-made : goal.returns-in-Ok-new_gap-clause-made
returns-in-Ok-new_gap-clause-made c =
    ok_then c.with_last-in-Ok-new_gap.result c.with_last-in-Ok-new_gap.ensures.added (λ all added.
    gap_as c.args.rate c.args.list.now c.items.done.items all.items c.items.index _ c.args.ticks _
    (to_z w128 c.items.left-bits) c.in-Ok-new_gap.gap c.items.invariant
    (omega (arith, ints, c.ranges.ticks)) (omega arith) (omega (arith, ints))
    c.in-Ok-new_gap.ensures.made (omega (arith, ints)) added)

pub returns-in-Ok-new_gap-clause-far : goal.returns-in-Ok-new_gap-clause-far
returns-in-Ok-new_gap-clause-far c =
    err_then c.with_last-in-Ok-new_gap.result c.with_last-in-Ok-new_gap.ensures.fault
    (λ fault m e. absurd (cc (sym m ∙ e)))
