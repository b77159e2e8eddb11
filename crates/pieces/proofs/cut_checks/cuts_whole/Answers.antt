use Rattle.std.proofs.Common.{arith, to_z, ap, ◌∙◌}
use mir.Syntax.{w128}
use Rattle.std.proofs.lemmas.Int.{ints}
use Rattle.edits.specs.Cuts.{cuts_whole}
use Rattle.coord.proofs.Members.{next}
use Rattle.pieces.proofs.WholeLemmas.{whole_done, whole_here, whole_next}
use Rattle.pieces.proofs.cut_checks.cuts_whole.Goals as goal

pub returns-then-left-le0 : goal.returns-then-left-le0
returns-then-left-le0 c = whole_done c.args.list.now _ _ _ c.items.invariant (omega (arith, ints)) ∙ ap (cuts_whole c.args.list.now) (omega (arith, ints, c.ranges.ticks))

pub sound_ticks-length-requires : goal.sound_ticks-length-requires
sound_ticks-length-requires c = c.requires.faultless c.items.index c.member-item.result.now c.member-item.ensures

pub is_whole_at-requires-clause-faultless : goal.is_whole_at-requires-clause-faultless
is_whole_at-requires-clause-faultless c = c.requires.faultless c.items.index c.member-item.result.now c.member-item.ensures

pub returns-then-left-length : goal.returns-then-left-length
returns-then-left-length c =
    whole_here c.args.list.now _ _ _ (to_z w128 c.items.left-bits) c.member-item.result.now c.is_whole_at.result c.items.invariant (next c.args.list.now c.items.index c.member-item.result.now c.member-item.ensures)
    (omega (arith, ints)) (omega (arith, ints, c.sound_ticks-length.ensures.value)) c.is_whole_at.ensures
    ∙ ap (cuts_whole c.args.list.now) (omega (arith, ints, c.ranges.ticks))

pub items-preserved : goal.items-preserved
items-preserved c =
    whole_next c.args.list.now _ _ _ (to_z w128 c.items.left-bits) _ c.member-item.result.now c.items.invariant (next c.args.list.now c.items.index c.member-item.result.now c.member-item.ensures)
    (omega (arith, ints)) (omega (arith, ints, c.sound_ticks-length.ensures.value)) (omega (arith, ints, c.sound_ticks-length.ensures.value))
