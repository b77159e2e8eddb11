use Rattle.std.proofs.Common.{arith, to_z, ap, vec_items, refl, ◌∙◌}
use mir.Syntax.{w128}
use Rattle.std.proofs.lemmas.Int.{ints}
use Rattle.coord.proofs.Members.{next}
use Rattle.pieces.proofs.BackLemmas.{put_copied, back_cut, skip_kept, back_end}
use Rattle.pieces.proofs.list_backs.back_items.Goals as goal
use Rattle.pieces.proofs.list_backs.back_items.Goals.{then-left-le0+in_ok-add_copy, else-left-le0+then-left-length+in_ok-piece+in_ok-push, else-left-le0+else-left-length}

pub sound_ticks-length-requires : goal.sound_ticks-length-requires
sound_ticks-length-requires c =
    c.requires.faultless c.items.index c.member-item.result.now c.member-item.ensures

pub right_piece-requires-clause-faultless : goal.right_piece-requires-clause-faultless
right_piece-requires-clause-faultless c =
    c.requires.faultless c.items.index c.member-item.result.now c.member-item.ensures

pub items-preserved : goal.items-preserved
items-preserved c =
    let step = next c.args.list.now c.items.index c.member-item.result.now c.member-item.ensures in
    elim c.if-left-le0.branch [
      | then-left-le0+in_ok-add_copy w ↦
          put_copied c.args.rate c.args.list.now _ _ c.items.done.items c.if-left-le0.done.items _
          (to_z w128 c.items.left-bits) (to_z w128 c.if-left-le0.left-bits)
          c.member-item.result.now c.member-item.result.now c.items.invariant step
          (omega (arith, ints)) refl (ap vec_items w.done-is ∙ w.in_ok-add_copy.ensures) w.left-is
      | else-left-le0+then-left-length+in_ok-piece+in_ok-push w ↦
          back_cut c.args.rate c.args.list.now _ _ c.items.done.items c.if-left-le0.done.items _
          (to_z w128 c.items.left-bits) _ (to_z w128 c.if-left-le0.left-bits)
          c.member-item.result.now w.in_ok-piece.piece c.items.invariant step (omega (arith, ints))
          (omega (arith, ints, w.sound_ticks-length.ensures.value)) w.in_ok-piece.ensures
          (omega (arith, ints)) w.left-is (ap vec_items w.done-is ∙ w.in_ok-push.ensures.items)
      | else-left-le0+else-left-length w ↦
          skip_kept c.args.rate c.args.list.now _ _ c.items.done.items c.if-left-le0.done.items _
          (to_z w128 c.items.left-bits) (to_z w128 c.if-left-le0.left-bits)
          c.member-item.result.now c.items.invariant step (omega (arith, ints))
          (omega (arith, ints, w.sound_ticks-length.ensures.value))
          (omega (arith, ints, w.left-is, w.sound_ticks-length.ensures.value))
          (ap vec_items w.done-is)
    ]

pub returns : goal.returns
returns c =
    back_end c.args.rate c.args.list.now c.items.done.items c.items.index _ c.args.ticks _
    c.items.invariant (omega (arith, ints, c.ranges.ticks)) (omega arith)
