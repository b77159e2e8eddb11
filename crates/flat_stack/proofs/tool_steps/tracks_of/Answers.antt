use Rattle.std.proofs.Common.{ap, vec_items, ◌∙◌}
use Rattle.otio_model.specs.Trees.{items_of}
use Rattle.flat.specs.Roots.{is_of}
use Rattle.flat_stack.proofs.Ending.{kept_more, kept_less}
use Rattle.flat_stack.proofs.tool_steps.tracks_of.Goals as goal
use Rattle.flat_stack.proofs.tool_steps.tracks_of.Goals.{then-is_of+in_ok-track+in_ok-push, else-is_of}

pub children-preserved : goal.children-preserved
children-preserved c =
    elim c.if-is_of.branch [
      | then-is_of+in_ok-track+in_ok-push w ↦
          kept_more (is_of c.args.kind.now) (items_of c.args.children.now)
          c.children.tracks.items c.if-is_of.tracks.items c.children.index
          c.child-item.result.now w.in_ok-track.track c.is_of.result c.children.invariant
          c.child-item.ensures c.is_of.ensures w.if-is_of.true w.in_ok-track.ensures
          (ap vec_items w.tracks-is ∙ w.in_ok-push.ensures.items)
      | else-is_of w ↦
          kept_less (is_of c.args.kind.now) (items_of c.args.children.now)
          c.children.tracks.items c.if-is_of.tracks.items c.children.index
          c.child-item.result.now c.is_of.result c.children.invariant c.child-item.ensures
          c.is_of.ensures w.if-is_of.false (ap vec_items w.tracks-is)
    ]
