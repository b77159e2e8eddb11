use Rattle.std.proofs.Common.{Some}
use Rattle.drill.proofs.RoundLemmas.{one_more}
use Rattle.drill.proofs.edit_loop.run_edits.Goals as goal

pub edits-preserved : goal.edits-preserved
edits-preserved c =
    one_more (Some c.args.media.now) c.edits.index c.args.random.now.state
    c.edits.random.state c.run_edit.new.random.state c.edits.accepted
    c.counted-accepted.result c.in-Ok.done c.args.edited.now.log c.edits.edited.log c.run_edit.new.edited.log
    c.args.edited.now.timeline c.edits.edited.timeline c.run_edit.new.edited.timeline c.edits.invariant
    c.in-Ok.ensures.goes c.run_edit.ensures.ready c.run_edit.ensures.holds
    c.counted-accepted.ensures.value
