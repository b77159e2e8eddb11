use Rattle.std.proofs.Common.{FitsSigned, refl, rules}
use Rattle.std.specs.Int.{w128}
use Rattle.std.proofs.lemmas.Int.{to_z-of_z}
use Rattle.drill.proofs.Ends.{has_gone}
use Rattle.drill.proofs.whole_drill.go_through.Goals as goal

pub returns-in-Ok-clause-gone : goal.returns-in-Ok-clause-gone
returns-in-Ok-clause-gone c =
    let fits : FitsSigned w128 c.in-Ok.back = search rules in
    simp to_z-of_z (has_gone c.args.count c.args.random.now.state
    c.run_edits.new.random.state c.args.media.now c.args.edited.now.timeline
    c.run_edits.new.edited.timeline c.undo_all.new.timeline c.args.edited.now.log c.run_edits.new.edited.log
    c.undo_all.new.log _ c.requires.media c.in_ok-edits.ensures.drills c.in_ok-edits.ensures.few
    refl c.track_children-items.ensures c.in_ok-carried.ensures c.in_ok-undo_all.ensures.state
    c.in-Ok.ensures.sum)
