use Rattle.otio_tools.specs.Run.{streams}
use Rattle.otio_tools.specs.Texts.{text_at}
use Rattle.otio_tools.proofs.DrillEnds.{served}
use Rattle.otio_tools.proofs.drill_command.serve_drill.Goals as goal

pub returns-in-Ok : goal.returns-in-Ok
returns-in-Ok g c =
    let all =
    streams g.W.Out.faults g.W.Out.known g.E.Out.faults g.E.Out.known c.args.out.now
    c.send_tally-status.new.out c.args.err.now c.send_tally-status.new.err in
    served c.args.asked.seed c.args.asked.count (text_at c.args.asked.target) all
    c.send_tally-status.result c.replace.new.dest _ c.in-Ok.drilled.tally
    c.replace.ensures.after c.in-Ok.ensures.drill c.in-Ok.ensures.kept c.in-Ok.ensures.edits
    c.send_tally-status.ensures
