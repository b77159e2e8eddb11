use Rattle.otio_tools.specs.Several.{names_now}
use Rattle.otio_tools.proofs.SeveralFiles.{worked_as, not_worked_as}
use Rattle.otio_tools.proofs.cat_and_tool.tool_done.Goals as goal

pub returns-in-Ok-clause-owed : goal.returns-in-Ok-clause-owed
returns-in-Ok-clause-owed c =
    worked_as c.args.asked (names_now c.args.names.now) c.args.timelines.items c.in-Ok.timeline
    c.output_of.result c.in-Ok.ensures.tooled c.output_of.ensures.text

pub returns-in-Err-clause-owed : goal.returns-in-Err-clause-owed
returns-in-Err-clause-owed c =
    not_worked_as c.args.asked (names_now c.args.names.now) c.args.timelines.items c.in-Err.fault
    c.stop_of.result c.in-Err.ensures.fault c.stop_of.ensures.name c.stop_of.ensures.fault
