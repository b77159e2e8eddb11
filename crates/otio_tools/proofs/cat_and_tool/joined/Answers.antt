use Rattle.otio_tools.specs.Several.{names_now}
use Rattle.otio_tools.proofs.SeveralFiles.{joined_as, not_joined_as}
use Rattle.otio_tools.proofs.cat_and_tool.joined.Goals as goal

pub returns-in-Ok-clause-owed : goal.returns-in-Ok-clause-owed
returns-in-Ok-clause-owed c =
    joined_as (names_now c.args.names.now) c.args.timelines.items c.in-Ok.timeline
    c.in-Ok.ensures.joined

pub returns-in-Err-clause-owed : goal.returns-in-Err-clause-owed
returns-in-Err-clause-owed c =
    not_joined_as (names_now c.args.names.now) c.args.timelines.items c.in-Err.fault
    c.stop_of.result c.in-Err.ensures.fault c.stop_of.ensures.name c.stop_of.ensures.fault
