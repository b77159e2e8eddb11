use Rattle.std.proofs.Common.{Ok}
use Rattle.edl_law.proofs.CalmTracks.{timeline_calm}
use Rattle.otio_tools.proofs.CalmTimelines.{conformed_writable}
use Rattle.otio_tools.proofs.PlanLemmas.{few_conformed}
use Rattle.otio_tools.proofs.edit_command.timeline_of_list.Goals as goal

pub returns-in-Ok-clause-calm : goal.returns-in-Ok-clause-calm
returns-in-Ok-clause-calm c =
    timeline_calm c.args.list _ c.in-Ok.timeline c.in-Ok.ensures.timeline

pub returns-in-Ok-clause-few : goal.returns-in-Ok-clause-few
returns-in-Ok-clause-few c = few_conformed c.args.list _ (Ok c.in-Ok.timeline)
    c.in-Ok.ensures.timeline c.in-Ok.ensures.few

pub returns-in-Ok-clause-written : goal.returns-in-Ok-clause-written
returns-in-Ok-clause-written c =
    conformed_writable c.args.list _ c.in-Ok.timeline c.requires c.in-Ok.ensures.timeline
