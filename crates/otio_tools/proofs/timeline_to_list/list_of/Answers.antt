use Rattle.otio_tools.proofs.PlanLemmas.{carried_by, left_by}
use Rattle.otio_tools.proofs.timeline_to_list.list_of.Goals as goal

pub returns-clause-list : goal.returns-clause-list
returns-clause-list c =
    carried_by c.args.timeline.now _ c.args.media c.args.drop c.args.wide c.events-list.result
    c.as_ref-rows.ensures.value c.events-list.ensures.list c.events-list.ensures.carried
    c.note_rows.ensures

pub returns-clause-fault : goal.returns-clause-fault
returns-clause-fault c =
    left_by c.args.timeline.now _ c.args.media c.args.drop c.args.wide c.events-list.result
    c.as_ref-rows.ensures.value c.events-list.ensures.refused
