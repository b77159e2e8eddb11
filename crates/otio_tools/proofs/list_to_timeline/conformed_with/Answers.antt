use Rattle.otio_tools.proofs.PlanLemmas.{conformed_to, few_conformed}
use Rattle.otio_tools.proofs.list_to_timeline.conformed_with.Goals as goal

pub returns-clause-timeline : goal.returns-clause-timeline
returns-clause-timeline c = conformed_to c.args.list.now c.args.media c.conform-timeline.result
    (rw c.as_ref.ensures.value at c.conform-timeline.ensures.timeline)
    (rw c.as_ref.ensures.value at c.conform-timeline.ensures.accepted)
    c.conform-timeline.ensures.few

pub returns-clause-few : goal.returns-clause-few
returns-clause-few c = few_conformed c.args.list.now c.args.media c.conform-timeline.result
    (rw c.as_ref.ensures.value at c.conform-timeline.ensures.timeline)
    c.conform-timeline.ensures.few

pub returns-clause-fault : goal.returns-clause-fault
returns-clause-fault c = rw c.as_ref.ensures.value at c.conform-timeline.ensures.refused
