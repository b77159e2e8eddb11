use Rattle.drill.proofs.Ends.{has_drilled, ready_start}
use Rattle.drill.proofs.whole_drill.drill.Goals as goal

pub go_through-requires-clause-ready : goal.go_through-requires-clause-ready
go_through-requires-clause-ready c =
    ready_start c.new-log.result c.in_ok-timeline.timeline c.new-log.ensures.past
    c.new-log.ensures.future c.in_ok-timeline.ensures.editable

pub returns-in-Ok-clause-drill : goal.returns-in-Ok-clause-drill
returns-in-Ok-clause-drill c =
    has_drilled c.args.seed c.args.count _ c.in_ok-timeline.timeline c.go_through.new.edited.timeline
    c.new-log.result c.go_through.new.edited.log _
    c.in_ok-timeline.ensures.timeline c.in_ok-timeline.ensures.state c.new-log.ensures.past
    c.new-log.ensures.future c.in-Ok.ensures.gone
