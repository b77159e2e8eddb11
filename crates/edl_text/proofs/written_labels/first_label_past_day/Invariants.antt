use Rattle.std.proofs.Common.{take, All}
use Rattle.edl_list.specs.Labelled.{IsLabelled}
use Rattle.edl_text.proofs.written_labels.first_label_past_day.Given as goal

-- the labels of the events so far are below the day
abbrev pub invariant-loop-event : goal.invariant-loop-event
invariant-loop-event l = All (IsLabelled l.list.rate l.drop) (take l.event-index l.list.events)
