use Rattle.std.proofs.Common.{take, All}
use Rattle.edl_list.specs.Layouts.{narrow, FitsEvent}
use Rattle.edl_text.proofs.written_labels.first_wide_reel.Given as goal

-- the reels of the events so far stand in the narrow layout
abbrev pub invariant-loop-event : goal.invariant-loop-event
invariant-loop-event l = All (FitsEvent narrow) (take l.event-index l.list.events)
