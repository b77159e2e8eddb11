use Rattle.std.proofs.Common.{take}
use Rattle.std.specs.List.{All}
use Rattle.edl_text.specs.StateLate.{IsEqual}
use Rattle.edl_text.proofs.end_of_list_faults.first_unequal.Given as goal

abbrev pub invariant-events : goal.invariant-events
invariant-events l = All IsEqual (take l.event-index l.events)
