use Rattle.std.proofs.Common.{Some}
use Rattle.drill.specs.Turns.{HasDrilled}
use Rattle.drill.proofs.edit_loop.run_edits.Given as goal

abbrev pub invariant-edits : goal.invariant-edits
invariant-edits l =
    HasDrilled (Some l.media) l.index l.fn.random.state l.random.state l.accepted l.fn.edited.log
    l.fn.edited.timeline l.edited.log l.edited.timeline
