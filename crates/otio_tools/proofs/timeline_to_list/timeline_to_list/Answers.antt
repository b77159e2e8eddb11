use Rattle.otio_tools.proofs.PlanLemmas.{unsound_list}
use Rattle.otio_tools.proofs.timeline_to_list.timeline_to_list.Goals as goal

pub returns-in-Err-clause-owed : goal.returns-in-Err-clause-owed
returns-in-Err-clause-owed c = λ name.
    unsound_list c.args.ways.notes c.args.ways.drop c.args.ways.wide name c.args.media
    c.args.timeline c.in-Err.fault c.unsound.result c.in-Err.ensures.fault c.unsound.ensures

pub returns-then-notes-clause-owed : goal.returns-then-notes-clause-owed
returns-then-notes-clause-owed c = λ name.
    rw c.if-notes.true (c.noted_to_list.ensures.owed name)

pub returns-else-notes-clause-owed : goal.returns-else-notes-clause-owed
returns-else-notes-clause-owed c = λ name.
    rw c.if-notes.false (c.sound_to_list.ensures.owed name)
