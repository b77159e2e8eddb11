use Rattle.pull_list.specs.Pulled.{stretches_of}
use Rattle.otio_tools.proofs.PullPlans.{frames_refused, pull_told}
use Rattle.otio_tools.proofs.pull_command.pulled.Goals as goal

pub returns-in-Ok-pull_text-clause-owed : goal.returns-in-Ok-pull_text-clause-owed
returns-in-Ok-pull_text-clause-owed c = λ name.
    pull_told c.args.handles name c.args.timeline.now (stretches_of c.in-Ok.spans.items)
    c.in-Ok-pull_text.text c.requires.sound c.in-Ok.ensures.bounded c.in-Ok.ensures.list
    (rw c.as_slice.ensures.value at c.in-Ok-pull_text.ensures)

pub returns-in-Err-Frames-clause-owed : goal.returns-in-Err-Frames-clause-owed
returns-in-Err-Frames-clause-owed c = λ name.
    frames_refused c.args.handles name c.args.timeline.now c.in-Err-Frames.field-0
    c.pull_frames_reason.result c.requires.sound c.in-Err-Frames.field-0-is
    c.in-Err-Frames.ensures.fault c.pull_frames_reason.ensures
