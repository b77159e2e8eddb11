use Rattle.otio_tools.proofs.WorkPlans.{conform_held, noted_conform_held}
use Rattle.otio_tools.proofs.planning.list_to_objects.Goals as goal

pub returns-in-Plain-clause-owed : goal.returns-in-Plain-clause-owed
returns-in-Plain-clause-owed c = λ rate file files. rw c.in-Plain.is
    (conform_held rate c.args.older c.in-Plain.list c.args.media file files
    c.conformed_to_write.result (c.conformed_to_write.ensures.owed file.name))

pub returns-in-Noted-clause-owed : goal.returns-in-Noted-clause-owed
returns-in-Noted-clause-owed c = λ rate file files. rw c.in-Noted.is
    (noted_conform_held rate c.args.older c.in-Noted.list c.in-Noted.notes c.args.media file files
    c.noted_to_write.result (c.noted_to_write.ensures.owed file.name))
