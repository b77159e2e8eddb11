use Rattle.otio_tests.proofs.CallerLemmas.{committed-shows}
use Rattle.otio_tests.proofs.library_callers.edit_track.Goals as goal

pub returns-in-Ok-clause-shows : goal.returns-in-Ok-clause-shows
returns-in-Ok-clause-shows c =
    committed-shows c.room_commit.new.self c.commit.new.self c.args.timeline.now
    c.room_commit.new.timeline c.commit.new.timeline c.args.edit c.in_ok-patch.patch
    c.room_commit.ensures.timeline c.commit.ensures.state c.in_ok-patch.ensures.law
