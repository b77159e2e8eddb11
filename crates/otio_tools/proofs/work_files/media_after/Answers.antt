use Rattle.std.proofs.Common.{[], inl, refl}
use Rattle.source_files.proofs.HandedLemmas.{files_more, files_stop}
use Rattle.source_files.specs.Contents as content
use Rattle.source_files.specs.Reading.{read_as}
use Rattle.otio_tools.specs.Asked.{media_kind}
use Rattle.otio_tools.proofs.WorkPlans.{nothing_given}
use Rattle.source_files.proofs.FollowingLemmas.{follows_none}
use Rattle.otio_tools.proofs.work_files.media_after.Goals as goal

pub returns-in-Ok-clause-given : goal.returns-in-Ok-clause-given
returns-in-Ok-clause-given g c = λ front held start h. rw c.in-Some.is
    (files_more front held (read_as c.in-Some.name.now (media_kind c.in-Some.name.now))
    (content.Rows c.in-Ok.rows) start _ _ h c.in-Ok.ensures.given)

pub returns-in-Err-clause-given : goal.returns-in-Err-clause-given
returns-in-Err-clause-given g c = λ front held start h. rw c.in-Some.is
    (files_stop front [] held (read_as c.in-Some.name.now (media_kind c.in-Some.name.now))
    (record { name = c.in-Some.name; fault = c.in-Err.fault }) c.in-Err.fault start _ _ h c.in-Err.ensures.given refl refl)

pub returns-in-None-clause-given : goal.returns-in-None-clause-given
returns-in-None-clause-given g c = λ front held start h. rw c.in-None.is
    (nothing_given front held start _ h)

pub returns-in-Err-clause-named : goal.returns-in-Err-clause-named
returns-in-Err-clause-named g c = rw c.in-Some.is (inl refl)

pub returns-in-None-clause-followed : goal.returns-in-None-clause-followed
returns-in-None-clause-followed g c =
    follows_none _ _
