use Rattle.std.proofs.Common.{Ok, Err}
use Rattle.source_files.specs.Kinds as kinds
use Rattle.source_files.specs.Contents as contents
use Rattle.source_files.specs.declared.inputs.InputKind.TheVariants as read
use Rattle.source_files.proofs.FollowingLemmas.{follows_then}
use Rattle.source_files.proofs.HandedLemmas.{opened_as, unopened_as}
use Rattle.source_files.proofs.Walking.{given_as_kind}
use Rattle.source_files.proofs.read_files.input_by_kind.Goals as goal

pub returns-in-Ok-list_file-clause-given : goal.returns-in-Ok-list_file-clause-given
returns-in-Ok-list_file-clause-given g c =
    given_as_kind c.args.file.now (read.List c.in-List.rate) _ _ _ c.in-List.is
    c.in-Ok-list_file.ensures.given

pub returns-in-Err-list_file-clause-given : goal.returns-in-Err-list_file-clause-given
returns-in-Err-list_file-clause-given g c =
    given_as_kind c.args.file.now (read.List c.in-List.rate) _ _ _ c.in-List.is
    c.in-Err-list_file.ensures.given

pub returns-in-Ok-read_timeline-clause-given : goal.returns-in-Ok-read_timeline-clause-given
returns-in-Ok-read_timeline-clause-given g c =
    given_as_kind c.args.file.now read.Timeline _ _ _ c.in-Timeline.is
    (opened_as kinds.Timeline contents.Film c.args.file.now.name.now _ _ _
    (Ok c.in-Ok-read_timeline.timeline) c.in-Ok.ensures.given c.in-Ok-read_timeline.ensures.given)

pub returns-in-Ok-read_timeline-clause-followed : goal.returns-in-Ok-read_timeline-clause-followed
returns-in-Ok-read_timeline-clause-followed g c =
    follows_then _ _ _ _ _ _ c.in-Ok.ensures.followed c.in-Ok-read_timeline.ensures.followed

pub returns-in-Err-read_timeline-clause-given : goal.returns-in-Err-read_timeline-clause-given
returns-in-Err-read_timeline-clause-given g c =
    given_as_kind c.args.file.now read.Timeline _ _ _ c.in-Timeline.is
    (opened_as kinds.Timeline contents.Film c.args.file.now.name.now _ _ _
    (Err c.in-Err-read_timeline.fault) c.in-Ok.ensures.given c.in-Err-read_timeline.ensures.given)

pub returns-in-Err-read_timeline-clause-followed : goal.returns-in-Err-read_timeline-clause-followed
returns-in-Err-read_timeline-clause-followed g c =
    follows_then _ _ _ _ _ _ c.in-Ok.ensures.followed c.in-Err-read_timeline.ensures.followed

pub returns-in-Err-clause-given : goal.returns-in-Err-clause-given
returns-in-Err-clause-given g c =
    given_as_kind c.args.file.now read.Timeline _ _ _ c.in-Timeline.is
    (unopened_as kinds.Timeline c.args.file.now.name.now c.in-Err.fault _ _ c.in-Err.ensures.given)
