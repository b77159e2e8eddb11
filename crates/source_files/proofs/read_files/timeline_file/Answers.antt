use Rattle.source_files.specs.Kinds as kinds
use Rattle.source_files.specs.Contents as contents
use Rattle.source_files.proofs.FollowingLemmas.{follows_then}
use Rattle.source_files.proofs.HandedLemmas.{opened_as, unopened_as}
use Rattle.source_files.proofs.read_files.timeline_file.Goals as goal

pub returns-in-Ok-clause-given : goal.returns-in-Ok-clause-given
returns-in-Ok-clause-given g c =
    opened_as kinds.Timeline contents.Film c.args.name.now _ _ _ c.read_timeline.result c.in-Ok.ensures.given
    c.read_timeline.ensures.given

pub returns-in-Err-clause-given : goal.returns-in-Err-clause-given
returns-in-Err-clause-given g c =
    unopened_as kinds.Timeline c.args.name.now c.in-Err.fault _ _ c.in-Err.ensures.given

pub returns-in-Ok-clause-followed : goal.returns-in-Ok-clause-followed
returns-in-Ok-clause-followed g c =
    follows_then _ _ _ _ _ _ c.in-Ok.ensures.followed c.read_timeline.ensures.followed
