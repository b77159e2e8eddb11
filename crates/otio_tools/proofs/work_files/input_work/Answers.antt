use Rattle.std.proofs.Common.{ap}
use Rattle.source_files.specs.Kinds as kinds
use Rattle.otio_tools.specs.Asked.{kind_of}
use Rattle.otio_tools.proofs.WorkPlans.{given_by}
use Rattle.otio_tools.proofs.work_files.input_work.Goals as goal

pub returns-in-Ok-clause-given : goal.returns-in-Ok-clause-given
returns-in-Ok-clause-given g c =
    given_by c.args.name.now (kind_of c.args.command) kinds.Timeline _ _ _
    (ap kind_of c.in-Frames.is) c.in-Ok.ensures.given

pub returns-in-Err-clause-given : goal.returns-in-Err-clause-given
returns-in-Err-clause-given g c =
    given_by c.args.name.now (kind_of c.args.command) kinds.Timeline _ _ _
    (ap kind_of c.in-Frames.is) c.in-Err.ensures.given

pub returns-in-Ok-list_file-clause-given : goal.returns-in-Ok-list_file-clause-given
returns-in-Ok-list_file-clause-given g c =
    given_by c.args.name.now (kind_of c.args.command) (kinds.List c.in-ListFrames.rate) _ _ _
    (ap kind_of c.in-ListFrames.is) c.in-Ok-list_file.ensures.given

pub returns-in-Err-list_file-clause-given : goal.returns-in-Err-list_file-clause-given
returns-in-Err-list_file-clause-given g c =
    given_by c.args.name.now (kind_of c.args.command) (kinds.List c.in-ListFrames.rate) _ _ _
    (ap kind_of c.in-ListFrames.is) c.in-Err-list_file.ensures.given

pub returns-in-Ok-timeline_file-clause-given : goal.returns-in-Ok-timeline_file-clause-given
returns-in-Ok-timeline_file-clause-given g c =
    given_by c.args.name.now (kind_of c.args.command) kinds.Timeline _ _ _
    (ap kind_of c.in-Stat.is) c.in-Ok-timeline_file.ensures.given

pub returns-in-Err-timeline_file-clause-given : goal.returns-in-Err-timeline_file-clause-given
returns-in-Err-timeline_file-clause-given g c =
    given_by c.args.name.now (kind_of c.args.command) kinds.Timeline _ _ _
    (ap kind_of c.in-Stat.is) c.in-Err-timeline_file.ensures.given

pub returns-in-Ok-list_file-2-clause-given : goal.returns-in-Ok-list_file-2-clause-given
returns-in-Ok-list_file-2-clause-given g c =
    given_by c.args.name.now (kind_of c.args.command) (kinds.List c.in-ListStat.rate) _ _ _
    (ap kind_of c.in-ListStat.is) c.in-Ok-list_file-2.ensures.given

pub returns-in-Err-list_file-2-clause-given : goal.returns-in-Err-list_file-2-clause-given
returns-in-Err-list_file-2-clause-given g c =
    given_by c.args.name.now (kind_of c.args.command) (kinds.List c.in-ListStat.rate) _ _ _
    (ap kind_of c.in-ListStat.is) c.in-Err-list_file-2.ensures.given

pub returns-in-Ok-timeline_file-2-clause-given : goal.returns-in-Ok-timeline_file-2-clause-given
returns-in-Ok-timeline_file-2-clause-given g c =
    given_by c.args.name.now (kind_of c.args.command) kinds.Timeline _ _ _
    (ap kind_of c.in-Pull.is) c.in-Ok-timeline_file-2.ensures.given

pub returns-in-Err-timeline_file-2-clause-given : goal.returns-in-Err-timeline_file-2-clause-given
returns-in-Err-timeline_file-2-clause-given g c =
    given_by c.args.name.now (kind_of c.args.command) kinds.Timeline _ _ _
    (ap kind_of c.in-Pull.is) c.in-Err-timeline_file-2.ensures.given

pub returns-in-Ok-list_file-3-clause-given : goal.returns-in-Ok-list_file-3-clause-given
returns-in-Ok-list_file-3-clause-given g c =
    given_by c.args.name.now (kind_of c.args.command) (kinds.List c.in-ListPull.rate) _ _ _
    (ap kind_of c.in-ListPull.is) c.in-Ok-list_file-3.ensures.given

pub returns-in-Err-list_file-3-clause-given : goal.returns-in-Err-list_file-3-clause-given
returns-in-Err-list_file-3-clause-given g c =
    given_by c.args.name.now (kind_of c.args.command) (kinds.List c.in-ListPull.rate) _ _ _
    (ap kind_of c.in-ListPull.is) c.in-Err-list_file-3.ensures.given
