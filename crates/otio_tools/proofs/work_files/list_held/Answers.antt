use Rattle.std.proofs.Common.{ap}
use Rattle.source_files.specs.Kinds as kinds
use Rattle.otio_tools.specs.Asked.{list_kind}
use Rattle.otio_tools.proofs.WorkPlans.{given_by}
use Rattle.otio_tools.proofs.work_files.list_held.Goals as goal

pub returns-in-Ok-clause-given : goal.returns-in-Ok-clause-given
returns-in-Ok-clause-given g c =
    given_by c.args.name.now (list_kind c.args.rate c.args.notes) (kinds.NotedList c.args.rate) _ _ _
    (ap (list_kind c.args.rate) c.if-notes.true) c.in-Ok.ensures.given

pub returns-in-Err-clause-given : goal.returns-in-Err-clause-given
returns-in-Err-clause-given g c =
    given_by c.args.name.now (list_kind c.args.rate c.args.notes) (kinds.NotedList c.args.rate) _ _ _
    (ap (list_kind c.args.rate) c.if-notes.true) c.in-Err.ensures.given

pub returns-in-Ok-list_file-clause-given : goal.returns-in-Ok-list_file-clause-given
returns-in-Ok-list_file-clause-given g c =
    given_by c.args.name.now (list_kind c.args.rate c.args.notes) (kinds.List c.args.rate) _ _ _
    (ap (list_kind c.args.rate) c.if-notes.false) c.in-Ok-list_file.ensures.given

pub returns-in-Err-list_file-clause-given : goal.returns-in-Err-list_file-clause-given
returns-in-Err-list_file-clause-given g c =
    given_by c.args.name.now (list_kind c.args.rate c.args.notes) (kinds.List c.args.rate) _ _ _
    (ap (list_kind c.args.rate) c.if-notes.false) c.in-Err-list_file.ensures.given
