use Rattle.std.proofs.Common.{◌∙◌, ap, sym}
use Rattle.command_words.specs.declared.requests.Command.TheVariants as asked
use Rattle.source_files.specs.Kinds as kinds
use Rattle.otio_tools.specs.Asked.{kind_of, list_kind}
use Rattle.otio_tools.proofs.WorkPlans.{given_by}
use Rattle.otio_tools.proofs.work_files.work_file.Goals as goal

pub returns-in-Ok-clause-given : goal.returns-in-Ok-clause-given
returns-in-Ok-clause-given g c =
    given_by c.args.name.now (kind_of c.args.command) kinds.Json _ _ _
    (ap kind_of c.in-ToJson.is) c.in-Ok.ensures.given

pub returns-in-Err-clause-given : goal.returns-in-Err-clause-given
returns-in-Err-clause-given g c =
    given_by c.args.name.now (kind_of c.args.command) kinds.Json _ _ _
    (ap kind_of c.in-ToJson.is) c.in-Err.ensures.given

pub returns-in-Ok-object_file-clause-given : goal.returns-in-Ok-object_file-clause-given
returns-in-Ok-object_file-clause-given g c =
    given_by c.args.name.now (kind_of c.args.command) kinds.Object _ _ _
    (ap kind_of c.in-ToObjects.is) c.in-Ok-object_file.ensures.given

pub returns-in-Err-object_file-clause-given : goal.returns-in-Err-object_file-clause-given
returns-in-Err-object_file-clause-given g c =
    given_by c.args.name.now (kind_of c.args.command) kinds.Object _ _ _
    (ap kind_of c.in-ToObjects.is) c.in-Err-object_file.ensures.given

pub returns-in-Ok-log_file-clause-given : goal.returns-in-Ok-log_file-clause-given
returns-in-Ok-log_file-clause-given g c =
    given_by c.args.name.now (kind_of c.args.command) kinds.Log _ _ _
    (ap kind_of c.in-LogToMedia.is) c.in-Ok-log_file.ensures.given

pub returns-in-Err-log_file-clause-given : goal.returns-in-Err-log_file-clause-given
returns-in-Err-log_file-clause-given g c =
    given_by c.args.name.now (kind_of c.args.command) kinds.Log _ _ _
    (ap kind_of c.in-LogToMedia.is) c.in-Err-log_file.ensures.given

pub returns-in-Ok-list_held-clause-of : goal.returns-in-Ok-list_held-clause-of
returns-in-Ok-list_held-clause-of g c =
    let made = c.in-ListToList in (
      made.rate,
      made.is ∙ ap (asked.ListToList made.rate made.drop made.wide) (sym c.in-Ok-list_held.ensures.noted),
    )

pub returns-in-Ok-list_held-clause-given : goal.returns-in-Ok-list_held-clause-given
returns-in-Ok-list_held-clause-given g c =
    given_by c.args.name.now (kind_of c.args.command) (list_kind c.in-ListToList.rate c.in-ListToList.notes) _ _ _
    (ap kind_of c.in-ListToList.is) c.in-Ok-list_held.ensures.given

pub returns-in-Err-list_held-clause-given : goal.returns-in-Err-list_held-clause-given
returns-in-Err-list_held-clause-given g c =
    given_by c.args.name.now (kind_of c.args.command) (list_kind c.in-ListToList.rate c.in-ListToList.notes) _ _ _
    (ap kind_of c.in-ListToList.is) c.in-Err-list_held.ensures.given

pub returns-in-Ok-list_held-2-clause-of : goal.returns-in-Ok-list_held-2-clause-of
returns-in-Ok-list_held-2-clause-of g c =
    let made = c.in-ListToObjects in (
      made.rate,
      made.is ∙ ap (asked.ListToObjects made.rate made.older) (sym c.in-Ok-list_held-2.ensures.noted),
    )

pub returns-in-Ok-list_held-2-clause-given : goal.returns-in-Ok-list_held-2-clause-given
returns-in-Ok-list_held-2-clause-given g c =
    given_by c.args.name.now (kind_of c.args.command) (list_kind c.in-ListToObjects.rate c.in-ListToObjects.notes) _ _ _
    (ap kind_of c.in-ListToObjects.is) c.in-Ok-list_held-2.ensures.given

pub returns-in-Err-list_held-2-clause-given : goal.returns-in-Err-list_held-2-clause-given
returns-in-Err-list_held-2-clause-given g c =
    given_by c.args.name.now (kind_of c.args.command) (list_kind c.in-ListToObjects.rate c.in-ListToObjects.notes) _ _ _
    (ap kind_of c.in-ListToObjects.is) c.in-Err-list_held-2.ensures.given

pub returns-in-Ok-timeline_file-clause-given : goal.returns-in-Ok-timeline_file-clause-given
returns-in-Ok-timeline_file-clause-given g c =
    given_by c.args.name.now (kind_of c.args.command) kinds.Timeline _ _ _
    (ap kind_of c.in-TimelineToList.is) c.in-Ok-timeline_file.ensures.given

pub returns-in-Err-timeline_file-clause-given : goal.returns-in-Err-timeline_file-clause-given
returns-in-Err-timeline_file-clause-given g c =
    given_by c.args.name.now (kind_of c.args.command) kinds.Timeline _ _ _
    (ap kind_of c.in-TimelineToList.is) c.in-Err-timeline_file.ensures.given
