use Rattle.std.proofs.Common.{[], ◌∷◌, inl, inr, refl}
use Rattle.source_files.proofs.HandedLemmas.{files_more, files_none, files_stop}
use Rattle.source_files.specs.Reading.{read_as}
use Rattle.otio_tools.specs.Asked.{asked_work, kind_of, media_source}
use Rattle.otio_tools.specs.Plan.{media_content}
use Rattle.otio_tools.specs.Texts.{text_at}
use Rattle.otio_tools.specs.Works.{content_of}
use Rattle.otio_tools.proofs.Serving.{given_planned, given_stopped}
use Rattle.otio_tools.proofs.WorkPlans.{leaves_none_of, rows_for, told_first}
use Rattle.source_files.proofs.FollowingLemmas.{follows_then}
use Rattle.source_files.specs.declared.read_faults.SourceFault.{SourceFault}
use Rattle.otio_tools.proofs.planning.plan_work.Goals as goal

pub returns-in-Ok-media_after-clause-kind : goal.returns-in-Ok-media_after-clause-kind
returns-in-Ok-media_after-clause-kind g c =
    rows_for c.args.command c.in-Ok.work c.judged.result c.in-Ok.ensures.of c.judged.ensures.kind

pub returns-in-Ok-media_after-clause-named : goal.returns-in-Ok-media_after-clause-named
returns-in-Ok-media_after-clause-named g c =
    told_first (kind_of c.args.command) c.args.name.now (media_source (text_at c.args.media))
    c.judged.result c.judged.ensures.named

pub returns-in-Err-media_after-clause-named : goal.returns-in-Err-media_after-clause-named
returns-in-Err-media_after-clause-named g c = inr c.in-Err-media_after.ensures.named

pub returns-in-Err-clause-named : goal.returns-in-Err-clause-named
returns-in-Err-clause-named g c = inl refl

pub returns-in-Ok-media_after-clause-given : goal.returns-in-Ok-media_after-clause-given
returns-in-Ok-media_after-clause-given g c = λ target.
    let media = text_at c.args.media in
    let file = read_as c.args.name.now (kind_of c.args.command) in
    let contents = content_of c.in-Ok.work ∷ media_content c.in-Ok-media_after.rows in
    given_planned (asked_work c.args.command c.args.name.now media target) contents c.judged.result
    _ _
    (c.in-Ok-media_after.ensures.given (file ∷ []) (content_of c.in-Ok.work ∷ []) _
    (files_more [] [] file (content_of c.in-Ok.work) _ _ _ (files_none _) c.in-Ok.ensures.given))
    (c.judged.ensures.told c.args.command media c.in-Ok.ensures.of)
    (leaves_none_of c.args.command contents c.judged.result c.requires.other
    c.judged.ensures.desk)

pub returns-in-Err-media_after-clause-given : goal.returns-in-Err-media_after-clause-given
returns-in-Err-media_after-clause-given g c = λ target.
    let media = text_at c.args.media in
    let file = read_as c.args.name.now (kind_of c.args.command) in
    given_stopped (asked_work c.args.command c.args.name.now media target)
    c.in-Err-media_after.stop _ _
    (c.in-Err-media_after.ensures.given (file ∷ []) (content_of c.in-Ok.work ∷ []) _
    (files_more [] [] file (content_of c.in-Ok.work) _ _ _ (files_none _) c.in-Ok.ensures.given))

pub returns-in-Err-clause-given : goal.returns-in-Err-clause-given
returns-in-Err-clause-given g c = λ target.
    let media = text_at c.args.media in
    let file = read_as c.args.name.now (kind_of c.args.command) in
    let stop : SourceFault = record { name = c.args.name; fault = c.in-Err.fault } in
    given_stopped (asked_work c.args.command c.args.name.now media target) stop _ _
    (files_stop [] (media_source media) [] file stop c.in-Err.fault _ _ _ (files_none _)
    c.in-Err.ensures.given refl refl)

pub returns-in-Ok-media_after-clause-followed : goal.returns-in-Ok-media_after-clause-followed
returns-in-Ok-media_after-clause-followed g c =
    follows_then _ _ _ _ _ _ c.in-Ok.ensures.followed c.in-Ok-media_after.ensures.followed

pub returns-in-Err-media_after-clause-followed : goal.returns-in-Err-media_after-clause-followed
returns-in-Err-media_after-clause-followed g c =
    follows_then _ _ _ _ _ _ c.in-Ok.ensures.followed c.in-Err-media_after.ensures.followed
