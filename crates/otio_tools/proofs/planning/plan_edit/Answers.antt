use Rattle.std.proofs.Common.{[], ◌∷◌, inl, inr, refl}
use Rattle.source_files.proofs.HandedLemmas.{files_more, files_none, files_stop}
use Rattle.source_files.specs.Contents as content
use Rattle.source_files.specs.Inputs.{input_content, input_source}
use Rattle.source_files.specs.Kinds as kinds
use Rattle.source_files.specs.Reading.{read_as}
use Rattle.otio_tools.specs.Asked.{media_source}
use Rattle.otio_tools.specs.Plan.{media_content}
use Rattle.otio_tools.specs.Texts.{text_at}
use Rattle.otio_tools.proofs.WorkPlans.{edit_given, edit_parts, edit_unread, input_suits, told_of_edit}
use Rattle.source_files.proofs.FollowingLemmas.{follows_then}
use Rattle.source_files.specs.declared.read_faults.SourceFault.{SourceFault}
use Rattle.otio_tools.proofs.planning.plan_edit.Goals as goal

pub edited-ended-requires : goal.edited-ended-requires
edited-ended-requires g c = input_suits c.args.file.kind c.in-Ok.input c.in-Ok.ensures.suits

pub returns-in-Ok-media_after-clause-named : goal.returns-in-Ok-media_after-clause-named
returns-in-Ok-media_after-clause-named g c = λ command.
    told_of_edit command c.args.file.name.now c.args.script.now (text_at c.args.media)
    c.edited-ended.result c.edited-ended.ensures.named

pub returns-in-Err-media_after-clause-named : goal.returns-in-Err-media_after-clause-named
returns-in-Err-media_after-clause-named g c = λ command. inr (inr c.in-Err-media_after.ensures.named)

pub returns-in-Err-script_file-clause-named : goal.returns-in-Err-script_file-clause-named
returns-in-Err-script_file-clause-named g c = λ command. inr (inl refl)

pub returns-in-Err-clause-named : goal.returns-in-Err-clause-named
returns-in-Err-clause-named g c = λ command. inl refl

pub returns-in-Ok-media_after-clause-given : goal.returns-in-Ok-media_after-clause-given
returns-in-Ok-media_after-clause-given g c = λ command target is.
    let media = text_at c.args.media in
    let file = input_source c.args.file in
    let called = read_as c.args.script.now kinds.Script in
    let held = input_content c.in-Ok.input in
    edit_given command c.args.file c.args.script.now media target
    (held ∷ content.Commands c.in-Ok-script_file.commands ∷ media_content c.in-Ok-media_after.rows)
    c.edited-ended.result _ _ is
    (c.in-Ok-media_after.ensures.given (file ∷ called ∷ [])
    (held ∷ content.Commands c.in-Ok-script_file.commands ∷ []) _
    (files_more (file ∷ []) (held ∷ []) called (content.Commands c.in-Ok-script_file.commands) _ _ _
    (files_more [] [] file held _ _ _ (files_none _) c.in-Ok.ensures.given)
    c.in-Ok-script_file.ensures.given))
    ((rw c.as_ref.ensures.value at c.edited-ended.ensures.told) command media _
    (edit_parts command c.args.file c.in-Ok.input c.in-Ok-script_file.commands
    c.in-Ok-media_after.rows is c.in-Ok.ensures.suits))
    ((rw c.as_ref.ensures.value at c.edited-ended.ensures.work) command _
    (edit_parts command c.args.file c.in-Ok.input c.in-Ok-script_file.commands
    c.in-Ok-media_after.rows is c.in-Ok.ensures.suits))

pub returns-in-Err-media_after-clause-given : goal.returns-in-Err-media_after-clause-given
returns-in-Err-media_after-clause-given g c = λ command target is.
    let media = text_at c.args.media in
    let file = input_source c.args.file in
    let called = read_as c.args.script.now kinds.Script in
    let held = input_content c.in-Ok.input in
    edit_unread command c.args.file c.args.script.now media target c.in-Err-media_after.stop _ _ is
    (c.in-Err-media_after.ensures.given (file ∷ called ∷ [])
    (held ∷ content.Commands c.in-Ok-script_file.commands ∷ []) _
    (files_more (file ∷ []) (held ∷ []) called (content.Commands c.in-Ok-script_file.commands) _ _ _
    (files_more [] [] file held _ _ _ (files_none _) c.in-Ok.ensures.given)
    c.in-Ok-script_file.ensures.given))

pub returns-in-Err-script_file-clause-given : goal.returns-in-Err-script_file-clause-given
returns-in-Err-script_file-clause-given g c = λ command target is.
    let media = text_at c.args.media in
    let file = input_source c.args.file in
    let called = read_as c.args.script.now kinds.Script in
    let held = input_content c.in-Ok.input in
    let stop : SourceFault = record { name = c.args.script; fault = c.in-Err-script_file.fault } in
    edit_unread command c.args.file c.args.script.now media target stop _ _ is
    (files_stop (file ∷ []) (media_source media) (held ∷ []) called stop
    c.in-Err-script_file.fault _ _ _
    (files_more [] [] file held _ _ _ (files_none _) c.in-Ok.ensures.given)
    c.in-Err-script_file.ensures.given refl refl)

pub returns-in-Err-clause-given : goal.returns-in-Err-clause-given
returns-in-Err-clause-given g c = λ command target is.
    let media = text_at c.args.media in
    let file = input_source c.args.file in
    let called = read_as c.args.script.now kinds.Script in
    let stop : SourceFault = record { name = c.args.file.name; fault = c.in-Err.fault } in
    edit_unread command c.args.file c.args.script.now media target stop _ _ is
    (files_stop [] (called ∷ media_source media) [] file stop c.in-Err.fault _ _ _ (files_none _)
    c.in-Err.ensures.given refl refl)

pub returns-in-Ok-media_after-clause-followed : goal.returns-in-Ok-media_after-clause-followed
returns-in-Ok-media_after-clause-followed g c =
    follows_then _ _ _ _ _ _ (follows_then _ _ _ _ _ _ c.in-Ok.ensures.followed
    c.in-Ok-script_file.ensures.followed) c.in-Ok-media_after.ensures.followed

pub returns-in-Err-media_after-clause-followed : goal.returns-in-Err-media_after-clause-followed
returns-in-Err-media_after-clause-followed g c =
    follows_then _ _ _ _ _ _ (follows_then _ _ _ _ _ _ c.in-Ok.ensures.followed
    c.in-Ok-script_file.ensures.followed) c.in-Err-media_after.ensures.followed

pub returns-in-Err-script_file-clause-followed : goal.returns-in-Err-script_file-clause-followed
returns-in-Err-script_file-clause-followed g c =
    follows_then _ _ _ _ _ _ c.in-Ok.ensures.followed c.in-Err-script_file.ensures.followed
