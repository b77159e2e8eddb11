use Rattle.std.proofs.Common.{◌≡◌, ◌∷◌, ◌++◌, List, ap, length, map, sym, ◌∙◌}
use Rattle.command_words.specs.Asked.{other_names}
use Rattle.source_files.specs.Inputs.{input_content, input_source}
use Rattle.source_files.specs.Reading.{Source}
use Rattle.otio_tools.specs.Asked.{input_named, media_source}
use Rattle.otio_tools.specs.Plan.{media_content}
use Rattle.otio_tools.specs.Several.{names_now}
use Rattle.otio_tools.specs.Texts.{text_at}
use Rattle.otio_tools.proofs.SeveralFiles.{names_gathered, names_length, several_given, several_unread_given, sources_named}
use Rattle.otio_tools.proofs.WorkPlans.{among_after, among_before, inputs_many, inputs_suit, length_mapped, unread_before}
use Rattle.otio_tools.proofs.Reporting.{several_named, several_unread}
use Rattle.source_files.proofs.FollowingLemmas.{follows_then}
use Rattle.otio_tools.proofs.cat_and_tool.plan_several.Goals as goal

pub judged_several-requires-clause-same : goal.judged_several-requires-clause-same
judged_several-requires-clause-same g c =
    inputs_many c.as_slice-3.result.now c.in-Ok-input_files.inputs.items c.in-Ok-input_files.ensures.suits
    ∙ ap length (ap (map input_source) c.as_slice-3.ensures.value ∙ c.in-Ok-sources_of.ensures
    ∙ ap (λ n. map (input_named c.args.command) (names_now n)) c.as_slice-2.ensures.value)
    ∙ length_mapped (input_named c.args.command) (names_now c.in-Ok.names.items)
    ∙ names_length c.in-Ok.names.items ∙ sym (ap length c.as_slice-in-Ok-media_after.ensures.value)

pub judged_several-requires-clause-editable : goal.judged_several-requires-clause-editable
judged_several-requires-clause-editable g c =
    inputs_suit c.as_slice-3.result.now c.in-Ok-input_files.inputs.items
    c.in-Ok-input_files.ensures.suits

pub returns-in-Ok-media_after-clause-named : goal.returns-in-Ok-media_after-clause-named
returns-in-Ok-media_after-clause-named g c =
    several_named c.args.command c.args.name.now (other_names c.args.others)
    (names_now c.in-Ok.names.items) c.judged_several.result c.requires.several
    c.requires.scripted
    (c.in-Ok.ensures ∙ ap (λ n. c.args.name.now ∷ names_now n) c.as_slice.ensures.value)
    (rw c.as_slice-in-Ok-media_after.ensures.value at c.judged_several.ensures.named)

pub returns-in-Ok-input_files-clause-named : goal.returns-in-Ok-input_files-clause-named
returns-in-Ok-input_files-clause-named g c =
    let front = map input_source c.as_slice-3.result.now in
    let named = names_gathered _ _ _ _ c.in-Ok.ensures c.as_slice.ensures.value in
    let same = sources_named _ (text_at c.args.others.media) _ _ _ _ c.as_slice-3.ensures.value
    c.in-Ok-sources_of.ensures c.as_slice-2.ensures.value in
    several_unread c.args.command c.args.name.now (other_names c.args.others) (front ++ media_source (text_at c.args.others.media)) _
    c.in-Err-media_after.stop.name.now c.requires.several c.requires.scripted same named
    (among_after front (media_source (text_at c.args.others.media)) c.in-Err-media_after.stop.name.now
    c.in-Err-media_after.ensures.named)

pub returns-clause-named : goal.returns-clause-named
returns-clause-named g c =
    let front = map input_source c.as_slice-3.result.now in
    let named = names_gathered _ _ _ _ c.in-Ok.ensures c.as_slice.ensures.value in
    let same = sources_named _ (text_at c.args.others.media) _ _ _ _ c.as_slice-3.ensures.value
    c.in-Ok-sources_of.ensures c.as_slice-2.ensures.value in
    several_unread c.args.command c.args.name.now (other_names c.args.others) (front ++ media_source (text_at c.args.others.media)) _
    c.in-Err.stop.name.now c.requires.several c.requires.scripted same named
    (among_before front (media_source (text_at c.args.others.media)) c.in-Err.stop.name.now c.in-Err.ensures.named)

pub returns-in-Ok-media_after-clause-given : goal.returns-in-Ok-media_after-clause-given
returns-in-Ok-media_after-clause-given g c = λ target.
    let front = map input_source c.as_slice-3.result.now in
    let named = names_gathered _ _ _ _ c.in-Ok.ensures c.as_slice.ensures.value in
    let same = sources_named _ (text_at c.args.others.media) _ _ _ _ c.as_slice-3.ensures.value
    c.in-Ok-sources_of.ensures c.as_slice-2.ensures.value in
    let held = map input_content c.in-Ok-input_files.inputs.items in
    several_given c.args.command c.args.name.now (other_names c.args.others) target (front ++ media_source (text_at c.args.others.media)) _
    (held ++ media_content c.in-Ok-media_after.rows) c.judged_several.result _ _
    c.requires.several c.requires.scripted same named
    (c.in-Ok-media_after.ensures.given front held _ c.in-Ok-input_files.ensures.given)
    (rw c.as_slice-in-Ok-media_after.ensures.value at (c.judged_several.ensures.told (text_at c.args.others.media)))
    c.judged_several.ensures.desk

pub returns-in-Ok-input_files-clause-given : goal.returns-in-Ok-input_files-clause-given
returns-in-Ok-input_files-clause-given g c = λ target.
    let front = map input_source c.as_slice-3.result.now in
    let named = names_gathered _ _ _ _ c.in-Ok.ensures c.as_slice.ensures.value in
    let same = sources_named _ (text_at c.args.others.media) _ _ _ _ c.as_slice-3.ensures.value
    c.in-Ok-sources_of.ensures c.as_slice-2.ensures.value in
    let held = map input_content c.in-Ok-input_files.inputs.items in
    several_unread_given c.args.command c.args.name.now (other_names c.args.others) target (front ++ media_source (text_at c.args.others.media)) _
    c.in-Err-media_after.stop _ _ c.requires.several c.requires.scripted same named
    (c.in-Err-media_after.ensures.given front held _ c.in-Ok-input_files.ensures.given)

pub returns-clause-given : goal.returns-clause-given
returns-clause-given g c = λ target.
    let front = map input_source c.as_slice-3.result.now in
    let named = names_gathered _ _ _ _ c.in-Ok.ensures c.as_slice.ensures.value in
    let same = sources_named _ (text_at c.args.others.media) _ _ _ _ c.as_slice-3.ensures.value
    c.in-Ok-sources_of.ensures c.as_slice-2.ensures.value in
    several_unread_given c.args.command c.args.name.now (other_names c.args.others) target (front ++ media_source (text_at c.args.others.media)) _
    c.in-Err.stop _ _ c.requires.several c.requires.scripted same named
    (unread_before front (media_source (text_at c.args.others.media)) c.in-Err.stop.name.now c.in-Err.stop.fault _ _
    c.in-Err.ensures.given)

pub returns-in-Ok-media_after-clause-followed : goal.returns-in-Ok-media_after-clause-followed
returns-in-Ok-media_after-clause-followed g c =
    follows_then _ _ _ _ _ _ c.in-Ok-input_files.ensures.followed
    c.in-Ok-media_after.ensures.followed

pub returns-in-Ok-input_files-clause-followed : goal.returns-in-Ok-input_files-clause-followed
returns-in-Ok-input_files-clause-followed g c =
    follows_then _ _ _ _ _ _ c.in-Ok-input_files.ensures.followed
    c.in-Err-media_after.ensures.followed
