use Rattle.std.proofs.Common.{map, refl, sym, ◌∙◌}
use Rattle.std.specs.Option.{option_copied}
use Rattle.source_files.specs.Inputs.{input_content}
use Rattle.otio_tools.specs.Several.{named_inputs, names_now}
use Rattle.otio_tools.proofs.SeveralFiles.{each_joining, each_some, names_length, stop_calm, stopped_held, worked_held}
use Rattle.otio_tools.proofs.WorkPlans.{length_mapped}
use Rattle.otio_tools.proofs.Reporting.{unopened_among}
use Rattle.otio_tools.proofs.cat_and_tool.judged_several.Goals as goal

pub worked-requires-clause-some : goal.worked-requires-clause-some
worked-requires-clause-some c =
    each_some (option_copied c.as_ref.result) c.args.names.now
    (map input_content c.args.inputs.items) c.in-Ok.timelines.items
    (length_mapped input_content c.args.inputs.items ∙ c.requires.same) c.in-Ok.ensures.opened
    c.requires.some

pub worked-requires-clause-joining : goal.worked-requires-clause-joining
worked-requires-clause-joining c =
    each_joining c.args.command (option_copied c.as_ref.result) c.args.names.now
    (map input_content c.args.inputs.items) c.in-Ok.timelines.items
    (length_mapped input_content c.args.inputs.items ∙ c.requires.same) c.in-Ok.ensures.opened
    c.requires.joining

pub returns-in-Ok-clause-told : goal.returns-in-Ok-clause-told
returns-in-Ok-clause-told c = λ listed.
    worked_held c.args.command (names_now c.args.names.now) listed
    (map input_content c.args.inputs.items) _ c.args.media c.in-Ok.timelines.items c.worked.result
    c.requires.several refl
    (length_mapped input_content c.args.inputs.items ∙ c.requires.same
    ∙ sym (names_length c.args.names.now)) c.requires.editable
    (rw c.as_ref.ensures.value at c.in-Ok.ensures.opened) c.worked.ensures.owed

pub returns-in-Err-clause-told : goal.returns-in-Err-clause-told
returns-in-Err-clause-told c = λ listed.
    stopped_held c.args.command (names_now c.args.names.now) listed
    (map input_content c.args.inputs.items) _ c.args.media c.in-Err.stop
    c.requires.several refl
    (length_mapped input_content c.args.inputs.items ∙ c.requires.same
    ∙ sym (names_length c.args.names.now)) c.requires.editable
    (rw c.as_ref.ensures.value at c.in-Err.ensures.stopped)

pub returns-in-Err-clause-calm : goal.returns-in-Err-clause-calm
returns-in-Err-clause-calm c = λ n.
    stop_calm (option_copied c.as_ref.result) (named_inputs (names_now c.args.names.now)
    (map input_content c.args.inputs.items)) c.in-Err.stop n c.in-Err.ensures.stopped

pub returns-in-Err-clause-named : goal.returns-in-Err-clause-named
returns-in-Err-clause-named c =
    unopened_among (option_copied c.as_ref.result) (names_now c.args.names.now)
    (map input_content c.args.inputs.items) c.in-Err.stop c.in-Err.ensures.stopped
