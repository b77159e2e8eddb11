use Rattle.otio_tools.proofs.Editing.{edit_halted, edit_unopened}
use Rattle.std.proofs.Common.{inl, inr, refl}
use Rattle.source_files.specs.Inputs.{input_content}
use Rattle.otio_tools.proofs.planning.edited.Goals as goal

pub returns-in-Err-run_script-clause-told : goal.returns-in-Err-run_script-clause-told
returns-in-Err-run_script-clause-told c = λ command named contents parts.
    edit_halted command c.args.name.now c.args.script.now named contents (input_content c.args.input)
    c.args.commands _ c.in-Ok.timeline c.in-Err-run_script.refusal parts c.in-Ok.ensures.opened
    c.in-Ok.ensures.sound.faultless c.in-Err-run_script.ensures.refused

pub returns-in-Err-clause-told : goal.returns-in-Err-clause-told
returns-in-Err-clause-told c = λ command named contents parts.
    edit_unopened command c.args.name.now c.args.script.now named contents (input_content c.args.input)
    c.args.commands _ c.in-Err.refusal parts c.in-Err.ensures.refused

pub returns-in-Err-run_script-clause-named : goal.returns-in-Err-run_script-clause-named
returns-in-Err-run_script-clause-named c = inr refl

pub returns-in-Err-clause-named : goal.returns-in-Err-clause-named
returns-in-Err-clause-named c = inl refl
