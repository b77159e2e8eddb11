use Rattle.std.specs.Option.{option_copied}
use Rattle.edit_script.specs.Steps.{HasRun}
use Rattle.edit_script.proofs.running.apply_script.Given as goal

abbrev pub invariant-commands : goal.invariant-commands
invariant-commands l =
    HasRun (option_copied l.media) l.script l.command-index l.fn.log l.fn.timeline l.log l.timeline
