use Rattle.std.proofs.Common.{refl}
use Rattle.std.specs.Option.{option_copied}
use Rattle.edit_script.proofs.Loops.{member, run_halts, run_more, run_same}
use Rattle.edit_script.proofs.running.apply_script.Goals as goal

pub returns-in-Err-clause-halts : goal.returns-in-Err-clause-halts
returns-in-Err-clause-halts c = λ k.
    let i = c.commands.command-index in
    run_halts (option_copied c.args.media) c.args.script.now i c.command-item.result c.args.log.now
    c.commands.log c.apply_command.new.log c.args.timeline.now c.commands.timeline
    c.apply_command.new.timeline c.in-Err.fault c.commands.invariant
    (member c.args.script.now i c.command-item.result c.commands-test.true c.command-item.is)
    c.in-Err.ensures.same (c.in-Err.ensures.fault k)

pub returns-in-Err-clause-narrow_some : goal.returns-in-Err-clause-narrow_some
returns-in-Err-clause-narrow_some c =
    let i = c.commands.command-index in (
      i,
      c.commands-test.true,
      run_same (option_copied c.args.media) c.args.script.now i c.args.log.now c.commands.log
          c.apply_command.new.log c.args.timeline.now c.commands.timeline
          c.apply_command.new.timeline c.commands.invariant c.in-Err.ensures.same,
    )

pub commands-init : goal.commands-init
commands-init c = record {
  ready = record { kept = c.requires.kept; editable = c.requires.editable };
  runs = refl;
  holds = λ d. d;
  each = λ old d. (old, (refl, refl), d);
}

pub commands-preserved : goal.commands-preserved
commands-preserved c =
    let i = c.commands.command-index in
    run_more (option_copied c.args.media) c.args.script.now i c.command-item.result c.args.log.now
    c.commands.log c.apply_command.new.log c.args.timeline.now c.commands.timeline
    c.apply_command.new.timeline c.commands.invariant
    (member c.args.script.now i c.command-item.result c.commands-test.true c.command-item.is)
    c.in-Ok.ensures.done
