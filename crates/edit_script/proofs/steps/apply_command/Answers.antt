use Rattle.std.proofs.Common.{refl}
use Rattle.std.specs.Option.{option_copied}
use Rattle.undo_log.specs.States.{state_of}
use Rattle.edit_script.proofs.CommandLemmas.{done_as, never_halts, never_inner, same_self}
use Rattle.edit_script.proofs.steps.apply_command.Goals as goal

pub returns-in-Ok-clause-done : goal.returns-in-Ok-clause-done
returns-in-Ok-clause-done c =
    done_as (option_copied c.args.media) c.args.command.now.act c.args.log.now c.commit.new.log
    c.args.timeline.now c.commit.new.timeline c.in-Ok.patch c.commit.result c.in-Ok.ensures.plan
    c.commit.ensures.done

pub returns-in-Ok-clause-fault : goal.returns-in-Ok-clause-fault
returns-in-Ok-clause-fault c =
    never_halts (option_copied c.args.media) c.args.command.now
    (state_of c.args.log.now c.args.timeline.now) c.commit.result c.commit.ensures.fault

pub returns-in-Ok-clause-inner : goal.returns-in-Ok-clause-inner
returns-in-Ok-clause-inner c = never_inner c.commit.result c.commit.ensures.fault

pub returns-in-Err-clause-same : goal.returns-in-Err-clause-same
returns-in-Err-clause-same c = same_self c.args.log.now c.args.timeline.now c.requires.ready

pub returns-in-Err-clause-fault : goal.returns-in-Err-clause-fault
returns-in-Err-clause-fault c = λ k.
    c.in-Err.ensures.fault k (state_of c.args.log.now c.args.timeline.now) refl
