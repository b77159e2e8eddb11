use Rattle.std.proofs.Common.{refl, ap, ◌∙◌, arith}
use Rattle.clap.specs.Words.{app_of, with_rule}
use Rattle.command_words.proofs.Reading.{with_next, with_none}
use Rattle.command_words.proofs.options.with_all.Goals as goal

pub loop-taken-init : goal.loop-taken-init
loop-taken-init c = refl

pub loop-taken-preserved : goal.loop-taken-preserved
loop-taken-preserved c =
    let l = c.loop-taken in
    with_next c.args.all.now l.taken-index _ _ _ _ c.loop-taken-test.true
    (c.in_ok-command.ensures.shape c.arg_of.ensures.local
    ∙ ap (with_rule (app_of l.command)) c.arg_of.ensures.rule) l.invariant

pub returns : goal.returns
returns c =
    with_none c.args.all.now c.loop-taken.taken-index _ _ (omega arith) c.loop-taken.invariant
