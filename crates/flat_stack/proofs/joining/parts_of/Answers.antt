use Rattle.std.proofs.Common.{true}
use Rattle.tick_time.specs.Rates.{frame}
use Rattle.flat_stack.proofs.InputLemmas.{sound_in}
use Rattle.flat_stack.proofs.JoinLemmas.{plain_inputs, kept_more}
use Rattle.flat_stack.proofs.joining.parts_of.Goals as goal

pub part_of-requires-clause-plain : goal.part_of-requires-clause-plain
part_of-requires-clause-plain c = plain_inputs true c.args.inputs.now c.inputs.index c.input_at.result.now c.requires.free c.input_at.ensures

pub part_of-requires-clause-faultless : goal.part_of-requires-clause-faultless
part_of-requires-clause-faultless c =
    (sound_in c.args.inputs.now c.inputs.index c.input_at.result.now c.requires.sound c.input_at.ensures).faultless.items

pub inputs-preserved : goal.inputs-preserved
inputs-preserved c =
    kept_more (frame c.args.rate.num c.args.rate.den) c.args.inputs.now c.inputs.parts.items c.push.new.self.items c.inputs.index c.input_at.result.now c.in-Ok.part
    c.inputs.invariant c.input_at.ensures c.in-Ok.ensures.part c.in-Ok.ensures.input c.in-Ok.ensures.stretch c.in_ok-push.ensures.items
