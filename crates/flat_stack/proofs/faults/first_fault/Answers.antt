use Rattle.std.proofs.Common.{arith, true}
use Rattle.flat_stack.proofs.InputLemmas.{memory_first, sound_in, free_more, free_inputs, refused_at}
use Rattle.flat_stack.proofs.faults.first_fault.Goals as goal

pub input_fault-requires-clause-faultless : goal.input_fault-requires-clause-faultless
input_fault-requires-clause-faultless c =
    (sound_in c.args.inputs.now c.inputs.index c.input_at-input.result.now c.requires.sound c.input_at-input.ensures).faultless.items

pub returns-in-Some-clause-some : goal.returns-in-Some-clause-some
returns-in-Some-clause-some c =
    refused_at c.args.inputs.now c.inputs.index c.input_at-input.result.now c.in-Some.spot c.told.result c.inputs-test.true c.inputs.invariant c.input_at-input.ensures c.in-Some.ensures.some c.told.ensures.said c.told.ensures.input

pub inputs-preserved : goal.inputs-preserved
inputs-preserved c =
    free_more c.args.inputs.now c.inputs.index c.input_at-input.result.now c.inputs-test.true c.inputs.invariant c.input_at-input.ensures c.in-None.ensures.none

pub returns-clause-none : goal.returns-clause-none
returns-clause-none c = free_inputs true c.args.inputs.now c.inputs.index (omega arith) c.inputs.invariant

pub returns-in-Some-clause-memory : goal.returns-in-Some-clause-memory
returns-in-Some-clause-memory c = memory_first c.inputs.index c.told.result.input c.told.result.fault c.told.ensures.input
