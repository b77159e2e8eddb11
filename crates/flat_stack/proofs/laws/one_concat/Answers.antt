use Rattle.flat_stack.proofs.OneGathered.{concat_sure}
use Rattle.flat_stack.proofs.laws.one_concat.Goals as goal

pub returns : goal.returns
returns c = record {
  result = concat_sure.one;
  never = concat_sure.never;
  fault = concat_sure.fault;
}
