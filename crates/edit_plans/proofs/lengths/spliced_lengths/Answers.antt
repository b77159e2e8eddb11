use Rattle.edit_plans.proofs.LongLemmas.{long_olds, long_both, long_front, long_back, long_between}
use Rattle.edit_plans.proofs.lengths.spliced_lengths.Goals as goal

pub returns : goal.returns
returns c = record {
  olds = long_olds;
  joined = long_both;
  front = long_front;
  back = long_back;
  between = long_between;
}
