use Rattle.std.proofs.Common.{length}
use Rattle.edit_script.proofs.Outcomes.{never_both, one_halt, one_place, one_state}
use Rattle.edit_script.proofs.running.one_run.Goals as goal

pub returns : goal.returns
returns c = record {
  result = λ media script s q r. one_state media script (length script) s q r;
  place = one_place;
  fault = one_halt;
  either = never_both;
}
