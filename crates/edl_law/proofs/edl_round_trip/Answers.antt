use Rattle.edl_text.proofs.OneList.{one_list}
use Rattle.edl_law.proofs.RoundTrip.{reading}
use Rattle.edl_law.proofs.edl_round_trip.Goals as goal

pub returns : goal.returns
returns c = λ list drop wide h. let r = reading list drop wide h in record {
  read = r.read;
  reads = r.reads;
  same = r.same;
  only = λ other is. one_list list.rate _ other r.read is r.reads;
}
