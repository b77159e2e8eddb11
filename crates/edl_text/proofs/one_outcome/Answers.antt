use Rattle.edl_text.proofs.OneList.{one_list}
use Rattle.edl_text.proofs.OneFault.{one_fault, list_or_fault}
use Rattle.edl_text.proofs.one_outcome.Goals as goal

pub returns : goal.returns
returns c = record { list = one_list; fault = one_fault; either = list_or_fault }
