use Rattle.json_text.proofs.OneText.{text_once, fault_once, fault_or_text}
use Rattle.json_text.proofs.one_outcome.Goals as goal

pub returns : goal.returns
returns c = record { value = text_once; fault = fault_once; either = fault_or_text }
