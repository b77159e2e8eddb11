use Rattle.coord.proofs.AgreementLemmas.{program_agrees}
use Rattle.coord.proofs.laws.agreement_is_seen.Goals as goal

pub returns : goal.returns
returns c = program_agrees
