use Rattle.edit_plans.proofs.Rates.{record_rate-of_start}
use Rattle.edit_plans.proofs.laws.rates_are_record_rates.Goals as goal

pub returns : goal.returns
returns c = record_rate-of_start
