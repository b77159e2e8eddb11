-- Both ways.
use Rattle.json_law.proofs.Numerals.{numeral_of_json, json_of_numeral}
use Rattle.json_law.proofs.one_form.Goals as goal

pub returns : goal.returns
returns c = λ spelled. (numeral_of_json spelled, json_of_numeral spelled)
