use Rattle.note_text.proofs.FormLemmas.{no_star, no_note}
use Rattle.note_text.proofs.forms.spoken_in.Goals as goal

pub returns-in_default : goal.returns-in_default
returns-in_default c = no_star c.args.rate c.args.drop c.args.line.now c.in_default.ensures

pub returns-in-None-saturation_of : goal.returns-in-None-saturation_of
returns-in-None-saturation_of c = no_note c.args.rate c.args.drop c.args.line.now _ c.in-Some.ensures c.in-None.ensures c.in-None-correction_of.ensures c.in-None-saturation_of.ensures
