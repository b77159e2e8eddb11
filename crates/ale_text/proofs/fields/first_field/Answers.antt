use Rattle.std.proofs.Common.{◌∙◌}
use Rattle.ale_text.proofs.FieldLemmas.{first_before, first_alone}
use Rattle.ale_text.proofs.fields.first_field.Goals as goal

pub returns-in-Some : goal.returns-in-Some
returns-in-Some c =
    c.before-in-Some.ensures ∙ first_before c.args.line.now c.in-Some.end c.in-Some.ensures

pub returns-in-None : goal.returns-in-None
returns-in-None c = first_alone c.args.line.now c.in-None.ensures
