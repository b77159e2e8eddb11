use Rattle.std.proofs.Common.{FitsSigned, ◌++◌, ◌∷◌, [], ◌∙◌, ap, arith, decimal, ◌/◌, ◌%◌}
use Rattle.std.proofs.lemmas.Int.{to_z-of_z}
use mir.Syntax.{w128}
use Rattle.tick_time.specs.Texts.{decimals_of}
use Rattle.tick_time.proofs.MillionthsText.{written}
use Rattle.tick_time.proofs.texts.millionths_text.Goals as goal

pub returns : goal.returns
returns c =
    let fits : FitsSigned w128 c.args.millionths = c.ranges.millionths in
    let a = simp to_z-of_z at c.unsigned_abs-size.ensures.value in
    let s = simp to_z-of_z at c.sign_text-text.ensures.bytes in
    let whole = c.push_number.ensures.bytes ∙ ap (λ x. x ++ decimal (c.unsigned_abs-size.result / 1000000)) s in
    let point = c.push_ascii.ensures ∙ ap (λ x. x ++ (46 ∷ [])) whole in
    written c.push_decimals.new.text.bytes c.args.millionths c.unsigned_abs-size.result a (omega (arith, a, c.requires))
    (c.push_decimals.ensures ∙ ap (λ x. x ++ decimals_of 6 (c.unsigned_abs-size.result % 1000000)) point)
