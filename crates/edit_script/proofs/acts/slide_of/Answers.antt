use Rattle.std.proofs.Common.{sym, ◌∙◌, rules, FitsSigned, w64}
use Rattle.std.proofs.lemmas.Int.{to_z-of_z}
use Rattle.edit_script.specs.Words.{words_of}
use Rattle.edit_script.specs.declared.commands.Act.TheVariants as A
use Rattle.edit_script.specs.Acts.{by_of}
use Rattle.edit_script.proofs.ActLemmas.{made, not_made}
use Rattle.edit_script.proofs.acts.slide_of.Goals as goal

pub returns-in-Some : goal.returns-in-Some
returns-in-Some c =
    let fits = c.ranges.at in
    let shift : FitsSigned w64 c.in-Some.by = search rules in
    simp to_z-of_z (made by_of (λ by. A.Slide c.args.place c.args.at by)
    c.in-Some.by (words_of c.args.line.now) (sym c.in-Some.is ∙ c.by_of.ensures))

pub returns-in-None : goal.returns-in-None
returns-in-None c =
    not_made by_of (λ by. A.Slide c.args.place c.args.at by)
    (words_of c.args.line.now) (sym c.in-None.is ∙ c.by_of.ensures)
