use Rattle.std.proofs.Common.{sym, ◌∙◌, rules, FitsSigned, w64}
use Rattle.std.proofs.lemmas.Int.{to_z-of_z}
use Rattle.edit_script.specs.Words.{words_of}
use Rattle.edit_script.specs.declared.commands.Act.TheVariants as A
use Rattle.edit_script.specs.Acts.{edges_of}
use Rattle.edit_script.proofs.ActLemmas.{made, not_made}
use Rattle.edit_script.proofs.acts.roll_of.Goals as goal

pub returns-in-Some : goal.returns-in-Some
returns-in-Some c =
    let fits = c.ranges.at in
    let head : FitsSigned w64 c.in-Some.head = search rules in
    let tail : FitsSigned w64 c.in-Some.tail = search rules in
    simp to_z-of_z (made edges_of (λ e. A.Roll c.args.place c.args.at e.0 e.1)
    (c.in-Some.head, c.in-Some.tail) (words_of c.args.line.now)
    (sym c.in-Some.is ∙ c.edges_of.ensures))

pub returns-in-None : goal.returns-in-None
returns-in-None c =
    not_made edges_of (λ e. A.Roll c.args.place c.args.at e.0 e.1)
    (words_of c.args.line.now) (sym c.in-None.is ∙ c.edges_of.ensures)
