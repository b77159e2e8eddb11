use Rattle.std.proofs.Common.{sym, ◌∙◌}
use Rattle.std.proofs.lemmas.Int.{to_z-of_z}
use Rattle.edit_script.specs.Words.{words_of}
use Rattle.edit_script.specs.declared.commands.Act.TheVariants as A
use Rattle.edit_script.specs.Acts.{filling_of}
use Rattle.edit_script.proofs.ActLemmas.{made, not_made}
use Rattle.edit_script.proofs.acts.fill_edit_of.Goals as goal

pub returns-in-Some : goal.returns-in-Some
returns-in-Some c =
    let fits = c.ranges.at in
    simp to_z-of_z (made filling_of (λ e. A.Fill c.args.place c.args.at e.0 e.1)
    (c.in-Some.mode, c.in-Some.put) (words_of c.args.line.now)
    (sym c.in-Some.is ∙ c.in_ok-mode.ensures))

pub returns-in-None : goal.returns-in-None
returns-in-None c =
    not_made filling_of (λ e. A.Fill c.args.place c.args.at e.0 e.1)
    (words_of c.args.line.now) (sym c.in-None.is ∙ c.in_ok-mode.ensures)
