use Rattle.std.proofs.Common.{sym, ◌∙◌}
use Rattle.std.proofs.lemmas.Int.{to_z-of_z}
use Rattle.edit_script.specs.Words.{words_of}
use Rattle.edit_script.specs.declared.commands.Act.TheVariants as A
use Rattle.edit_script.specs.Acts.{mode_of}
use Rattle.edit_script.proofs.ActLemmas.{made, not_made}
use Rattle.edit_script.proofs.acts.removal_of.Goals as goal

pub returns-in-Some : goal.returns-in-Some
returns-in-Some c =
    let fits = c.ranges.at in
    simp to_z-of_z (made mode_of (λ mode. A.Remove c.args.place c.args.at mode)
    c.in-Some.mode (words_of c.args.line.now) (sym c.in-Some.is ∙ c.mode_of.ensures))

pub returns-in-None : goal.returns-in-None
returns-in-None c =
    not_made mode_of (λ mode. A.Remove c.args.place c.args.at mode)
    (words_of c.args.line.now) (sym c.in-None.is ∙ c.mode_of.ensures)
