use Rattle.std.proofs.Common.{sym, ◌∙◌}
use Rattle.std.proofs.lemmas.Int.{to_z-of_z}
use Rattle.edit_script.specs.Words.{words_of}
use Rattle.edit_script.specs.declared.commands.Act.TheVariants as A
use Rattle.edit_script.specs.Acts.{put_of}
use Rattle.edit_script.proofs.ActLemmas.{made, not_made}
use Rattle.edit_script.proofs.acts.insert_of.Goals as goal

pub returns-in-Some : goal.returns-in-Some
returns-in-Some c =
    let fits = c.ranges.at in
    simp to_z-of_z (made put_of (λ put. A.Insert c.args.place c.args.at put)
    c.in-Some.put (words_of c.args.line.now) (sym c.in-Some.is ∙ c.in_ok-put.ensures))

pub returns-in-None : goal.returns-in-None
returns-in-None c =
    not_made put_of (λ put. A.Insert c.args.place c.args.at put)
    (words_of c.args.line.now) (sym c.in-None.is ∙ c.in_ok-put.ensures)
