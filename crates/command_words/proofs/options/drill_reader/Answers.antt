use Rattle.std.proofs.Common.{[], ◌∷◌, ap, ◌∙◌}
use Rattle.std.proofs.lemmas.Result.{IfOk-weaker}
use Rattle.command_words.specs.Options.{files, output, unnamed, with_rules}
use Rattle.command_words.proofs.Reading.{unnamed_app}
use Rattle.command_words.proofs.options.drill_reader.Goals as goal

pub returns : goal.returns
returns c =
    let start = unnamed_app _ _ c.no_binary_name-command.ensures ∙ ap unnamed c.new.ensures.app in
    IfOk-weaker c.with_all.result _ _
    (λ more h. h ∙ ap (λ a. with_rules a (output ∷ files ∷ [])) start) c.with_all.ensures
