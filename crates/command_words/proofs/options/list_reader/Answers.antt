use Rattle.std.proofs.Common.{[], ◌∷◌, ◌++◌, ap, map, ◌∙◌}
use Rattle.std.proofs.lemmas.Result.{IfOk-weaker}
use Rattle.command_words.specs.Options.{list_options, unnamed, with_rules}
use Rattle.command_words.specs.Taken.{taken_rule}
use Rattle.command_words.proofs.Reading.{unnamed_app}
use Rattle.command_words.proofs.options.list_reader.Goals as goal

pub returns : goal.returns
returns c =
    let start = unnamed_app _ _ c.no_binary_name-command.ensures ∙ ap unnamed c.new.ensures.app in
    let own = c.in_ok-more.ensures
    ∙ ap (λ a. with_rules a (map taken_rule c.args.own.now)) start in
    let shared = list_options ++ taken_rule c.args.files ∷ [] in
    IfOk-weaker c.with_all-2.result _ _
    (λ more h. h ∙ ap (λ a. with_rules a shared) own) c.with_all-2.ensures
