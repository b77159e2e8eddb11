use Rattle.std.proofs.Common.{ap, ◌∙◌}
use Rattle.clap.specs.declared.builder.arg.Arg.{Arg}
use Rattle.command_words.specs.Options.{needed}
use Rattle.command_words.proofs.Reading.{needed_rule}
use Rattle.command_words.proofs.options.needed.Goals as goal

pub returns-clause-rule : goal.returns-clause-rule
returns-clause-rule c = needed_rule c.valued.result c.required.result c.required.ensures
    ∙ ap needed c.valued.ensures.rule

pub returns-clause-local : goal.returns-clause-local
returns-clause-local c = ap (λ (a : Arg). a.global) c.required.ensures ∙ c.valued.ensures.local
