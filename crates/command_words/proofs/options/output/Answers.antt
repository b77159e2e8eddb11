use Rattle.std.proofs.Common.{ap, ◌∙◌}
use Rattle.clap.specs.declared.builder.arg.Arg.{Arg}
use Rattle.command_words.specs.Options.{lettered}
use Rattle.command_words.proofs.Reading.{lettered_rule}
use Rattle.command_words.proofs.options.output.Goals as goal

pub returns-clause-rule : goal.returns-clause-rule
returns-clause-rule c = lettered_rule c.valued.result c.short.result 111 c.short.ensures
    ∙ ap (lettered 111) c.valued.ensures.rule

pub returns-clause-local : goal.returns-clause-local
returns-clause-local c = ap (λ (a : Arg). a.global) c.short.ensures ∙ c.valued.ensures.local
