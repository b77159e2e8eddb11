use Rattle.std.proofs.Common.{sym, ◌∙◌}
use Rattle.edit_script.specs.Words.{words_of}
use Rattle.edit_script.proofs.ActLemmas.{step_is, step_more}
use Rattle.edit_script.proofs.acts.step_of.Goals as goal

pub returns-then-has_ended : goal.returns-then-has_ended
returns-then-has_ended c = c.step_word.ensures ∙ sym
    (step_is c.args.word.now (words_of c.args.line.now)
    (sym c.has_ended.ensures ∙ c.if-has_ended.true))

pub returns-else-has_ended : goal.returns-else-has_ended
returns-else-has_ended c = sym (step_more c.args.word.now (words_of c.args.line.now)
    (sym c.has_ended.ensures ∙ c.if-has_ended.false))
