use Rattle.std.proofs.Common.{sym, ◌∙◌}
use Rattle.edit_script.specs.Words.{words_of}
use Rattle.edit_script.proofs.ActLemmas.{only_is, only_more}
use Rattle.edit_script.proofs.acts.only_word.Goals as goal

pub returns-then-has_ended : goal.returns-then-has_ended
returns-then-has_ended c = only_is c.in_ok-word.word.now (words_of c.in_ok-word.rest.now)
    (words_of c.args.line.now) c.in_ok-word.ensures (sym c.has_ended.ensures ∙ c.if-has_ended.true)

pub returns-else-has_ended : goal.returns-else-has_ended
returns-else-has_ended c = only_more c.in_ok-word.word.now (words_of c.in_ok-word.rest.now)
    (words_of c.args.line.now) c.in_ok-word.ensures (sym c.has_ended.ensures ∙ c.if-has_ended.false)
