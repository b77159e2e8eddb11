use Rattle.std.proofs.Common.{sym, ◌∙◌}
use Rattle.edit_script.specs.Words.{words_of}
use Rattle.edit_script.proofs.ActLemmas.{said_verb}
use Rattle.edit_script.proofs.acts.said_by.Goals as goal

pub returns-in-Some-verb_of : goal.returns-in-Some-verb_of
returns-in-Some-verb_of c = rw (said_verb c.in-Some.word.now c.in-Some-verb_of.verb
    (words_of c.in-Some.rest.now) (words_of c.args.line.now) c.in-Some.ensures
    (sym c.verb_of.ensures ∙ c.in-Some-verb_of.is)) c.placed_of.ensures
