use Rattle.std.proofs.Common.{sym, ◌∙◌}
use Rattle.edit_script.specs.Words.{words_of}
use Rattle.edit_script.proofs.ActLemmas.{filling_some, filling_no_put}
use Rattle.edit_script.proofs.acts.filling_of.Goals as goal

pub returns-in-Some-2 : goal.returns-in-Some-2
returns-in-Some-2 c = filling_some c.in-Some.word.now c.in-Some-fill_of.mode c.in-Some-2.put
    (words_of c.in-Some.rest.now) (words_of c.args.line.now) c.in-Some.ensures
    (sym c.fill_of.ensures ∙ c.in-Some-fill_of.is) (sym c.in-Some-2.is ∙ c.in_ok-put.ensures)

pub returns-in-None : goal.returns-in-None
returns-in-None c = filling_no_put c.in-Some.word.now c.in-Some-fill_of.mode
    (words_of c.in-Some.rest.now) (words_of c.args.line.now) c.in-Some.ensures
    (sym c.fill_of.ensures ∙ c.in-Some-fill_of.is) (sym c.in-None.is ∙ c.in_ok-put.ensures)
