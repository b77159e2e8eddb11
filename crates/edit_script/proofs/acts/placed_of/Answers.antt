use Rattle.std.proofs.Common.{sym, ◌∙◌, rules, FitsSigned, w64}
use Rattle.std.proofs.lemmas.Int.{to_z-of_z}
use Rattle.edit_script.specs.Words.{words_of}
use Rattle.edit_script.proofs.ActLemmas.{placed_none, placed_one, placed_no_number, placed_no_place, placed_is}
use Rattle.edit_script.proofs.acts.placed_of.Goals as goal

pub returns-in_default : goal.returns-in_default
returns-in_default c = sym (placed_none c.args.verb (words_of c.args.line.now) c.in_default.ensures)

pub returns-in_default-next_word : goal.returns-in_default-next_word
returns-in_default-next_word c = sym (placed_one c.args.verb c.in-Some.first.now
    (words_of c.in-Some.rest.now) (words_of c.args.line.now) c.in-Some.ensures
    c.in_default-next_word.ensures)

pub returns-in_default-whole : goal.returns-in_default-whole
returns-in_default-whole c = sym (placed_no_number c.args.verb c.in-Some.first.now
    c.in-Some-next_word.second.now (words_of c.in-Some-next_word.rest.now)
    (words_of c.in-Some.rest.now) (words_of c.args.line.now)
    c.in-Some.ensures c.in-Some-next_word.ensures (sym c.whole.ensures ∙ c.in_default-whole.is))

pub returns-in-Some-2 : goal.returns-in-Some-2
returns-in-Some-2 c =
    let fits : FitsSigned w64 c.in-Some-whole.at = search rules in
    let made = simp to_z-of_z at c.edit_of.ensures in
    rw (placed_is c.args.verb c.in-Some.first.now c.in-Some-next_word.second.now c.in-Some-2.place
    c.in-Some-whole.at (words_of c.in-Some-next_word.rest.now) (words_of c.in-Some.rest.now)
    (words_of c.args.line.now)
    c.in-Some.ensures c.in-Some-next_word.ensures (sym c.in_ok-place.ensures ∙ c.in-Some-2.is)
    (sym c.whole.ensures ∙ c.in-Some-whole.is)) made

pub returns-in-None : goal.returns-in-None
returns-in-None c = sym (placed_no_place c.args.verb c.in-Some.first.now
    c.in-Some-next_word.second.now (words_of c.in-Some-next_word.rest.now)
    (words_of c.in-Some.rest.now) (words_of c.args.line.now)
    c.in-Some.ensures c.in-Some-next_word.ensures (sym c.in_ok-place.ensures ∙ c.in-None.is))
