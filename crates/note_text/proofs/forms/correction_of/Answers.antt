use Rattle.note_text.specs.Views.{triple}
use Rattle.note_text.proofs.FormLemmas.{no_sop, no_slope, no_offset, no_power, no_end, corrects, none_left, some_left}
use Rattle.note_text.proofs.forms.correction_of.Goals as goal

pub returns-in_default : goal.returns-in_default
returns-in_default c = no_sop c.args.line.now c.in_default.ensures

pub returns-in_default-triple_of : goal.returns-in_default-triple_of
returns-in_default-triple_of c = no_slope c.args.line.now _ _ c.in-Some.ensures c.behind_colon.ensures c.in_default-triple_of.ensures

pub returns-in_default-triple_of-2 : goal.returns-in_default-triple_of-2
returns-in_default-triple_of-2 c =
    no_offset c.args.line.now _ _ _ (triple c.in-Some-triple_of.slope) c.in-Some.ensures c.behind_colon.ensures c.in-Some-triple_of.ensures c.in_default-triple_of-2.ensures

pub returns-in_default-triple_of-3 : goal.returns-in_default-triple_of-3
returns-in_default-triple_of-3 c =
    no_power c.args.line.now _ _ _ _ (triple c.in-Some-triple_of.slope) (triple c.in-Some-triple_of-2.offset) c.in-Some.ensures c.behind_colon.ensures c.in-Some-triple_of.ensures c.in-Some-triple_of-2.ensures
    c.in_default-triple_of-3.ensures

pub returns-then-not-is_empty : goal.returns-then-not-is_empty
returns-then-not-is_empty c =
    no_end c.args.line.now _ _ _ _ _ (triple c.in-Some-triple_of.slope) (triple c.in-Some-triple_of-2.offset) (triple c.in-Some-triple_of-3.power) c.in-Some.ensures c.behind_colon.ensures c.in-Some-triple_of.ensures
    c.in-Some-triple_of-2.ensures c.in-Some-triple_of-3.ensures (some_left _ c.if-not-is_empty.ensures)

pub returns : goal.returns
returns c = λ rate drop.
    corrects c.args.line.now _ _ _ _ _ (triple c.in-Some-triple_of.slope) (triple c.in-Some-triple_of-2.offset) (triple c.in-Some-triple_of-3.power) c.in-Some.ensures c.behind_colon.ensures c.in-Some-triple_of.ensures
    c.in-Some-triple_of-2.ensures c.in-Some-triple_of-3.ensures (none_left _ c.if-not-is_empty.ensures)
