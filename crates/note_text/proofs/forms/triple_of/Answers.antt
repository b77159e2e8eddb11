use Rattle.std.proofs.Common.{ap, ◌∙◌}
use Rattle.text_lines.specs.Lines.{trimmed_front}
use Rattle.note_text.proofs.FormLemmas.{no_close, no_numerals, three}
use Rattle.note_text.proofs.forms.triple_of.Goals as goal

pub returns-in_default-first_byte : goal.returns-in_default-first_byte
returns-in_default-first_byte c = no_close c.args.text.now c.in-Some.inside.now c.in-Some.ensures c.in_default-first_byte.ensures

pub returns-in-Some-numerals_in : goal.returns-in-Some-numerals_in
returns-in-Some-numerals_in c =
    three c.args.text.now c.in-Some.inside.now _ c.in-Some-first_byte.end _ c.in-Some.ensures c.in-Some-first_byte.ensures (rw c.before-2.ensures at c.in-Some-numerals_in.ensures) (c.trim_front.ensures ∙ ap trimmed_front c.after.ensures)

pub returns-in-None : goal.returns-in-None
returns-in-None c =
    no_numerals c.args.text.now c.in-Some.inside.now c.in-Some-first_byte.end c.in-Some.ensures c.in-Some-first_byte.ensures (rw c.before-2.ensures at c.in-None.ensures)
