use Rattle.std.proofs.Common.{sym, ◌∙◌}
use Rattle.note_text.proofs.FormLemmas.{no_word, no_colon, no_label, no_color, no_text}
use Rattle.note_text.proofs.forms.locator_of.Goals as goal

pub returns-in_default : goal.returns-in_default
returns-in_default c = no_word c.args.rate c.args.drop c.args.line.now c.in_default.ensures

pub returns-in_default-behind : goal.returns-in_default-behind
returns-in_default-behind c = no_colon c.args.rate c.args.drop c.args.line.now c.in-Some.rest.now c.in-Some.ensures c.in_default-behind.ensures

pub returns-in_default-label_frame : goal.returns-in_default-label_frame
returns-in_default-label_frame c =
    no_label c.args.rate c.args.drop c.args.line.now _ _ _ _ c.in-Some.ensures c.in-Some-behind.ensures c.split_word.ensures (sym c.label_frame.ensures.frame ∙ c.in_default-label_frame.is)

pub returns-in_default-color_of : goal.returns-in_default-color_of
returns-in_default-color_of c =
    no_color c.args.rate c.args.drop c.args.line.now _ _ _ _ _ _ c.in-Some.ensures c.in-Some-behind.ensures c.split_word.ensures c.split_word-2.ensures c.in_default-color_of.ensures

pub returns-in_default-text_of : goal.returns-in_default-text_of
returns-in_default-text_of c =
    no_text c.args.rate c.args.drop c.args.line.now _ _ _ _ _ _ c.in-Some.ensures c.in-Some-behind.ensures c.split_word.ensures c.split_word-2.ensures c.in_default-text_of.ensures
