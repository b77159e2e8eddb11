use Rattle.std.proofs.Common.{sym, ap, ◌∙◌, Some}
use Rattle.std.proofs.lemmas.Str.{is_utf8-from_IsUtf8}
use Rattle.edit_script.proofs.Texts.{not_utf8, is_text, no_text}
use Rattle.edit_script.proofs.acts.text_of.Goals as goal

pub returns-in_ok-of-in-Ok : goal.returns-in_ok-of-in-Ok
returns-in_ok-of-in-Ok c =
    ap Some (c.in_ok-of-in-Ok.ensures ∙ c.in-Ok.ensures.cases.0)
    ∙ sym (is_text c.args.bytes.now
    (is_utf8-from_IsUtf8 c.args.bytes.now c.in-Ok.ensures.cases.1))

pub returns-in-Err : goal.returns-in-Err
returns-in-Err c =
    sym (no_text c.args.bytes.now (not_utf8 c.args.bytes.now c.in-Err.ensures.cases.0))
