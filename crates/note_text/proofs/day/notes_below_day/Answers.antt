use Rattle.std.proofs.Common.{◌∙◌, ap, filter, rules}
use Rattle.std.proofs.lemmas.Fn.{filter_same}
use Rattle.note_text.specs.Belonging.{is_said_below_day}
use Rattle.note_text.proofs.day.notes_below_day.Goals as goal

pub returns : goal.returns
returns c =
    c.of.ensures ∙ filter_same _ (λ note. is_said_below_day c.args.rate c.args.drop note.said) _ (λ x b f r. search rules) _ _ c.retain.ensures.filtered
    ∙ ap (filter (λ note. is_said_below_day c.args.rate c.args.drop note.said)) c.into_vec-notes.ensures
