use Rattle.std.proofs.Common.{subst, sym}
use Rattle.std.proofs.lemmas.Bool.{false≢true}
use Rattle.edl_text.specs.Saying.{IsKeyWord}
use Rattle.edl_text.proofs.RefusedLines.{event_form}
use Rattle.edl_text.proofs.statements.event_statement.Goals as goal

pub returns-in-None : goal.returns-in-None
returns-in-None c =
    event_form _ c.requires.tight c.requires.digit (λ k. false≢true (c.if-is_key_word.ensures.1 (subst IsKeyWord (sym c.fourth_field.ensures) k))) c.in-None.ensures
