use Rattle.edl_text.proofs.NoteTexts.{no_star, no_side, no_clip, note_or_none}
use Rattle.edl_text.proofs.read_comments.note_of.Goals as goal

pub returns-in_err-rest : goal.returns-in_err-rest
returns-in_err-rest c = rw c.from_residual.ensures (no_star _ _ c.in_err-rest.ensures)

pub returns-in_err-rest-2 : goal.returns-in_err-rest-2
returns-in_err-rest-2 c = rw c.from_residual-in_err-rest-2.ensures (no_side _ _ c.in_ok-rest.rest.now c.in_ok-rest.ensures c.in_err-rest-2.ensures)

pub returns-in_err-rest-3 : goal.returns-in_err-rest-3
returns-in_err-rest-3 c =
    rw c.from_residual-in_err-rest-3.ensures (no_clip _ _ c.in_ok-rest.rest.now c.in_ok-rest-2.rest.now c.in_ok-rest.ensures c.in_ok-rest-2.ensures c.in_err-rest-3.ensures)

pub returns : goal.returns
returns c = note_or_none _ _ _ c.in_ok-rest.rest.now c.in_ok-rest-2.rest.now c.in_ok-rest-3.rest.now c.in_ok-rest.ensures c.in_ok-rest-2.ensures c.in_ok-rest-3.ensures c.strip_front.ensures
